use Rattle.piper_machine.proofs.Soundness.{sound}
use Rattle.piper_machine.proofs.machine.Machine.open_drain.Goals as goal

pub returns-clause-sound : goal.returns-clause-sound
returns-clause-sound c = sound c.self.inside c.self.invariant _ c.self.view_is
