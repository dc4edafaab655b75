use Rattle.piper_machine.proofs.Soundness.{sound}
use Rattle.piper_machine.proofs.WholeBySteps.{by_steps, rests}
use Rattle.piper_machine.proofs.machine.Machine.begin_whole.Goals as goal

pub returns-clause-rests : goal.returns-clause-rests
returns-clause-rests c = rests c.self.inside c.self.invariant c.args.side _ c.self.view_is c.requires

pub returns-clause-by_steps : goal.returns-clause-by_steps
returns-clause-by_steps c = by_steps c.self.inside c.self.invariant _ c.self.view_is

pub returns-clause-sound : goal.returns-clause-sound
returns-clause-sound c = sound c.self.inside c.self.invariant _ c.self.view_is
