use Rattle.piper_machine.proofs.Disjointness.{disjoint}
use Rattle.piper_machine.proofs.Soundness.{sound}
use Rattle.piper_machine.proofs.machine.Machine.w_lent.Goals as goal

pub returns-clause-sound : goal.returns-clause-sound
returns-clause-sound c = sound c.self.inside c.self.invariant _ c.self.view_is

pub returns-clause-disjoint : goal.returns-clause-disjoint
returns-clause-disjoint c = disjoint _ (returns-clause-sound c)
