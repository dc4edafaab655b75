-- That memory was refused is what a call of this function says.
use Rattle.piper_duplex.specs.Failures.{as_lost}
use Rattle.piper_duplex.proofs.engine.lost.lost.Goals as goal

pub returns-clause-lost : goal.returns-clause-lost
returns-clause-lost c = as_lost _
