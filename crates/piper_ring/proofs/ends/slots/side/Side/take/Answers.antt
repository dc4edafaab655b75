-- What was taken is what this function says.
use Rattle.piper_ring.proofs.Kit.{rules}
use Rattle.piper_ring.specs.Loads.{as_taken}
use Rattle.piper_ring.proofs.ends.slots.side.Side.take.Goals as goal

pub returns-clause-ticket : goal.returns-clause-ticket
returns-clause-ticket g c = record { none = search rules; some = search rules; waker = as_taken _ _ _ _ }
