-- That nothing was taken back by a side that doesn't wait is what this function says.
use Rattle.piper_ring.proofs.Kit.{rules}
use Rattle.piper_ring.specs.Loads.{as_taken_back}
use Rattle.piper_ring.proofs.ends.slots.side.Side.cancel.Goals as goal

pub returns-then-not-is_waiting-clause-out : goal.returns-then-not-is_waiting-clause-out
returns-then-not-is_waiting-clause-out g c = record { some = search rules; taken = as_taken_back _ _ _ _ }
