-- What was taken back is what this function says.
use Rattle.piper_ring.proofs.Kit.{rules}
use Rattle.piper_ring.specs.Loads.{as_taken_back}
use Rattle.piper_ring.proofs.ends.slots.side.Side.take_back.Goals as goal

pub returns-clause-out : goal.returns-clause-out
returns-clause-out g c = record { some = search rules; taken = as_taken_back _ _ _ _ }
