-- Which waker was put there, and which came out, is what this function says.
use Rattle.std.proofs.Common.{rules}
use Rattle.piper_ring.specs.Loads.{as_put, as_taken_back}
use Rattle.piper_ring.proofs.ends.slots.side.Side.register.Goals as goal

pub returns-clause-put : goal.returns-clause-put
returns-clause-put g c = as_put _ _ _

pub returns-clause-out : goal.returns-clause-out
returns-clause-out g c = record { some = search rules; taken = as_taken_back _ _ _ _ }
