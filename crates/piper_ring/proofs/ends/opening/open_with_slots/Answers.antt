-- The logs of two sides that were just opened have no line.
use Rattle.piper_ring.proofs.Kit.{refl, are_told}
use Rattle.piper_ring.proofs.ends.opening.open_with_slots.Goals as goal

pub invariant_of-reader-clause-right : goal.invariant_of-reader-clause-right
unfolding are_told
invariant_of-reader-clause-right g c = rw c.open_ends-reader.ensures.logs.0.1 refl

pub invariant_of-writer-clause-right : goal.invariant_of-writer-clause-right
unfolding are_told
invariant_of-writer-clause-right g c = rw c.open_ends-reader.ensures.logs.1.1 refl
