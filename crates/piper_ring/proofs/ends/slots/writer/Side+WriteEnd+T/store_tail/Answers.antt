-- The store and its note leave it whether the log is true.
use Rattle.piper_ring.proofs.Kit.{◌∙◌, are_told}
use Rattle.piper_ring.proofs.ends.slots.writer.Side+WriteEnd+T.store_tail.Goals as goal

pub invariant_of-self-clause-right : goal.invariant_of-self-clause-right
unfolding are_told
invariant_of-self-clause-right g c = c.tell.ensures.right ∙ rw c.store_tail.ensures.noted c.args.self.now.right
