-- What was loaded is an index of the ring, at most a turn before the tail.
use Rattle.piper_ring.proofs.Kit.{arith}
use Rattle.piper_ring.proofs.WriterFacts.{head_apart, sent_below}
use Rattle.piper_ring.proofs.ends.writer.WriteEnd.load_head_knowing.Goals as goal

pub set_head-requires-clause-within : goal.set_head-requires-clause-within
set_head-requires-clause-within c = let i = c.self.invariant in let l = c.load_head-head.ensures in
    omega (arith, head_apart _ i _ _ l.sent l.room l.head, l.room, i.fits.0, sent_below _ i)
