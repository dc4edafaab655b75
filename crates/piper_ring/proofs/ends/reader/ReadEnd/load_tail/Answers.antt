-- What was loaded is an index of the ring, at most a turn past the head.
use Rattle.piper_ring.proofs.Kit.{arith}
use Rattle.piper_ring.proofs.ReaderFacts.{tail_apart}
use Rattle.piper_ring.proofs.ends.reader.ReadEnd.load_tail.Goals as goal

pub set_tail-requires-clause-within : goal.set_tail-requires-clause-within
set_tail-requires-clause-within c = let i = c.self.invariant in let l = c.load_tail-tail.ensures in
    omega (arith, tail_apart _ i _ _ l.seen l.within l.tail, l.within, i.fits.0)
