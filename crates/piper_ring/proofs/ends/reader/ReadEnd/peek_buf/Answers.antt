-- The known bytes that are contiguous lie from the head's offset on.
use Rattle.piper_ring.proofs.Kit.{◌≡◌, ℕ, ◌-◌, ◌<◌, length, take, min, arith, sym, ap, ◌∙◌, length-take-le, slot_of as offset_of, ReadView, in_one_piece, slot_lt}
use Rattle.piper_ring.proofs.Indices.{offset_at}
use Rattle.piper_ring.proofs.ReaderFacts.{known_apart, within_known}
use Rattle.piper_ring.proofs.ends.reader.ReadEnd.peek_buf.Goals as goal

pub slice-requires : goal.slice-requires
slice-requires c = let e = c.self.inside.parts in let i = c.self.invariant in let cap : ℕ = e.indices.capacity in let from : ℕ = c.piece-piece.result.from in let many : ℕ = length e.known.bytes in
    let is : c.piece-piece.result.len ≡ min many (cap - from) = c.piece-piece.ensures.len ∙ (λ j. min (known_apart e i j) (cap - sym c.piece-piece.ensures.from j)) in let below : from < cap = c.piece-piece.ensures.below in
    let same : cap ≡ e.known.capacity = i.fits.0 ∙ sym i.placed.1 in
    (c.base-base.ensures ∙ sym i.placed.0, omega arith, offset_at cap _ e.seat.head _ i.cached.0 c.piece-piece.ensures.remainder ∙ (λ j. offset_of (same j) (sym i.placed.2 j)), omega arith)

pub returns-clause-bytes : goal.returns-clause-bytes
returns-clause-bytes c = let e = c.self.inside.parts in let i = c.self.invariant in let cap : ℕ = e.indices.capacity in let from : ℕ = c.piece-piece.result.from in let many : ℕ = length e.known.bytes in
    let is : c.piece-piece.result.len ≡ min many (cap - from) = c.piece-piece.ensures.len ∙ (λ j. min (known_apart e i j) (cap - sym c.piece-piece.ensures.from j)) in
    let offset : from ≡ offset_of cap (length (take e.seat.head e.seat.have)) = offset_at cap _ e.seat.head _ i.cached.0 c.piece-piece.ensures.remainder ∙ ap (λ (n : ℕ). offset_of cap n) (sym (length-take-le e.seat.head e.seat.have i.whole.0)) in
    c.slice.ensures ∙ ap (λ (n : ℕ). take n e.known.bytes) (is ∙ ap (λ (s : ℕ). min many (cap - s)) offset) ∙ ap (λ (r : ReadView). take (in_one_piece r) r.known) c.self.view_is

pub returns-clause-length : goal.returns-clause-length
returns-clause-length c = ap length (returns-clause-bytes c) ∙ length-take-le _ _ (within_known c.args.self.now _ (omega arith))

pub returns-clause-some : goal.returns-clause-some
returns-clause-some c = λ any. let i = c.self.invariant in let v = c.args.self.now in
    let inside = slot_lt v.capacity (length v.taken) (omega (arith, i.fits.1, ap (λ (r : ReadView). r.capacity) c.self.view_is)) in omega (arith, returns-clause-length c, any, inside)
