-- The two ends of a new ring keep their views.
use Rattle.piper_ring.proofs.Kit.{◌≡◌, ℕ, ◌+◌, ◌-◌, ◌*◌, ◌^◌, ◌<◌, ◌++◌, List, length, take, arith, refl, ap, subst, ◌∙◌, sym, Names, IsPrefix, Reaches, reaches_same, ReaderIndices, WriterIndices, slot_of as offset_of}
use Rattle.rtrb.proofs.Positions.{position_none, slot_lt}
use Rattle.piper_ring.specs.declared.ring.marks.WriteMark.{WriteMark}
use Rattle.piper_ring.specs.declared.ring.places.Blank.{Blank}
use Rattle.piper_ring.proofs.ends.opening.open_ends.Goals as goal

-- a copy of a mark reports what it reports
same_as : (m n : WriteMark) → m ≡ n → Reaches (m.bytes, m.shut) (n.bytes, n.shut)
same_as m n e = subst (λ (k : WriteMark). Reaches (m.bytes, m.shut) (k.bytes, k.shut)) e (reaches_same (m.bytes, m.shut))

pub invariant_of-result : goal.invariant_of-result
invariant_of-result c = let o = c.open-read_seat.ensures in let seat = c.open-read_seat.result.0 in let n = c.none.ensures in let cap : ℕ = c.args.capacity in
    let most : 2 * cap < 2 ^ 64 = c.requires.capacity.1 in let first : c.none.result.first ≡ c.open-read_seat.result.2.first + 0 = (λ j. (n.none j).first) in let start : c.open-read_seat.result.2.first ≡ 0 = o.room.2 in let none : length c.none.result.bytes ≡ 0 = ap length (λ j. (n.none j).bytes) in
    let head : seat.head ≡ 0 = o.reader.0 in let seen : seat.seen ≡ 0 = o.reader.1 in let pos : 0 < cap = c.requires.capacity.0 in
    let named = c.mark-observed_by_reader.ensures.0 ∙ o.pair.2 in let all : seat.names.capacity ≡ cap = o.ring.1 ∙ c.requires.capacity.2 in let fresh = c.new.ensures.fresh in let same : c.new.result.capacity ≡ cap = ap (λ (r : ReaderIndices). r.capacity) fresh in let low : c.new.result.head ≡ 0 = ap (λ (r : ReaderIndices). r.head) fresh in let high : c.new.result.tail ≡ 0 = ap (λ (r : ReaderIndices). r.tail) fresh in
    record {
      fits = (same ∙ sym all, omega arith, omega arith);
      placed = ((λ j. (n.none j).at) ∙ o.room.0, (λ j. (n.none j).capacity) ∙ o.room.1 ∙ c.requires.capacity.2 ∙ sym all, omega arith);
      counts = (omega arith, omega arith);
      cached = (low ∙ position_none c.new.result.capacity seat.head head, high ∙ position_none c.new.result.capacity seat.seen seen);
      heard = (named, ap (λ (m : WriteMark). m.names) c.duplicate-read_saw.ensures ∙ named, ap (λ (m : WriteMark). m.names) c.duplicate-heard.ensures ∙ named);
      stream = (subst (λ (l : List ℕ). IsPrefix l c.duplicate-heard.result.bytes) (sym o.reader.2) (c.duplicate-heard.result.bytes, refl), same_as c.mark-observed_by_reader.result c.duplicate-heard.result (sym c.duplicate-heard.ensures), same_as c.duplicate-read_saw.result c.duplicate-heard.result (c.duplicate-read_saw.ensures ∙ sym c.duplicate-heard.ensures));
      leased = (c.requires.leases.0 ∙ sym o.ring.2, c.requires.leases.1);
      whole = (omega arith, o.reader.2 ∙ sym (λ j. take (o.reader.0 j) (o.reader.2 j) ++ (n.none j).bytes));
      here = o.reader.3;
    }

pub invariant_of-result-2 : goal.invariant_of-result-2
invariant_of-result-2 c = let o = c.open-read_seat.ensures in let seat = c.open-read_seat.result.1 in let blank : Blank = c.open-read_seat.result.2 in let left : c.none.new.self ≡ blank = c.none.ensures.same in let room = c.new-2.ensures in
    let cap : ℕ = c.args.capacity in let most : 2 * cap < 2 ^ 64 = c.requires.capacity.1 in let pos : 0 < cap = c.requires.capacity.0 in
    let at : c.new-2.result.lent.at ≡ blank.at = room.place.0 ∙ ap (λ (b : Blank). b.at) left in let many : c.new-2.result.lent.capacity ≡ blank.capacity = room.place.1 ∙ ap (λ (b : Blank). b.capacity) left in let given : c.args.parts.capacity ≡ cap = c.requires.capacity.2 in
    let first : c.new-2.result.lent.first ≡ 0 = room.whole.0 in let last : c.new-2.result.later.first + length c.new-2.result.later.bytes ≡ cap = room.whole.1 in
    let limit : seat.limit ≡ cap = o.writer.1 ∙ given in let sent : length seat.sent ≡ 0 = ap length o.writer.0 in let full : seat.names.capacity ≡ cap = ap (λ (z : Names). z.capacity) o.pair.2 ∙ o.ring.1 ∙ given in
    let fresh = c.new-3.ensures.fresh in let same : c.new-3.result.capacity ≡ cap = ap (λ (w : WriterIndices). w.capacity) fresh in let own : c.new-3.result.tail ≡ 0 = ap (λ (w : WriterIndices). w.tail) fresh in let other : c.new-3.result.head ≡ 0 = ap (λ (w : WriterIndices). w.head) fresh in
    let none : seat.limit - c.new-3.result.capacity ≡ 0 = omega arith in
    record {
      fits = (same ∙ sym full, omega arith, omega arith);
      room = (room.room, ap (λ (w : WriterIndices). w.zeroed) fresh ∙ sym room.zeroed);
      placed = (at ∙ o.room.0 ∙ sym o.pair.1, many ∙ o.room.1 ∙ given ∙ sym full, omega arith, omega arith);
      freed = (omega arith, omega arith);
      cached = (own ∙ position_none _ (length seat.sent) sent, other ∙ position_none _ (seat.limit - c.new-3.result.capacity) none);
      leased = (c.requires.leases.2 ∙ sym (ap (λ (z : Names). z.life) o.pair.2 ∙ o.ring.2), c.requires.leases.3);
      lending = ap (λ (w : WriterIndices). w.lent) fresh ∙ sym (ap length room.lent);
      heard = (c.mark-observed_by_writer.ensures.0 ∙ sym o.pair.2, c.unseen-write_saw.ensures.0 ∙ sym o.pair.2);
      closed = ap (λ (w : WriterIndices). w.is_shut) fresh ∙ sym o.writer.2;
      lends_none = λ _. room.lent;
      piece = let below : offset_of c.new-3.result.capacity (length seat.sent) < c.new-3.result.capacity = slot_lt _ _ (omega arith) in omega (arith, below, ap length room.lent);
    }
