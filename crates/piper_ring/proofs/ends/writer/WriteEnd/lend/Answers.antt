-- What is lent lies in the room and before the end of the memory.
use Rattle.piper_ring.proofs.Kit.{◌≡◌, ℕ, ◌+◌, ◌-◌, ◌<◌, ◌≤◌, length, min, arith, sym, refl, ap, subst, ◌∙◌, slot_of as offset_of, slot_small, WriterIndices, room_in, left_in, ring_of, WriteView, rules, lend_bound, written}
use Rattle.std.specs.List.{length_refill}
use Rattle.piper_ring.specs.LendsBuffer.{with_lent}
use Rattle.piper_ring.specs.WriteView.{Lendable, either, write_view, write_view_of}
use Rattle.piper_ring.proofs.Indices.{offset_at}
use Rattle.piper_ring.proofs.WriterFacts.{sent_below, room_apart, lends_within, lends_none, lends_all, lends_most}
use Rattle.piper_ring.proofs.ends.writer.WriteEnd.lend.Goals as goal

pub lend-requires : goal.lend-requires
lend-requires c = let e = c.self.inside.parts in let i = c.self.invariant in let cap : ℕ = e.indices.capacity in let s : ℕ = length e.seat.sent in let from : ℕ = c.lend-loan.result.from in let len : ℕ = c.lend-loan.result.len in
    let at : from ≡ offset_of cap s = offset_at cap _ s _ i.cached.0 c.lend-loan.ensures.remainder in let inside : from < cap = c.lend-loan.ensures.below in let whole : c.lend-loan.result.capacity ≡ cap = c.lend-loan.ensures.of.0 in
    let first : e.room.lent.first ≡ s = i.placed.2 in let last : e.room.later.first + length e.room.later.bytes ≡ e.seat.limit = i.placed.3 in let below : s ≤ e.seat.limit = sent_below e i in
    let most : len ≤ min (min c.args.max (lend_bound e.indices.zeroed)) (min (room_in e.indices) (left_in e.indices)) = lends_within c.args.max e.indices len c.lend-loan.ensures.len in
    let room : room_in e.indices ≡ e.seat.limit - s = room_apart e i in let left : left_in e.indices ≡ cap - from = ap (λ (k : ℕ). cap - k) (sym c.lend-loan.ensures.from) in
    (i.room.0, c.lend-loan.ensures.of.1 ∙ i.room.1, c.base-base.ensures ∙ sym i.placed.0, whole ∙ i.fits.0 ∙ sym i.placed.1, (λ lt. let small : s < cap = omega arith in at ∙ slot_small cap s small ∙ sym first), omega arith, omega arith)

pub slice_mut-requires : goal.slice_mut-requires
slice_mut-requires c = let e = c.self.inside.parts in let i = c.self.invariant in let cap : ℕ = e.indices.capacity in let s : ℕ = length e.seat.sent in let from : ℕ = c.lend-loan.result.from in let len : ℕ = c.lend-loan.result.len in let same = c.lend.ensures.same in
    let at : from ≡ offset_of cap s = offset_at cap _ s _ i.cached.0 c.lend-loan.ensures.remainder in let inside : from < cap = c.lend-loan.ensures.below in let all : c.lend.new.self.lent.capacity ≡ cap = same.capacity ∙ i.placed.1 ∙ sym i.fits.0 in
    let most : len ≤ min (min c.args.max (lend_bound e.indices.zeroed)) (min (room_in e.indices) (left_in e.indices)) = lends_within c.args.max e.indices len c.lend-loan.ensures.len in
    let left : left_in e.indices ≡ cap - from = ap (λ (k : ℕ). cap - k) (sym c.lend-loan.ensures.from) in
    let many : len ≡ length c.lend.new.self.lent.bytes = sym c.lend.ensures.lent in
    ((c.base-base.ensures ∙ sym i.placed.0 ∙ sym same.memory, omega arith, at ∙ sym (λ j. offset_of (all j) ((same.first ∙ i.placed.2) j)), omega arith), many)

pub returns : goal.returns
returns c = let e = c.self.inside.parts in let i = c.self.invariant in let w = e.indices in let cap : ℕ = w.capacity in let s : ℕ = length e.seat.sent in let from : ℕ = c.lend-loan.result.from in let len : ℕ = c.lend-loan.result.len in let count = c.lend-loan.ensures.len in
    let kept : c.lend-loan.new.self.capacity ≡ cap = ap (λ (v : WriterIndices). v.capacity) c.lend-loan.ensures.after in
    let long : length c.slice_mut.result.now ≡ len = ap length c.slice_mut.ensures.value ∙ c.lend.ensures.lent in
    let at : from ≡ offset_of cap s = offset_at cap _ s _ i.cached.0 c.lend-loan.ensures.remainder in let inside : from < cap = c.lend-loan.ensures.below in
    let most : len ≤ min (min c.args.max (lend_bound w.zeroed)) (min (room_in w) (left_in w)) = lends_within c.args.max w len count in
    let room : room_in w ≡ e.seat.limit - s = room_apart e i in let left : left_in w ≡ cap - from = ap (λ (k : ℕ). cap - k) (sym c.lend-loan.ensures.from) in
    let may : Lendable (write_view_of e) c.args.max len = ((λ shut. lends_none c.args.max w len count (i.closed ∙ shut)), omega arith, λ open_still. let most_of = lends_most e i c.args.max len count (i.closed ∙ open_still) in omega arith) in
    let observed : Lendable c.args.self.now c.args.max len = subst (λ (v : WriteView). Lendable v c.args.max len) c.self.view_is may in (
      (refl, λ ws. (λ j. write_view (ring_of e.seat.words e.seat.at e.seat.names) (kept j) e.seat.sent (e.seat.limit - s) (written c.slice_mut.result.now ws) e.seat.shut e.observed.count (either e.seat.shut e.saw.seen)) ∙ ap (λ (v : WriteView). with_lent v c.slice_mut.result.now ws) c.self.view_is),
      record {
        writes = tt;
        length = subst (λ (k : ℕ). Lendable c.args.self.now c.args.max k) (sym long) observed;
        some = λ open_still any asked. let all = lends_all c.args.max w len count (i.closed ∙ ap (λ (v : WriteView). v.shut) c.self.view_is ∙ open_still) in let same : e.seat.limit - s ≡ c.args.self.now.room = ap (λ (v : WriteView). v.room) c.self.view_is in omega arith;
      },
    )

pub invariant_of-self-lent : goal.invariant_of-self-lent
invariant_of-self-lent c ws = let e = c.self.inside.parts in let i = c.self.invariant in let cap : ℕ = e.indices.capacity in let s : ℕ = length e.seat.sent in let from : ℕ = c.lend-loan.result.from in let len : ℕ = c.lend-loan.result.len in
    let kept : c.lend-loan.new.self.capacity ≡ cap = ap (λ (v : WriterIndices). v.capacity) c.lend-loan.ensures.after in let at : from ≡ offset_of cap s = offset_at cap _ s _ i.cached.0 c.lend-loan.ensures.remainder in let inside : from < cap = c.lend-loan.ensures.below in
    let most : len ≤ min (min c.args.max (lend_bound e.indices.zeroed)) (min (room_in e.indices) (left_in e.indices)) = lends_within c.args.max e.indices len c.lend-loan.ensures.len in let left : left_in e.indices ≡ cap - from = ap (λ (k : ℕ). cap - k) (sym c.lend-loan.ensures.from) in
    let many : length (written c.slice_mut.result.now ws) ≡ len = sym (length_refill _ _ ws refl) ∙ ap length c.slice_mut.ensures.value ∙ c.lend.ensures.lent in
    record {
      fits = search rules;
      room = search rules;
      placed = search rules;
      freed = search rules;
      cached = search rules;
      leased = search rules;
      lending = search rules;
      heard = search rules;
      closed = search rules;
      lends_none = search rules;
      piece = subst (λ (k : ℕ). offset_of k s + length (written c.slice_mut.result.now ws) ≤ k) (sym kept) (omega (arith, at, inside, most, left, many));
    }
