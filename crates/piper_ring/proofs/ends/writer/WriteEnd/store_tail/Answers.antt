-- The end keeps its view as the front of what is lent goes over to what was sent.
use Rattle.piper_ring.proofs.Kit.{◌≡◌, ℕ, ◌+◌, ◌-◌, ◌^◌, ◌<◌, ◌≤◌, List, length, take, arith, ap, ◌∙◌, sym, subst, length-append, length-take-le, length-drop, position_of, WriterIndices, Names, WriteView, drop_list, slot_of as offset_of}
use Rattle.std.proofs.Math.Seq.{take-nil, drop-nil}
use Rattle.piper_ring.proofs.Indices.{further}
use Rattle.piper_ring.proofs.WriterFacts.{rest_of_piece}
use Rattle.piper_ring.proofs.ends.writer.WriteEnd.store_tail.Goals as goal

pub store_tail-requires-clause-bytes : goal.store_tail-requires-clause-bytes
store_tail-requires-clause-bytes c = let e = c.self.inside.parts in let i = c.self.invariant in let d = c.split-gift.ensures in let n : ℕ = c.args.n in let L : List ℕ = e.room.lent.bytes in let s : ℕ = length e.seat.sent in
    let le : n ≤ length L = subst (λ (w : WriteView). n ≤ length w.lent) (sym c.self.view_is) c.requires.lent in let gift : length c.split-gift.result.bytes ≡ n = ap length (λ j. (d.front j).bytes) ∙ length-take-le n L le in
    let first : e.room.lent.first ≡ s = i.placed.2 in let ready : e.room.ready.first ≡ e.room.lent.first + length L = i.room.0.chain.0 in let rest : e.room.ready.first + length e.room.ready.bytes + e.room.blank.count ≡ e.room.later.first = i.room.0.chain.1 in let last : e.room.later.first + length e.room.later.bytes ≡ e.seat.limit = i.placed.3 in
    let more : s + length c.split-gift.result.bytes ≤ e.seat.limit = omega arith in
    let cap = i.fits.0 in let there = c.publish-tail.ensures.index ∙ further e.indices.capacity _ s n _ c.publish-tail.ensures.remainder i.cached.0 in
    (((λ j. (d.front j).at) ∙ i.placed.0, (λ j. (d.front j).capacity) ∙ i.placed.1, (λ j. (d.front j).first) ∙ i.placed.2), more, (λ shut. (λ j. (d.front j).bytes) ∙ ap (take n) (i.lends_none shut) ∙ take-nil n), there ∙ sym (λ j. position_of (sym cap j) (s + gift j)))

pub invariant_of-self : goal.invariant_of-self
invariant_of-self c = let e = c.self.inside.parts in let i = c.self.invariant in let d = c.split-gift.ensures in let t = c.store_tail.ensures.seat in let n : ℕ = c.args.n in let L : List ℕ = e.room.lent.bytes in let s : ℕ = length e.seat.sent in let r = e.room in
    let le : n ≤ length L = subst (λ (w : WriteView). n ≤ length w.lent) (sym c.self.view_is) c.requires.lent in let gift : length c.split-gift.result.bytes ≡ n = ap length (λ j. (d.front j).bytes) ∙ length-take-le n L le in let rest : length c.split-gift.new.self.bytes ≡ length L - n = ap length (λ j. (d.rest j).bytes) ∙ length-drop n L in
    let sent : length c.store_tail.new.self.sent ≡ s + n = ap length (λ j. (t j).sent) ∙ length-append e.seat.sent c.split-gift.result.bytes ∙ ap (λ (m : ℕ). s + m) gift in let limit : c.store_tail.new.self.limit ≡ e.seat.limit = (λ j. (t j).limit) in
    let g = c.publish-tail.new.self in let after = c.publish-tail.ensures.after in let cap : g.capacity ≡ e.indices.capacity = ap (λ (w : WriterIndices). w.capacity) after in let head : g.head ≡ e.indices.head = ap (λ (w : WriterIndices). w.head) after in
    let lent : g.lent ≡ e.indices.lent - n = ap (λ (w : WriterIndices). w.lent) after in let was : e.indices.lent ≡ length L = i.lending in
    let pos : 0 < e.indices.capacity = i.fits.1 in let small : e.indices.capacity < 2 ^ 63 = i.fits.2 in let low : e.indices.capacity ≤ e.seat.limit = i.freed.0 in let near : e.seat.limit ≤ s + e.indices.capacity = i.freed.1 in
    let first : r.lent.first ≡ s = i.placed.2 in let on : c.split-gift.new.self.first ≡ r.lent.first + n = (λ j. (d.rest j).first) in let ready : r.ready.first ≡ r.lent.first + length L = i.room.0.chain.0 in let size : c.split-gift.new.self.capacity ≡ r.lent.capacity = (λ j. (d.rest j).capacity) in
    let set : r.blank.first ≤ r.lent.capacity = i.room.0.zeroing.0 in let unset : r.blank.count ≡ r.lent.capacity - r.blank.first = i.room.0.zeroing.1 in
    record {
      fits = (cap ∙ i.fits.0 ∙ ap (λ (z : Names). z.capacity) (sym (λ j. (t j).names)), omega arith, omega arith);
      room = (
        record {
          memory = (i.room.0.memory.0 ∙ sym (λ j. (d.rest j).at), i.room.0.memory.1 ∙ sym (λ j. (d.rest j).at), i.room.0.memory.2 ∙ sym (λ j. (d.rest j).at));
          capacity = (i.room.0.capacity.0 ∙ sym (λ j. (d.rest j).capacity), i.room.0.capacity.1 ∙ sym (λ j. (d.rest j).capacity), i.room.0.capacity.2 ∙ sym (λ j. (d.rest j).capacity));
          chain = (omega arith, i.room.0.chain.1);
          zeroing = (omega arith, omega arith);
          first_turn = λ lt. i.room.0.first_turn (omega arith);
        },
        ap (λ (w : WriterIndices). w.zeroed) after ∙ i.room.1,
      );
      placed = ((λ j. (d.rest j).at) ∙ i.placed.0 ∙ sym (λ j. (t j).at), (λ j. (d.rest j).capacity) ∙ i.placed.1 ∙ ap (λ (z : Names). z.capacity) (sym (λ j. (t j).names)), omega arith, i.placed.3 ∙ sym (λ j. (t j).limit));
      freed = (omega arith, omega arith);
      cached = (further e.indices.capacity _ s n _ c.publish-tail.ensures.remainder i.cached.0 ∙ sym (λ j. position_of (cap j) (sent j)), head ∙ i.cached.1 ∙ sym (λ j. position_of (cap j) (limit j - cap j)));
      leased = (i.leased.0 ∙ ap (λ (z : Names). z.life) (sym (λ j. (t j).names)), i.leased.1);
      lending = omega arith;
      piece = let fits = rest_of_piece e.indices.capacity s n (length L) pos i.piece le in subst (λ (k : ℕ). k ≤ g.capacity) (λ j. offset_of (sym cap j) (sym sent j) + sym rest j) (subst (λ (k : ℕ). offset_of e.indices.capacity (s + n) + (length L - n) ≤ k) (sym cap) fits);
      heard = (i.heard.0 ∙ sym (λ j. (t j).names), i.heard.1 ∙ sym (λ j. (t j).names));
      closed = ap (λ (w : WriterIndices). w.is_shut) after ∙ i.closed ∙ sym (λ j. (t j).shut);
      lends_none = λ shut. (λ j. (d.rest j).bytes) ∙ ap (drop_list n) (i.lends_none (sym (λ j. (t j).shut) ∙ shut)) ∙ drop-nil n;
    }
