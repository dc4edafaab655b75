-- The end keeps its view as the front of the known bytes goes over to what was taken.
use Rattle.piper_ring.proofs.Kit.{◌≡◌, ℕ, ◌+◌, ◌-◌, ◌≤◌, ◌<◌, ◌^◌, ◌++◌, List, length, take, arith, ap, ◌∙◌, sym, subst, length-take-le, length-drop, IsPrefix, position_of, ReaderIndices, Names, ReadView, read_view_of, in_one_piece, ring_of, drop_list, read_view}
use Rattle.piper_ring.proofs.Indices.{further}
use Rattle.piper_ring.proofs.ReaderFacts.{known_apart, within_known}
use Rattle.piper_ring.proofs.Taking.{taken_more, whole_still, all_counted}
use Rattle.piper_ring.proofs.ends.reader.ReadEnd.store_head.Goals as goal

pub consume-head-requires : goal.consume-head-requires
consume-head-requires c = let e = c.self.inside.parts in let le : c.args.n ≤ length e.known.bytes = within_known (read_view_of e) c.args.n (subst (λ (r : ReadView). c.args.n ≤ in_one_piece r) (sym c.self.view_is) c.requires.piece) in
    subst (λ (k : ℕ). c.args.n ≤ k) (sym (known_apart e c.self.invariant)) le

pub store_head-requires-clause-back : goal.store_head-requires-clause-back
store_head-requires-clause-back c = let e = c.self.inside.parts in let i = c.self.invariant in let d = c.split-back.ensures in let n : ℕ = c.args.n in let K : List ℕ = e.known.bytes in
    let le : n ≤ length K = within_known (read_view_of e) n (subst (λ (r : ReadView). n ≤ in_one_piece r) (sym c.self.view_is) c.requires.piece) in let back : length c.split-back.result.bytes ≡ n = ap length (λ j. (d.front j).bytes) ∙ length-take-le n K le in
    let sum : e.seat.seen ≡ e.seat.head + length K = i.counts.0 in let more : e.seat.head + length c.split-back.result.bytes ≤ e.seat.seen = omega arith in
    let cap = i.fits.0 in let there = c.consume-head.ensures.index ∙ further e.indices.capacity _ e.seat.head n _ c.consume-head.ensures.remainder i.cached.0 in
    (((λ j. (d.front j).at) ∙ i.placed.0, (λ j. (d.front j).capacity) ∙ i.placed.1, (λ j. (d.front j).first) ∙ i.placed.2), more, there ∙ sym (λ j. position_of (sym cap j) (e.seat.head + back j)))

pub invariant_of-self : goal.invariant_of-self
invariant_of-self c = let e = c.self.inside.parts in let i = c.self.invariant in let s = c.store_head.ensures.seat in let d = c.split-back.ensures in let n : ℕ = c.args.n in let K : List ℕ = e.known.bytes in let head : ℕ = e.seat.head in
    let le : n ≤ length K = within_known (read_view_of e) n (subst (λ (r : ReadView). n ≤ in_one_piece r) (sym c.self.view_is) c.requires.piece) in let back : length c.split-back.result.bytes ≡ n = ap length (λ j. (d.front j).bytes) ∙ length-take-le n K le in
    let top : c.store_head.new.self.head ≡ head + n = (λ j. (s j).head) ∙ ap (λ (m : ℕ). head + m) back in let rest : length c.split-back.new.self.bytes ≡ length K - n = ap length (λ j. (d.rest j).bytes) ∙ length-drop n K in
    let sum : e.seat.seen ≡ head + length K = i.counts.0 in let near : length K ≤ e.indices.capacity = i.counts.1 in let first : e.known.first ≡ head = i.placed.2 in let on : c.split-back.new.self.first ≡ e.known.first + n = (λ j. (d.rest j).first) in
    let all : length e.seat.have ≡ head + length K = all_counted e.seat.have K head n i.whole.0 i.whole.1 in let seen : c.store_head.new.self.seen ≡ e.seat.seen = (λ j. (s j).seen) in let same : length c.store_head.new.self.have ≡ length e.seat.have = ap length (λ j. (s j).have) in
    let g = c.consume-head.new.self in let cap : g.capacity ≡ e.indices.capacity = ap (λ (r : ReaderIndices). r.capacity) c.consume-head.ensures.after in let tail : g.tail ≡ e.indices.tail = ap (λ (r : ReaderIndices). r.tail) c.consume-head.ensures.after in
    let pos : 0 < e.indices.capacity = i.fits.1 in let small : e.indices.capacity < 2 ^ 63 = i.fits.2 in
    let there : g.head ≡ position_of g.capacity c.store_head.new.self.head = further e.indices.capacity _ head n _ c.consume-head.ensures.remainder i.cached.0 ∙ sym (λ j. position_of (cap j) (top j)) in
    record {
      fits = (cap ∙ i.fits.0 ∙ ap (λ (z : Names). z.capacity) (sym (λ j. (s j).names)), omega arith, omega arith);
      placed = ((λ j. (d.rest j).at) ∙ i.placed.0 ∙ sym (λ j. (s j).at), (λ j. (d.rest j).capacity) ∙ i.placed.1 ∙ ap (λ (z : Names). z.capacity) (sym (λ j. (s j).names)), omega arith);
      counts = (omega arith, omega arith);
      cached = (there, tail ∙ i.cached.1 ∙ sym (λ j. position_of (cap j) ((s j).seen)));
      heard = (i.heard.0 ∙ sym (λ j. (s j).names), i.heard.1 ∙ sym (λ j. (s j).names), i.heard.2 ∙ sym (λ j. (s j).names));
      stream = (subst (λ (l : List ℕ). IsPrefix l e.heard.bytes) (sym (λ j. (s j).have)) i.stream.0, i.stream.1, i.stream.2);
      leased = (i.leased.0 ∙ ap (λ (z : Names). z.life) (sym (λ j. (s j).names)), i.leased.1);
      whole = (omega arith, (λ j. (s j).have) ∙ whole_still e.seat.have K head n i.whole.0 i.whole.1 ∙ sym (λ j. take (top j) ((s j).have) ++ (d.rest j).bytes));
      here = (λ j. (s j).leaving) ∙ i.here;
    }

pub returns-clause-end : goal.returns-clause-end
returns-clause-end c = let e = c.self.inside.parts in let i = c.self.invariant in let s = c.store_head.ensures.seat in let d = c.split-back.ensures in let n : ℕ = c.args.n in let K : List ℕ = e.known.bytes in let head : ℕ = e.seat.head in
    let le : n ≤ length K = within_known (read_view_of e) n (subst (λ (r : ReadView). n ≤ in_one_piece r) (sym c.self.view_is) c.requires.piece) in let back : length c.split-back.result.bytes ≡ n = ap length (λ j. (d.front j).bytes) ∙ length-take-le n K le in
    let top : c.store_head.new.self.head ≡ head + n = (λ j. (s j).head) ∙ ap (λ (m : ℕ). head + m) back in
    let taken : take c.store_head.new.self.head c.store_head.new.self.have ≡ take head e.seat.have ++ take n K = (λ j. take (top j) ((s j).have)) ∙ taken_more e.seat.have K head n i.whole.0 i.whole.1 in
    let cap : c.consume-head.new.self.capacity ≡ e.indices.capacity = ap (λ (r : ReaderIndices). r.capacity) c.consume-head.ensures.after in
    (λ j. read_view (ring_of (s j).words (s j).at (s j).names) (cap j) (taken j) ((d.rest j).bytes) (length e.observed.bytes) e.observed.shut e.saw.shut e.heard.bytes)
    ∙ ap (λ (r : ReadView). record r { taken = r.taken ++ take n r.known; known = drop_list n r.known }) c.self.view_is
