-- `leave` is one swap: it gives the end's places to the invariant, and takes all of the memory out
-- where the other end is gone. Assumes `Logic`.
use Rattle.piper_ring.proofs.Kit.{Bool, true, ◌≡◌, ℕ, ◌+◌, ◌-◌, ◌^◌, List, [], ◌∷◌, sym, refl, ap, arith, lit<, w64, Val, vint, vptr, SProp, emp, Fml, ftrue, ‵, raw, ◌⊛◌, given, mean, at_ret, ◌$◌, ◌∵◌, !, qed, by, move, keep, drop, join, split, fsplit, fsplit3, fjoin, fpick, fpack, learn, use0, use1, use2, rewrite, feq_i, flt_i, stop, fld, lit, of_opd, bin, no_more, and_then, first, blocks, exec, Calls-last, returns, enter, alloc_all, pass_all, free_all, look_at, get, get_in, sets, lands_last, is, env, agg, sub, whole as shape_all, fact, fact_i, tables, yes, owns, types_at, plain, Ptr, block_ptr, ptr_val, block_of, count_of, at_block, u64, nothing, alive, Stays, stay_dropped, walk_of, Goes-dropped, word-Good, after as from_on, asks, always, span, pair_val, pair_of, proved, leaves, seq_cst, fm, found, finds, swaps, unset, Names, RingIsPlaced, flag, common, half, blanks, reader_knows, where_gone, pointer_val, ghost_val, pointer_told, ghost_told, PointerData, pointer_made, group, lease}
use Rattle.piper_ring.specs.Loads.{FoundGone, as_gone}
use Rattle.piper_ring.specs.Shared as shared
use Rattle.piper_ring.proofs.Rights.{common_twice}
use Rattle.piper_ring.proofs.Steps.{flag_small}
use Rattle.piper_ring.proofs.Leaving.{Left, reader_leaves}
use Rattle.piper_cells.specs.contracts.lent_space.Lease as Lease
use Rattle.piper_ring.specs.contracts.ring.places.Blank as Blank
use Rattle.piper_ring.specs.contracts.ring.seats.ReadSeat as ReadSeat
use Rattle.piper_ring.specs.contracts.ring.remains.Remains as Remains
use Rattle.piper_ring.proofs.ring.seats.ReadSeat.leave as own

pub leave_spec : {M : Type 1} → own.Statement.statement M
leave_spec 𝓤 𝓛 𝓜 𝓡 wired =
    let H = 𝓛.H in let 𝓣 = tables 𝓤 H 𝓜 𝓡 𝓡.env in let En = ReadSeat.leave.ended in let fn = own.Code.function in let c = ReadSeat.leave.clauses 𝓛 𝓜.mem 𝓡.returns in
    let self = plain (λ _. ReadSeat.the_row) in let gift = plain (λ _. Blank.the_row) in let term = plain (λ _. Lease.the_row) in
    let hs : Stays En.signature.params En.kept = (stay_dropped self yes, (stay_dropped gift yes, (stay_dropped term yes, tt))) in
    proved 𝓛 En hs c 𝓜 𝓡 (Goes-dropped 𝓛 0 self yes (λ κs x f. refl), (Goes-dropped 𝓛 0 gift yes (λ κs x f. refl), (Goes-dropped 𝓛 0 term yes (λ κs x f. refl), tt))) ReadSeat.leave.Key.name fn (own.Code.unfolded 𝓤 H 𝓜 𝓡 wired)
    (λ κs. ((λ x. pointer_val x.words ∷ []), ((λ x. ghost_val ∷ []), ((λ x. ghost_val ∷ []), tt)))) (λ κs. ((λ x vs is. pointer_told x.words vs is.0), ((λ x vs is. ghost_told vs is.0), ((λ x vs is. ghost_told vs is.0), tt)))) (λ κs qs bounds a gh are.
    let h = a.0 in let g = a.1.0 in let m = a.1.1.0 in let w : Ptr = h.words in let p : Ptr = h.at in let z : Names = h.names in let C : Fml = common w p z in let K : Fml = reader_knows w p z half h.head h.seen (flag h.leaving) in
    let low : ℕ = h.head in let high : ℕ = h.seen in let G : Fml = blanks w p z low (high - low) in let bw : ℕ = block_of w in let ow : ℕ = count_of w in let w' : Ptr = block_ptr bw ow in let e : ℕ = 0 + ow in let out : ℕ → Fml = Left 𝓛 w p z in
    let Step : SProp 𝓤 = asks 𝓛 (block_ptr bw e) (λ _. 1) always out in
    let y : (walk_of 𝓛 En hs c).Ghost = ((κs, qs, bounds, a, (pointer_val w ∷ [], (ghost_val ∷ [], (ghost_val ∷ [], tt)))), gh) in let Post : Val → SProp 𝓤 = (walk_of 𝓛 En hs c).post y in
    let Asked : Type 0 = ((g.at ≡ p) × (g.capacity ≡ z.capacity) × (g.first ≡ low) × (g.first + g.count ≡ high)) × (h.leaving ≡ true) × (m.life ≡ z.life) × (m.first ≡ true) in
    qed 𝓛 ((raw (alive 𝓛 En.signature κs qs) ⊛ ‵ (owns (types_at En.signature.params κs) a y.0.4)) ∷ given Asked (‵ ftrue) ∷ []) ∵
    keep ! (1 ∷ 0 ∷ []) $ learn ! (λ asked. drop ! $ split ! $ move ! (1 ∷ []) $ fsplit3 ! $ fsplit ! $ drop ! $ fsplit3 ! $ move ! (3 ∷ []) $ fsplit ! $ drop ! $ fsplit ! $ drop ! $
    let eg = asked.0.2 in let top = asked.0.3 in let many : g.count ≡ high - low = omega arith in
    rewrite ! 0 (λ (r : Ptr × ℕ × ℕ × ℕ). ‵ (span (unset r.0 r.1) r.2 r.3)) {x = (p, z.capacity, low, high - low)} {y = (g.at, g.capacity, g.first, g.count)} (λ i. (asked.0.0 i, asked.0.1 i, asked.0.2 i, many i)) refl $
    move ! (4 ∷ []) $ fsplit ! $ fsplit ! $ drop ! $ rewrite ! 0 (λ (r : ℕ × Bool). ‵ (lease r.0 r.1)) {x = (z.life, true)} {y = (m.life, m.first)} (λ i. (asked.2 i, asked.3 i)) refl $
    keep ! (3 ∷ 4 ∷ 2 ∷ 0 ∷ []) $ use1 𝓛 (‵ C ⊛ ‵ C) (common_twice 𝓛 w p z) $ split ! $ fsplit ! $ fpick ! (λ at. drop ! $ drop ! $ let isw : w ≡ w' = at_block w at.0 in
    group ! 4 $ use1 𝓛 (raw Step) (reader_leaves 𝓛 w p z h.head h.seen (flag h.leaving) (flag_small h.leaving)) $
    enter ! 𝓣.C 𝓣.Λ fn (pointer_val w ∷ ghost_val ∷ ghost_val ∷ []) Post $ alloc_all ! (λ l. pass_all ! refl (word-Good [] w, ((tt, (tt, tt)), ((tt, (tt, tt)), tt))) $ let Ev = env fn.locals l in
    sets ! (is ! (of_opd ! (get_in ! (fld ! refl (stop !)) (sub ! 0 refl (shape_all !)))) (ap ptr_val isw)) refl (tt, tt) $ first ! $ blocks ! $ sets ! (bin ! (get ! refl) (lit ! tt) tt) refl (tt, tt) $
    use1 𝓛 (raw (𝓣.C _ (vptr bw e ∷ vint w64 1 ∷ seq_cst ∷ []) (λ u. mean 𝓛 (found out u))))
    (swaps 𝓛 𝓜 𝓡 (own.Code.calls-core::raw_atomic::swap 𝓡.env wired) (block_ptr bw e) 1 (lit< tt) out) $
    sets ! (agg ! (and_then ! (lit ! tt) (no_more !))) refl (tt, (record { fits = lit< tt }, tt)) $
    Calls-last ! (fm 𝓛 𝓜 𝓡) (found out) (and_then ! (get ! refl) (and_then ! (lit ! tt) (and_then ! (get ! refl) (no_more !)))) (λ u. finds ! out (λ n fits.
    lands_last ! refl (tt, record { fits = fits }) $ exec ! 𝓣.C 𝓣.Λ Ev (from_on 2 fn.body) (at_ret Ev Post) $ sets ! (of_opd ! (get ! refl)) refl (tt, record { fits = fits }) $
    sets ! (agg ! (and_then ! (get ! refl) (no_more !))) refl (tt, (tt, tt)) $ sets ! (agg ! (and_then ! (get ! refl) (and_then ! (get ! refl) (no_more !)))) refl (tt, (record { fits = fits }, ((tt, tt), tt))) $
    fpick ! (λ last. fsplit ! $ fpick ! (λ observed. drop ! $ rewrite ! 0 (λ (r : Ptr). ‵ (where_gone last (shared.whole r p z))) isw refl $
    let rest : Remains.the_row.Denot = record { words = w'; at = p; names = z; last = last } in
    nothing ! $ fpack ! (RingIsPlaced w' p z) (λ _. ftrue) (tt, at.1, at.2) $ fjoin ! $ use0 𝓛 (‵ (PointerData.own_val (w', tt) (pointer_val w' ∷ []))) (pointer_made 𝓛 w') $ fjoin ! $
    flt_i ! n (2 ^ 64) fits $ feq_i ! (List Val) (vint w64 n ∷ []) (vint w64 n ∷ []) refl $ fjoin ! $
    use2 𝓛 (‵ ((denote.Struct.Tuple.Tuple (u64 ∷ Remains.the_row ∷ [])).own_val (n, rest) (pair_val (vint w64 n) (pointer_val w') ∷ []))) (pair_of 𝓛 u64 Remains.the_row n rest (vint w64 n) (pointer_val w')) $
    use0 𝓛 (raw (fact 𝓤 (FoundGone z n))) (fact_i 𝓤 (FoundGone z n) (emp 𝓤) (as_gone z n)) $
    use0 𝓛 (raw (fact 𝓤 (z ≡ z))) (fact_i 𝓤 (z ≡ z) (emp 𝓤) refl) $ join ! $ use0 𝓛 (raw (fact 𝓤 ((w' ≡ w) × (p ≡ p)))) (fact_i 𝓤 ((w' ≡ w) × (p ≡ p)) (emp 𝓤) (sym isw, refl)) $ join ! $
    use0 𝓛 (raw (fact 𝓤 (n ≡ flag last))) (fact_i 𝓤 (n ≡ flag last) (emp 𝓤) observed) $ join ! $
    nothing ! $ nothing ! $ fjoin ! $ nothing ! $ fjoin ! $ nothing ! $ fjoin ! $ nothing ! $
    returns ! (look_at ! 0 refl) $ free_all ! refl $ keep ! (0 ∷ 1 ∷ 3 ∷ 2 ∷ []) $ by ! (leaves 𝓛 En hs c y (pair_val (vint w64 n) (pointer_val w')) (n, rest) (tt, (tt, (tt, tt))) (tt, (tt, (tt, tt))))))))))))
