-- `load_tail` is one load of the tail, beside a share of what the reader knows, and is noted. Assumes
-- `Logic`.
use Rattle.piper_ring.proofs.Kit.{lit<, ◌≡◌, ℕ, ◌+◌, ◌≤◌, ◌^◌, List, [], ◌∷◌, true, false, length, refl, w64, named, Val, vint, vptr, SProp, emp, via, Share, Fml, ftrue, flft, fhide, ‵, raw, ◌⊛◌, given, learn, split3, rewrite, use3, mean, at_ret, ◌$◌, ◌∵◌, !, qed, by, move, keep, drop, split, join, fsplit, fjoin, fpick, fpack, use0, use1, use2, feq_i, flt_i, stop, fld, load, look, lit, of_opd, bin, no_more, and_then, first, blocks, exec, Calls-last, returns, enter, alloc_all, pass_all, free_all, look_at, get, through, sets, lands_last, env, agg, shr_bor-open, obor_close, fact, fact_i, tables, yes, owns, types_at, plain, Ptr, block_ptr, block_of, count_of, at_block, RefOf, u64, shr_vals, shr_Tells, hidden_shr, hide, unhide, nothing, lent_out, Stays, stay_dropped, walk_of, Goes-dropped, tail, pointer_in, pointer_out, position_of, proved, leaves, pair_val, pair_of, seq_cst, fm, found, finds, loads, announced, Names, flag, RingIsPlaced, common, reader_knows, reader_lends, PointerData, ghost_val, GhostData, ghost_made, ghost_coded, fjoin3, fsplit3, RattleType, mut_vals, mut_Tells, opens, closes, stay_ref, Goes-ref, loaded_tail, MayNote, did}
use Rattle.piper_ring.specs.Loads.{FoundPublished, as_published}
use Rattle.piper_ring.specs.contracts.ring.marks.WriteMark as Mark
use Rattle.piper_ring.proofs.Rights.{reader_halves}
use Rattle.piper_ring.specs.contracts.log.Log as Log
use Rattle.piper_ring.proofs.Steps.{flag_small, AfterLook, looks_tail}
use Rattle.piper_ring.specs.contracts.ring.seats.ReadSeat as Seat
use Rattle.piper_ring.proofs.ring.seats.ReadSeat.load_tail as own

pub load_tail_spec : {M : Type 1} → own.Statement.statement M
load_tail_spec 𝓤 𝓛 𝓜 𝓡 wired =
    let H = 𝓛.H in let 𝓣 = tables 𝓤 H 𝓜 𝓡 𝓡.env in let En = Seat.load_tail.ended in let fn = own.Code.function in let c = Seat.load_tail.clauses 𝓛 𝓜.mem 𝓡.returns in
    let self = RefOf (0 ∷ []) tt (plain (λ _. Seat.the_row)) (λ _. tt) in let observed = RefOf (1 ∷ []) tt (plain (λ _. Mark.the_row)) (λ _. tt) in let TRow : RattleType = Log.the_row in let noting = plain (λ _. TRow) in
    let hs : Stays En.signature.params En.kept = (stay_dropped self yes, (stay_dropped observed yes, (stay_ref (2 ∷ []) tt noting, tt))) in
    proved 𝓛 En hs c 𝓜 𝓡 (Goes-dropped 𝓛 3 self yes (λ κs x f. refl), (Goes-dropped 𝓛 3 observed yes (λ κs x f. refl), (Goes-ref 𝓛 3 2 tt noting, tt))) Seat.load_tail.Key.name fn (own.Code.unfolded 𝓤 H 𝓜 𝓡 wired)
    (λ κs. (shr_vals, (shr_vals, (mut_vals, tt)))) (λ κs. (shr_Tells (named 0) κs.0 Seat.the_row, (shr_Tells (named 1) κs.1.0 Mark.the_row, (mut_Tells (named 2) κs.1.1.0 TRow, tt)))) (λ κs qs bounds a gh are.
    let b : ℕ = a.0.ref_ptr.0 in let o : ℕ = a.0.ref_ptr.1 in let h = a.0.now in let w : Ptr = h.words in let p : Ptr = h.at in let z : Names = h.names in let t = a.1.0.now in let b2 : ℕ = a.1.0.ref_ptr.0 in let o2 : ℕ = a.1.0.ref_ptr.1 in let κ = κs.0 in
    let b' : ℕ = a.1.1.0.ref_ptr.0 in let o' : ℕ = a.1.1.0.ref_ptr.1 in let k = a.1.1.0.now in
    let C : Fml = common w p z in let Φ : Share → Fml = λ s. reader_knows w p z s h.head h.seen (flag h.leaving) in
    let y : (walk_of 𝓛 En hs c).Ghost = ((κs, qs, bounds, a, (vptr b o ∷ [], (vptr b2 o2 ∷ [], (vptr b' o' ∷ [], tt)))), gh) in let Post : Val → SProp 𝓤 = (walk_of 𝓛 En hs c).post y in
    qed 𝓛 (((‵ (flft κ qs.0) ⊛ ‵ (flft κs.1.0 qs.1.0) ⊛ ‵ (flft κs.1.1.0 qs.1.1.0) ⊛ ‵ ftrue) ⊛ ‵ (owns (types_at En.signature.params κs) a y.0.4)) ∷ given (t.names ≡ z) (‵ ftrue) ∷ given (MayNote z true k) (‵ ftrue) ∷ []) ∵
    move ! (1 ∷ []) $ learn ! (λ asked. drop ! $ move ! (1 ∷ []) $ learn ! (λ may. drop ! $ split ! $ split3 ! $ move ! (2 ∷ []) $ split ! $ move ! (4 ∷ []) $ fsplit3 ! $ move ! (2 ∷ []) $ fsplit ! $ fsplit3 ! $ move ! (5 ∷ []) $ fsplit ! $ drop ! $
    use1 𝓛 (‵ (hidden_shr GhostData κs.1.0 (record {}, tt) b2 o2) ⊛ ‵ (fhide (announced t.names t.bytes t.shut))) (lent_out 𝓛 Mark.struct (Mark.the_codes ghost_coded) Mark.the_heap Mark.the_lent κs.1.0 t b2 o2) $
    split ! $ drop ! $ unhide ! $ rewrite ! 0 (λ (n : Names). ‵ (announced n t.bytes t.shut)) asked refl $ keep ! (5 ∷ 0 ∷ 8 ∷ 9 ∷ 2 ∷ 3 ∷ 6 ∷ []) $ fsplit ! $ drop ! $
    use1 𝓛 (‵ (hidden_shr PointerData κ (w, tt) b o) ⊛ ‵ (fhide (reader_lends w p z h.head h.seen h.leaving κ))) (lent_out 𝓛 Seat.struct Seat.the_codes Seat.the_heap Seat.the_lent κ h b o) $
    split ! $ unhide ! $ fsplit ! $ fsplit ! $ keep ! (0 ∷ 3 ∷ 5 ∷ 4 ∷ 6 ∷ 7 ∷ 8 ∷ 9 ∷ []) $ hide ! $ move ! (1 ∷ []) $ unhide ! $ fsplit ! $ fsplit ! $ fpick ! (λ at. drop ! $ nothing ! $ fpack ! (RingIsPlaced w p z) (λ _. ftrue) at $ fjoin ! $
    let bw : ℕ = block_of w in let ow : ℕ = count_of w in let e : ℕ = 208 + ow in let isw : w ≡ block_ptr bw ow = at_block w at.0 in
    enter ! 𝓣.C 𝓣.Λ fn (vptr b o ∷ vptr b2 o2 ∷ vptr b' o' ∷ []) Post $ alloc_all ! (λ l. pass_all ! refl ((tt, tt), ((tt, tt), ((tt, tt), tt))) $ let Ev = env fn.locals l in
    move ! (6 ∷ 7 ∷ 8 ∷ []) $ opens ! tt TRow b' o' (λ vs'. move ! (1 ∷ []) $ fsplit ! $ move ! (8 ∷ 9 ∷ 6 ∷ 7 ∷ []) $ first ! $ blocks ! $
    pointer_in ! tt w bw ow isw b (o + 0) (λ r.
    sets ! (of_opd ! (load ! (through ! refl (fld ! refl (stop !))) (look ! 0 refl))) refl (tt, tt) $ pointer_out ! tt w bw ow isw b (o + 0) $
    sets ! (bin ! (get ! refl) (lit ! tt) tt) refl (tt, tt) $ move ! (2 ∷ 0 ∷ []) $ shr_bor-open ! tt (reader_halves 𝓛 w p z h.head h.seen (flag h.leaving)) (λ s. move ! (4 ∷ []) $
    move ! (2 ∷ 9 ∷ []) $ join ! $ move ! (3 ∷ 0 ∷ 1 ∷ []) $
    let out : ℕ → Fml = AfterLook 𝓛 w p z s h.head h.seen (flag h.leaving) (t.bytes, t.shut) k in
    use3 𝓛 (raw (𝓣.C _ (vptr bw e ∷ seq_cst ∷ []) (λ u. mean 𝓛 (found out u))))
    (via 𝓤 _ (looks_tail 𝓛 w p z s h.head h.seen (flag h.leaving) (t.bytes, t.shut) (flag_small h.leaving) k (λ e. (may e).0)) (loads 𝓛 𝓜 𝓡 (own.Code.calls-core::raw_atomic::load 𝓡.env wired) (block_ptr bw e) out)) $
    sets ! (agg ! (and_then ! (lit ! tt) (no_more !))) refl (tt, (record { fits = lit< tt }, tt)) $
    Calls-last ! (fm 𝓛 𝓜 𝓡) (found out) (and_then ! (get ! refl) (and_then ! (get ! refl) (no_more !))) (λ u. finds ! out (λ n fits.
    lands_last ! refl (tt, record { fits = fits }) $ exec ! 𝓣.C 𝓣.Λ Ev (tail fn.body) (at_ret Ev Post) $ sets ! (of_opd ! (get ! refl)) refl (tt, record { fits = fits }) $
    sets ! (agg ! (no_more !)) refl (tt, tt) $ sets ! (agg ! (and_then ! (get ! refl) (no_more !))) refl (tt, (tt, tt)) $ sets ! (agg ! (and_then ! (get ! refl) (and_then ! (get ! refl) (no_more !)))) refl (tt, (record { fits = fits }, ((tt, tt), tt))) $
    fpick ! (λ xs. fsplit ! $ fsplit ! $ fpick ! (λ saw. drop ! $ fsplit ! $ move ! (3 ∷ 1 ∷ []) $ obor_close ! tt $ drop ! $
    let k' : TRow.Denot = did (loaded_tail (length xs)) k in
    move ! (3 ∷ 2 ∷ []) $ fjoin ! $ move ! (3 ∷ 0 ∷ 4 ∷ 5 ∷ 6 ∷ []) $ closes ! tt TRow k' vs' b' o' $ feq_i ! (List Val) (vptr b' o' ∷ []) (vptr b' o' ∷ []) refl $ fjoin3 ! $
    nothing ! $ move ! (1 ∷ 0 ∷ []) $ fjoin ! $ nothing ! $ fjoin ! $ nothing ! $ fjoin ! $
    nothing ! $ move ! (2 ∷ 0 ∷ []) $ join ! $ move ! (4 ∷ 0 ∷ []) $ join ! $ move ! (2 ∷ 0 ∷ []) $ join ! $ move ! (2 ∷ []) $
    let mark : Mark.the_row.Denot = record { mark = record {}; names = z; bytes = xs; shut = false } in
    use0 𝓛 (‵ (GhostData.own_val (record {}, tt) (ghost_val ∷ []))) (ghost_made 𝓛) $ fjoin ! $
    flt_i ! n (2 ^ 64) fits $ feq_i ! (List Val) (vint w64 n ∷ []) (vint w64 n ∷ []) refl $ fjoin ! $
    use2 𝓛 (‵ ((denote.Struct.Tuple.Tuple (u64 ∷ Mark.the_row ∷ [])).own_val (n, mark) (pair_val (vint w64 n) ghost_val ∷ []))) (pair_of 𝓛 u64 Mark.the_row n mark (vint w64 n) ghost_val) $
    use0 𝓛 (raw (fact 𝓤 (k' ≡ k'))) (fact_i 𝓤 (k' ≡ k') (emp 𝓤) refl) $
    use0 𝓛 (raw (fact 𝓤 (FoundPublished z (length xs)))) (fact_i 𝓤 (FoundPublished z (length xs)) (emp 𝓤) (as_published z (length xs))) $ join ! $
    use0 𝓛 (raw (fact 𝓤 (t.shut ≡ true → xs ≡ t.bytes))) (fact_i 𝓤 (t.shut ≡ true → xs ≡ t.bytes) (emp 𝓤) saw.4) $ join ! $
    use0 𝓛 (raw (fact 𝓤 (length t.bytes ≤ length xs))) (fact_i 𝓤 (length t.bytes ≤ length xs) (emp 𝓤) saw.3) $ join ! $
    use0 𝓛 (raw (fact 𝓤 (length xs ≤ h.head + z.capacity))) (fact_i 𝓤 (length xs ≤ h.head + z.capacity) (emp 𝓤) saw.2) $ join ! $
    use0 𝓛 (raw (fact 𝓤 (h.seen ≤ length xs))) (fact_i 𝓤 (h.seen ≤ length xs) (emp 𝓤) saw.1) $ join ! $
    use0 𝓛 (raw (fact 𝓤 (n ≡ position_of z.capacity (length xs)))) (fact_i 𝓤 (n ≡ position_of z.capacity (length xs)) (emp 𝓤) saw.0) $ join ! $
    use0 𝓛 (raw (fact 𝓤 (z ≡ z))) (fact_i 𝓤 (z ≡ z) (emp 𝓤) refl) $ join ! $
    returns ! (look_at ! 0 refl) $ free_all ! refl $ keep ! (2 ∷ 3 ∷ 1 ∷ 0 ∷ []) $ by ! (leaves 𝓛 En hs c y (pair_val (vint w64 n) ghost_val) (n, mark) (tt, (tt, (k', tt))) (tt, (tt, (tt, tt))))))))))))))))
