-- `load_closed` is one load, beside a share of what the reader knows. Assumes `Logic`.
use Rattle.piper_ring.proofs.Kit.{false, arith, lit<, ◌≡◌, ℕ, ◌+◌, ◌^◌, ◌≤◌, List, [], ◌∷◌, sym, refl, w64, named, Val, vint, vptr, SProp, emp, via, Share, Fml, ftrue, flft, fhide, ‵, raw, ◌⊛◌, given, mean, at_ret, ◌$◌, ◌∵◌, !, qed, by, move, keep, drop, split, split3, join, fsplit, fsplit3, fjoin, fjoin3, fpick, fpack, learn, use0, use1, use3, rewrite, feq_i, flt_i, stop, fld, load, look, lit, of_opd, bin, no_more, and_then, first, blocks, exec, Calls-last, returns, enter, alloc_all, pass_all, free_all, look_at, get, through, sets, lands_last, env, agg, shr_bor-open, obor_close, fact, fact_i, tables, yes, RattleType, owns, types_at, plain, Ptr, block_ptr, block_of, count_of, at_block, RefOf, shr_vals, shr_Tells, mut_vals, mut_Tells, hidden_shr, hide, unhide, nothing, opens, closes, lent_out, Stays, stay_dropped, stay_ref, walk_of, Goes-dropped, Goes-ref, tail, pointer_in, pointer_out, proved, leaves, seq_cst, fm, found, finds, loads, Names, raised, flag, RingIsPlaced, common, writer_knows, writer_lends, PointerData, ghost_val, GhostData, loaded_closed, MayNote, did}
use Rattle.piper_ring.specs.Loads.{FoundClosed, as_closed}
use Rattle.piper_ring.specs.contracts.log.Log as Log
use Rattle.piper_ring.proofs.Rights.{writer_halves}
use Rattle.piper_ring.proofs.Steps.{flag_small, SawNoted, writer_looks}
use Rattle.piper_ring.specs.contracts.ring.marks.ClosedMark as ClosedMark
use Rattle.piper_ring.specs.contracts.ring.seats.WriteSeat as Seat
use Rattle.piper_ring.proofs.ring.seats.WriteSeat.load_closed as own

pub load_closed_spec : {M : Type 1} → own.Statement.statement M
load_closed_spec 𝓤 𝓛 𝓜 𝓡 wired =
    let H = 𝓛.H in let 𝓣 = tables 𝓤 H 𝓜 𝓡 𝓡.env in let En = Seat.load_closed.ended in let fn = own.Code.function in let c = Seat.load_closed.clauses 𝓛 𝓜.mem 𝓡.returns in
    let self = RefOf (0 ∷ []) tt (plain (λ _. Seat.the_row)) (λ _. tt) in let SRow : RattleType = ClosedMark.the_row in let other_ref = plain (λ _. SRow) in let TRow : RattleType = Log.the_row in let noting = plain (λ _. TRow) in
    let hs : Stays En.signature.params En.kept = (stay_dropped self yes, (stay_ref (1 ∷ []) tt other_ref, (stay_ref (2 ∷ []) tt noting, tt))) in
    proved 𝓛 En hs c 𝓜 𝓡 (Goes-dropped 𝓛 3 self yes (λ κs x f. refl), (Goes-ref 𝓛 3 1 tt other_ref, (Goes-ref 𝓛 3 2 tt noting, tt))) Seat.load_closed.Key.name fn (own.Code.unfolded 𝓤 H 𝓜 𝓡 wired)
    (λ κs. (shr_vals, (mut_vals, (mut_vals, tt)))) (λ κs. (shr_Tells (named 0) κs.0 Seat.the_row, (mut_Tells (named 1) κs.1.0 SRow, (mut_Tells (named 2) κs.1.1.0 TRow, tt)))) (λ κs qs bounds a gh are.
    let b : ℕ = a.0.ref_ptr.0 in let o : ℕ = a.0.ref_ptr.1 in let h = a.0.now in let w : Ptr = h.words in let p : Ptr = h.at in let z : Names = h.names in let κ = κs.0 in let q : Share = qs.0 in
    let b' : ℕ = a.1.0.ref_ptr.0 in let o' : ℕ = a.1.0.ref_ptr.1 in let k = a.1.0.now in let SData : Fml = GhostData.own_val (record {}, tt) (ghost_val ∷ []) in
    let b3 : ℕ = a.1.1.0.ref_ptr.0 in let o3 : ℕ = a.1.1.0.ref_ptr.1 in let t = a.1.1.0.now in let C : Fml = common w p z in let Φ : Share → Fml = λ s. writer_knows w p z s h.sent h.limit h.shut 0 in
    let y : (walk_of 𝓛 En hs c).Ghost = ((κs, qs, bounds, a, (vptr b o ∷ [], (vptr b' o' ∷ [], (vptr b3 o3 ∷ [], tt)))), gh) in let Post : Val → SProp 𝓤 = (walk_of 𝓛 En hs c).post y in
    qed 𝓛 (((‵ (flft κ q) ⊛ ‵ (flft κs.1.0 qs.1.0) ⊛ ‵ (flft κs.1.1.0 qs.1.1.0) ⊛ ‵ ftrue) ⊛ ‵ (owns (types_at En.signature.params κs) a y.0.4)) ∷ given (k.names ≡ z) (‵ ftrue) ∷ given (MayNote z false t) (‵ ftrue) ∷ []) ∵
    move ! (1 ∷ []) $ learn ! (λ asked. drop ! $ move ! (1 ∷ []) $ learn ! (λ may. drop ! $ split ! $ split3 ! $ move ! (2 ∷ []) $ split ! $ move ! (4 ∷ []) $ fsplit3 ! $ move ! (2 ∷ []) $ fsplit ! $ fsplit3 ! $ move ! (5 ∷ []) $ fsplit3 ! $ keep ! (7 ∷ 10 ∷ 1 ∷ 2 ∷ 11 ∷ 4 ∷ 5 ∷ 8 ∷ []) $ fsplit ! $ drop ! $
    use1 𝓛 (‵ (hidden_shr PointerData κ (w, tt) b o) ⊛ ‵ (fhide (writer_lends w p z h.sent h.limit h.shut κ))) (lent_out 𝓛 Seat.struct Seat.the_codes Seat.the_heap Seat.the_lent κ h b o) $
    split ! $ unhide ! $ fsplit ! $ fsplit ! $ keep ! (0 ∷ 3 ∷ 4 ∷ 5 ∷ 6 ∷ 7 ∷ 8 ∷ 9 ∷ 10 ∷ []) $ hide ! $ move ! (1 ∷ []) $ unhide ! $ fsplit ! $ fsplit ! $ fpick ! (λ at. drop ! $ nothing ! $ fpack ! (RingIsPlaced w p z) (λ _. ftrue) at $ fjoin ! $
    let bw : ℕ = block_of w in let ow : ℕ = count_of w in let e : ℕ = 136 + ow in let isw : w ≡ block_ptr bw ow = at_block w at.0 in
    enter ! 𝓣.C 𝓣.Λ fn (vptr b o ∷ vptr b' o' ∷ vptr b3 o3 ∷ []) Post $ alloc_all ! (λ l. pass_all ! refl ((tt, tt), ((tt, tt), ((tt, tt), tt))) $ let Ev = env fn.locals l in
    move ! (7 ∷ 8 ∷ 9 ∷ []) $ opens ! tt TRow b3 o3 (λ vs3. move ! (1 ∷ []) $ fsplit ! $ move ! (10 ∷ 11 ∷ 12 ∷ []) $ opens ! tt SRow b' o' (λ vs'. move ! (1 ∷ []) $ fsplit ! $ move ! (14 ∷ 15 ∷ 12 ∷ 13 ∷ []) $ first ! $ blocks ! $
    pointer_in ! tt w bw ow isw b (o + 0) (λ r.
    sets ! (of_opd ! (load ! (through ! refl (fld ! refl (stop !))) (look ! 0 refl))) refl (tt, tt) $ pointer_out ! tt w bw ow isw b (o + 0) $
    sets ! (bin ! (get ! refl) (lit ! tt) tt) refl (tt, tt) $ move ! (2 ∷ 0 ∷ []) $ shr_bor-open ! tt (writer_halves 𝓛 w p z h.sent h.limit h.shut 0) (λ s. move ! (4 ∷ []) $
    rewrite ! 0 (λ (m : Names). ‵ (raised m.closed k.seen)) {x = z} {y = k.names} asked refl $ move ! (2 ∷ 0 ∷ []) $ join ! $ move ! (2 ∷ 0 ∷ 9 ∷ []) $
    let out : ℕ → Fml = SawNoted 𝓛 w p z (Φ s) k.seen h.shut t in
    use3 𝓛 (raw (𝓣.C _ (vptr bw e ∷ seq_cst ∷ []) (λ u. mean 𝓛 (found out u))))
    (via 𝓤 _ (writer_looks 𝓛 w p z s h.sent h.limit h.shut 0 (flag_small false) k.seen t (λ e. (may e).0)) (loads 𝓛 𝓜 𝓡 (own.Code.calls-core::raw_atomic::load 𝓡.env wired) (block_ptr bw e) out)) $
    sets ! (agg ! (and_then ! (lit ! tt) (no_more !))) refl (tt, (record { fits = lit< tt }, tt)) $
    Calls-last ! (fm 𝓛 𝓜 𝓡) (found out) (and_then ! (get ! refl) (and_then ! (get ! refl) (no_more !))) (λ u. finds ! out (λ n fits.
    lands_last ! refl (tt, record { fits = fits }) $ exec ! 𝓣.C 𝓣.Λ Ev (tail fn.body) (at_ret Ev Post) $ sets ! (of_opd ! (get ! refl)) refl (tt, record { fits = fits }) $
    fpick ! (λ over. fsplit ! $ fsplit ! $ fsplit ! $ fpick ! (λ observed. drop ! $ move ! (3 ∷ 1 ∷ []) $ obor_close ! tt $ drop ! $
    let k' : SRow.Denot = record k { seen = over } in
    rewrite ! 1 (λ (m : Names). ‵ (raised m.closed over)) {x = k.names} {y = z} (sym asked) refl $ move ! (3 ∷ 1 ∷ []) $ fjoin ! $ move ! (3 ∷ 0 ∷ 4 ∷ 5 ∷ 6 ∷ []) $ closes ! tt SRow k' vs' b' o' $
    feq_i ! (List Val) (vptr b' o' ∷ []) (vptr b' o' ∷ []) refl $ fjoin3 ! $ let t' : TRow.Denot = did (loaded_closed over) t in
    move ! (4 ∷ 3 ∷ []) $ fjoin ! $ move ! (4 ∷ 0 ∷ 5 ∷ 6 ∷ 7 ∷ []) $ closes ! tt TRow t' vs3 b3 o3 $ feq_i ! (List Val) (vptr b3 o3 ∷ []) (vptr b3 o3 ∷ []) refl $ fjoin3 ! $
    nothing ! $ move ! (1 ∷ 0 ∷ []) $ fjoin ! $ move ! (2 ∷ 0 ∷ []) $ fjoin ! $ nothing ! $ fjoin ! $ nothing ! $ move ! (2 ∷ 0 ∷ []) $ join ! $ move ! (2 ∷ 0 ∷ []) $ join ! $ move ! (2 ∷ 0 ∷ []) $ join ! $
    let answer : n ≡ flag over = observed.0 in let least : flag k.seen ≤ flag over = observed.1 in let own : flag h.shut ≤ flag over = observed.2 in
    use0 𝓛 (raw (fact 𝓤 (t' ≡ t'))) (fact_i 𝓤 (t' ≡ t') (emp 𝓤) refl) $ use0 𝓛 (raw (fact 𝓤 (FoundClosed z over))) (fact_i 𝓤 (FoundClosed z over) (emp 𝓤) (as_closed z over)) $ join ! $
    use0 𝓛 (raw (fact 𝓤 (flag h.shut ≤ n))) (fact_i 𝓤 (flag h.shut ≤ n) (emp 𝓤) (omega arith)) $ join ! $ use0 𝓛 (raw (fact 𝓤 (flag k.seen ≤ n))) (fact_i 𝓤 (flag k.seen ≤ n) (emp 𝓤) (omega arith)) $ join ! $
    use0 𝓛 (raw (fact 𝓤 (n ≡ flag over))) (fact_i 𝓤 (n ≡ flag over) (emp 𝓤) answer) $ join ! $ use0 𝓛 (raw (fact 𝓤 (k.names ≡ k.names))) (fact_i 𝓤 (k.names ≡ k.names) (emp 𝓤) refl) $ join ! $ flt_i ! n (2 ^ 64) fits $ feq_i ! (List Val) (vint w64 n ∷ []) (vint w64 n ∷ []) refl $ fjoin ! $
    returns ! (look_at ! 0 refl) $ free_all ! refl $ keep ! (2 ∷ 3 ∷ 0 ∷ 1 ∷ []) $ by ! (leaves 𝓛 En hs c y (vint w64 n) n (tt, (k', (t', tt))) (tt, (tt, (tt, tt)))))))))))))))))
