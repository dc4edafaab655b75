-- `load_closed` is one load, beside a share of what the reader knows. Assumes `Logic`.
use Rattle.piper_ring.proofs.Kit.{true, arith, lit<, ◌≡◌, ℕ, ◌+◌, ◌^◌, ◌≤◌, List, [], ◌∷◌, false, sym, refl, ap, w64, named, Val, vint, vptr, SProp, emp, via, Share, Fml, ftrue, flft, fhide, ‵, raw, ◌⊛◌, given, mean, at_ret, ◌$◌, ◌∵◌, !, qed, by, move, keep, drop, split, split3, join, fsplit, fsplit3, fjoin, fjoin3, fpick, fpack, learn, use0, use1, use3, rewrite, feq_i, flt_i, stop, fld, load, look, lit, of_opd, bin, no_more, and_then, first, blocks, exec, Calls-last, returns, enter, alloc_all, pass_all, free_all, look_at, get, through, sets, lands_last, env, agg, shr_bor-open, obor_close, fact, fact_i, tables, yes, RattleType, owns, types_at, plain, Ptr, block_ptr, block_of, count_of, at_block, RefOf, shr_vals, shr_Tells, mut_vals, mut_Tells, hidden_shr, hide, unhide, nothing, opens, closes, lent_out, Stays, stay_dropped, stay_ref, walk_of, Goes-dropped, Goes-ref, tail, pointer_in, pointer_out, proved, leaves, seq_cst, fm, found, finds, loads, announced, Names, flag, RingIsPlaced, common, reader_knows, reader_lends, Stream, Reaches, PointerData, GhostData, ghost_coded, loaded_closed, MayNote, did}
use Rattle.piper_ring.specs.Loads.{FoundClosed, as_closed}
use Rattle.piper_ring.specs.contracts.ring.marks.WriteMark as Mark
use Rattle.piper_ring.specs.contracts.log.Log as Log
use Rattle.piper_ring.proofs.Rights.{reader_halves}
use Rattle.piper_ring.proofs.Steps.{EndNoted, reader_looks}
use Rattle.piper_ring.specs.contracts.ring.seats.ReadSeat as Seat
use Rattle.piper_ring.proofs.ring.seats.ReadSeat.load_closed as own

pub load_closed_spec : {M : Type 1} → own.Statement.statement M
load_closed_spec 𝓤 𝓛 𝓜 𝓡 wired =
    let H = 𝓛.H in let 𝓣 = tables 𝓤 H 𝓜 𝓡 𝓡.env in let En = Seat.load_closed.ended in let fn = own.Code.function in let c = Seat.load_closed.clauses 𝓛 𝓜.mem 𝓡.returns in
    let self = RefOf (0 ∷ []) tt (plain (λ _. Seat.the_row)) (λ _. tt) in let SRow : RattleType = Mark.the_row in let other_ref = plain (λ _. SRow) in let told_ref = RefOf (2 ∷ []) tt (plain (λ _. Mark.the_row)) (λ _. tt) in let TRow : RattleType = Log.the_row in let noting = plain (λ _. TRow) in
    let hs : Stays En.signature.params En.kept = (stay_dropped self yes, (stay_ref (1 ∷ []) tt other_ref, (stay_dropped told_ref yes, (stay_ref (3 ∷ []) tt noting, tt)))) in
    proved 𝓛 En hs c 𝓜 𝓡 (Goes-dropped 𝓛 4 self yes (λ κs x f. refl), (Goes-ref 𝓛 4 1 tt other_ref, (Goes-dropped 𝓛 4 told_ref yes (λ κs x f. refl), (Goes-ref 𝓛 4 3 tt noting, tt)))) Seat.load_closed.Key.name fn (own.Code.unfolded 𝓤 H 𝓜 𝓡 wired)
    (λ κs. (shr_vals, (mut_vals, (shr_vals, (mut_vals, tt))))) (λ κs. (shr_Tells (named 0) κs.0 Seat.the_row, (mut_Tells (named 1) κs.1.0 SRow, (shr_Tells (named 2) κs.1.1.0 Mark.the_row, (mut_Tells (named 3) κs.1.1.1.0 TRow, tt))))) (λ κs qs bounds a gh are.
    let b : ℕ = a.0.ref_ptr.0 in let o : ℕ = a.0.ref_ptr.1 in let h = a.0.now in let w : Ptr = h.words in let p : Ptr = h.at in let z : Names = h.names in let κ = κs.0 in let q : Share = qs.0 in
    let b' : ℕ = a.1.0.ref_ptr.0 in let o' : ℕ = a.1.0.ref_ptr.1 in let k = a.1.0.now in let t = a.1.1.0.now in let b2 : ℕ = a.1.1.0.ref_ptr.0 in let o2 : ℕ = a.1.1.0.ref_ptr.1 in let old : Stream = (k.bytes, k.shut) in let got : Stream = (t.bytes, t.shut) in
    let b3 : ℕ = a.1.1.1.0.ref_ptr.0 in let o3 : ℕ = a.1.1.1.0.ref_ptr.1 in let lg = a.1.1.1.0.now in let C : Fml = common w p z in let Φ : Share → Fml = λ s. reader_knows w p z s h.head h.seen (flag h.leaving) in
    let y : (walk_of 𝓛 En hs c).Ghost = ((κs, qs, bounds, a, (vptr b o ∷ [], (vptr b' o' ∷ [], (vptr b2 o2 ∷ [], (vptr b3 o3 ∷ [], tt))))), gh) in let Post : Val → SProp 𝓤 = (walk_of 𝓛 En hs c).post y in
    qed 𝓛 (((‵ (flft κ q) ⊛ ‵ (flft κs.1.0 qs.1.0) ⊛ ‵ (flft κs.1.1.0 qs.1.1.0) ⊛ ‵ (flft κs.1.1.1.0 qs.1.1.1.0) ⊛ ‵ ftrue) ⊛ ‵ (owns (types_at En.signature.params κs) a y.0.4)) ∷ given ((k.names ≡ z) × (t.names ≡ z) × (h.leaving ≡ false)) (‵ ftrue) ∷ given (MayNote z true lg) (‵ ftrue) ∷ []) ∵
    move ! (1 ∷ []) $ learn ! (λ asked. drop ! $ move ! (1 ∷ []) $ learn ! (λ may. drop ! $ split ! $ split3 ! $ move ! (2 ∷ []) $ split3 ! $ move ! (5 ∷ []) $ fsplit3 ! $ move ! (2 ∷ []) $ fsplit3 ! $
    fsplit ! $ drop ! $
    use1 𝓛 (‵ (hidden_shr GhostData κs.1.1.0 (record {}, tt) b2 o2) ⊛ ‵ (fhide (announced t.names t.bytes t.shut))) (lent_out 𝓛 Mark.struct (Mark.the_codes ghost_coded) Mark.the_heap Mark.the_lent κs.1.1.0 t b2 o2) $
    split ! $ drop ! $ unhide ! $ rewrite ! 0 (λ (n : Names). ‵ (announced n t.bytes t.shut)) asked.1 refl $
    move ! (4 ∷ []) $ fsplit3 ! $ move ! (4 ∷ []) $ fsplit3 ! $ keep ! (8 ∷ 12 ∷ 4 ∷ 5 ∷ 13 ∷ 9 ∷ 6 ∷ 1 ∷ 2 ∷ 10 ∷ []) $ fsplit ! $ drop ! $
    use1 𝓛 (‵ (hidden_shr PointerData κ (w, tt) b o) ⊛ ‵ (fhide (reader_lends w p z h.head h.seen h.leaving κ))) (lent_out 𝓛 Seat.struct Seat.the_codes Seat.the_heap Seat.the_lent κ h b o) $
    split ! $ unhide ! $ fsplit ! $ fsplit ! $ keep ! (0 ∷ 3 ∷ 4 ∷ 5 ∷ 6 ∷ 7 ∷ 8 ∷ 9 ∷ 10 ∷ 11 ∷ 12 ∷ []) $ hide ! $ move ! (1 ∷ []) $ unhide ! $ fsplit ! $ fsplit ! $ fpick ! (λ at. drop ! $ nothing ! $ fpack ! (RingIsPlaced w p z) (λ _. ftrue) at $ fjoin ! $
    let bw : ℕ = block_of w in let ow : ℕ = count_of w in let e : ℕ = 136 + ow in let isw : w ≡ block_ptr bw ow = at_block w at.0 in
    enter ! 𝓣.C 𝓣.Λ fn (vptr b o ∷ vptr b' o' ∷ vptr b2 o2 ∷ vptr b3 o3 ∷ []) Post $ alloc_all ! (λ l. pass_all ! refl ((tt, tt), ((tt, tt), ((tt, tt), ((tt, tt), tt)))) $ let Ev = env fn.locals l in
    move ! (9 ∷ 10 ∷ 11 ∷ []) $ opens ! tt TRow b3 o3 (λ vs3. move ! (1 ∷ []) $ fsplit ! $ move ! (10 ∷ 11 ∷ 12 ∷ []) $ opens ! tt SRow b' o' (λ vs'. move ! (1 ∷ []) $ fsplit ! $ move ! (14 ∷ 15 ∷ 12 ∷ 13 ∷ []) $ first ! $ blocks ! $
    pointer_in ! tt w bw ow isw b (o + 0) (λ r.
    sets ! (of_opd ! (load ! (through ! refl (fld ! refl (stop !))) (look ! 0 refl))) refl (tt, tt) $ pointer_out ! tt w bw ow isw b (o + 0) $
    sets ! (bin ! (get ! refl) (lit ! tt) tt) refl (tt, tt) $ move ! (2 ∷ 0 ∷ []) $ shr_bor-open ! tt (reader_halves 𝓛 w p z h.head h.seen (flag h.leaving)) (λ s. move ! (4 ∷ []) $
    rewrite ! 0 (λ (m : Names). ‵ (announced m k.bytes k.shut)) {x = z} {y = k.names} asked.0 refl $ move ! (0 ∷ 16 ∷ []) $ join ! $ move ! (2 ∷ 0 ∷ []) $ join ! $ move ! (2 ∷ 0 ∷ 9 ∷ []) $
    let out : ℕ → Fml = EndNoted 𝓛 w p z (Φ s) old got lg in
    use3 𝓛 (raw (𝓣.C _ (vptr bw e ∷ seq_cst ∷ []) (λ u. mean 𝓛 (found out u))))
    (via 𝓤 _ (reader_looks 𝓛 w p z s h.head h.seen (flag h.leaving) (ap flag asked.2) old got lg (λ e. (may e).0)) (loads 𝓛 𝓜 𝓡 (own.Code.calls-core::raw_atomic::load 𝓡.env wired) (block_ptr bw e) out)) $
    sets ! (agg ! (and_then ! (lit ! tt) (no_more !))) refl (tt, (record { fits = lit< tt }, tt)) $
    Calls-last ! (fm 𝓛 𝓜 𝓡) (found out) (and_then ! (get ! refl) (and_then ! (get ! refl) (no_more !))) (λ u. finds ! out (λ n fits.
    lands_last ! refl (tt, record { fits = fits }) $ exec ! 𝓣.C 𝓣.Λ Ev (tail fn.body) (at_ret Ev Post) $ sets ! (of_opd ! (get ! refl)) refl (tt, record { fits = fits }) $
    fpick ! (λ over. fsplit ! $ fsplit ! $ fsplit ! $ fpick ! (λ observed. drop ! $ move ! (3 ∷ 1 ∷ []) $ obor_close ! tt $ drop ! $
    let k' : SRow.Denot = record k { bytes = over.0; shut = over.1 } in
    rewrite ! 1 (λ (m : Names). ‵ (announced m over.0 over.1)) {x = k.names} {y = z} (sym asked.0) refl $ move ! (3 ∷ 1 ∷ []) $ fjoin ! $ move ! (3 ∷ 0 ∷ 4 ∷ 5 ∷ 6 ∷ []) $ closes ! tt SRow k' vs' b' o' $
    feq_i ! (List Val) (vptr b' o' ∷ []) (vptr b' o' ∷ []) refl $ fjoin3 ! $ let l' : TRow.Denot = did (loaded_closed over.1) lg in
    move ! (4 ∷ 3 ∷ []) $ fjoin ! $ move ! (4 ∷ 0 ∷ 5 ∷ 6 ∷ 7 ∷ []) $ closes ! tt TRow l' vs3 b3 o3 $ feq_i ! (List Val) (vptr b3 o3 ∷ []) (vptr b3 o3 ∷ []) refl $ fjoin3 ! $
    nothing ! $ move ! (1 ∷ 0 ∷ []) $ fjoin ! $ nothing ! $ fjoin ! $ move ! (2 ∷ 0 ∷ []) $ fjoin ! $ nothing ! $ fjoin ! $ nothing ! $ move ! (2 ∷ 0 ∷ []) $ join ! $ move ! (4 ∷ 0 ∷ []) $ join ! $ move ! (2 ∷ 0 ∷ []) $ join ! $ move ! (2 ∷ 0 ∷ []) $ join ! $
    let answer : n ≡ flag over.1 = observed.0 in let heard : flag t.shut ≤ flag over.1 = observed.2 in
    use0 𝓛 (raw (fact 𝓤 (l' ≡ l'))) (fact_i 𝓤 (l' ≡ l') (emp 𝓤) refl) $ use0 𝓛 (raw (fact 𝓤 (FoundClosed z over.1))) (fact_i 𝓤 (FoundClosed z over.1) (emp 𝓤) (as_closed z over.1)) $ join ! $
    use0 𝓛 (raw (fact 𝓤 (flag t.shut ≤ n))) (fact_i 𝓤 (flag t.shut ≤ n) (emp 𝓤) (omega arith)) $ join ! $ use0 𝓛 (raw (fact 𝓤 (Reaches old over))) (fact_i 𝓤 (Reaches old over) (emp 𝓤) observed.1) $ join ! $
    use0 𝓛 (raw (fact 𝓤 (n ≡ flag over.1))) (fact_i 𝓤 (n ≡ flag over.1) (emp 𝓤) answer) $ join ! $ use0 𝓛 (raw (fact 𝓤 (k.names ≡ k.names))) (fact_i 𝓤 (k.names ≡ k.names) (emp 𝓤) refl) $ join ! $ flt_i ! n (2 ^ 64) fits $ feq_i ! (List Val) (vint w64 n ∷ []) (vint w64 n ∷ []) refl $ fjoin ! $
    returns ! (look_at ! 0 refl) $ free_all ! refl $ keep ! (2 ∷ 3 ∷ 0 ∷ 1 ∷ []) $ by ! (leaves 𝓛 En hs c y (vint w64 n) n (tt, (k', (tt, (l', tt)))) (tt, (tt, (tt, (tt, tt))))))))))))))))))
