-- `load_own` is one load, beside a share of what the end knows that lends the words. Assumes
-- `Logic`.
use Rattle.piper_ring.proofs.Kit.{flt_i, lit<, ◌≡◌, ℕ, ◌+◌, ◌*◌, ◌<◌, ◌^◌, List, [], ◌∷◌, sym, refl, ap, subst, w64, named, Val, vint, vptr, SProp, emp, via, Share, Fml, ftrue, flft, ‵, raw, ◌⊛◌, given, mean, at_ret, ◌$◌, ◌∵◌, !, qed, by, move, keep, drop, split, split3, join, fsplit, fsplit3, fjoin, fjoin3, fpick, fpack, learn, use0, rewrite, feq_i, stop, fld, lit, of_opd, bin, no_more, and_then, first, blocks, exec, Calls-last, returns, enter, alloc_all, pass_all, free_all, look_at, get, get_in, sub, whole, is, sets, lands_last, env, agg, shr_bor-open, obor_close, fact, fact_i, tables, yes, no, RattleType, owns, types_at, plain, named_lft, Ptr, block_ptr, ptr_val, block_of, count_of, at_block, usize, uint_vals, uint_Tells, mut_vals, mut_Tells, nothing, opens, closes, Stays, stay_dropped, stay_ref, walk_of, Goes-dropped, Goes-ref, after as from_on, guard_good, proved, leaves, seq_cst, fm, Names, RingIsPlaced, Bool, true, false, Stored, slot_word, is_odd, ◌∙◌, use3, found, finds, loads, Waits, waits_in, of_waits, lent_val, lent_told, accesses_in, loaded_slot, MayNote, did, filled, side_of, is_some}
use Rattle.piper_ring.specs.contracts.log.Log as Log
use Rattle.piper_ring.proofs.Steps.{Kept}
use Rattle.piper_ring.proofs.Rights.{known_halves}
use Rattle.piper_ring.proofs.Slots.{word_fits, odd_number, own_stays, own_gone, LoadsOwn, load_own}
use Rattle.piper_ring.specs.contracts.ring.slots.WaiterState as Slot
use Rattle.piper_ring.specs.contracts.ring.slots.SlotWords as SlotWords
use Rattle.piper_ring.proofs.ring.slots.SlotWords.load_own as own

pub load_own_spec : {M : Type 1} → own.Statement.statement M
load_own_spec 𝓤 𝓛 𝓜 𝓡 wired =
    let H = 𝓛.H in let 𝓣 = tables 𝓤 H 𝓜 𝓡 𝓡.env in let En = SlotWords.load_own.ended in let fn = own.Code.function in let c = SlotWords.load_own.clauses 𝓛 𝓜.mem 𝓡.returns in
    let self = plain (λ κs. SlotWords.the_row (named_lft 3 0 tt κs)) in let SRow : RattleType = Slot.the_row in let slot_ref = plain (λ _. SRow) in let index = plain (λ _. usize) in let LRow : RattleType = Log.the_row in let log_ref = plain (λ _. LRow) in
    let hs : Stays En.signature.params En.kept = (stay_dropped self no, (stay_ref (1 ∷ []) tt slot_ref, (stay_ref (2 ∷ []) tt log_ref, (stay_dropped index yes, tt)))) in
    proved 𝓛 En hs c 𝓜 𝓡 (Goes-dropped 𝓛 3 self no (λ κs x f. refl), (Goes-ref 𝓛 3 1 tt slot_ref, (Goes-ref 𝓛 3 2 tt log_ref, (Goes-dropped 𝓛 3 index yes (λ κs x f. refl), tt)))) SlotWords.load_own.Key.name fn (own.Code.unfolded 𝓤 H 𝓜 𝓡 wired)
    (λ κs. ((λ x. lent_val x.words ∷ []), (mut_vals, (mut_vals, (uint_vals w64, tt))))) (λ κs. ((λ x vs so. lent_told (named_lft 3 0 tt κs) x.words vs so.0), (mut_Tells (named 1) κs.1.0 SRow, (mut_Tells (named 2) κs.1.1.0 LRow, (uint_Tells w64, tt))))) (λ κs qs bounds a gh are.
    let h = a.0 in let w : Ptr = h.words in let p : Ptr = h.at in let z : Names = h.names in let κ = κs.0 in let q : Share = qs.0 in let i : ℕ = a.1.1.1.0 in let b2 : ℕ = a.1.1.0.ref_ptr.0 in let o2 : ℕ = a.1.1.0.ref_ptr.1 in let lg = a.1.1.0.now in
    let b : ℕ = a.1.0.ref_ptr.0 in let o : ℕ = a.1.0.ref_ptr.1 in let k = a.1.0.now in let r : Bool = k.for_reader in let view : Waits Stored = of_waits k in
    let y : (walk_of 𝓛 En hs c).Ghost = ((κs, qs, bounds, a, (lent_val w ∷ [], (vptr b o ∷ [], (vptr b2 o2 ∷ [], (vint w64 i ∷ [], tt))))), gh) in let Post : Val → SProp 𝓤 = (walk_of 𝓛 En hs c).post y in
    qed 𝓛 (((‵ (flft κ q) ⊛ ‵ (flft κs.1.0 qs.1.0) ⊛ ‵ (flft κs.1.1.0 qs.1.1.0) ⊛ ‵ ftrue) ⊛ ‵ (owns (types_at En.signature.params κs) a y.0.4)) ∷ given ((k.names ≡ z) × (i ≡ slot_word r)) (‵ ftrue) ∷ given (MayNote z r lg) (‵ ftrue) ∷ []) ∵
    move ! (1 ∷ []) $ learn ! (λ asked. drop ! $ move ! (1 ∷ []) $ learn ! (λ may. drop ! $ split ! $ split3 ! $ move ! (2 ∷ []) $ split ! $ move ! (4 ∷ []) $ fsplit3 ! $ fsplit ! $ drop ! $ fsplit3 ! $ fsplit ! $ fpick ! (λ at. drop ! $ nothing ! $ fpack ! (RingIsPlaced w p z) (λ _. ftrue) at $ fjoin ! $ move ! (1 ∷ []) $ fpick ! (λ who.
    move ! (3 ∷ []) $ fsplit3 ! $ move ! (6 ∷ []) $ fsplit ! $ fsplit3 ! $ keep ! (5 ∷ 6 ∷ 13 ∷ 1 ∷ 2 ∷ 10 ∷ 7 ∷ 8 ∷ 12 ∷ []) $ let bw : ℕ = block_of w in let ow : ℕ = count_of w in let e : ℕ = slot_word r * 8 + ow in let far : i * 8 ≡ slot_word r * 8 = ap (λ (m : ℕ). m * 8) asked.1 in
    enter ! 𝓣.C 𝓣.Λ fn (lent_val w ∷ vptr b o ∷ vptr b2 o2 ∷ vint w64 i ∷ []) Post $ alloc_all ! (λ l. pass_all ! refl (guard_good [] [] w, ((tt, tt), ((tt, tt), ((tt, record { fits = are.1.1.1.0.1 }), tt)))) $ let Ev = env fn.locals l in
    opens ! tt SRow b o (λ vs. move ! (5 ∷ 6 ∷ 7 ∷ []) $ opens ! tt LRow b2 o2 (λ vs2. move ! (1 ∷ []) $ fsplit ! $ move ! (7 ∷ []) $ fsplit ! $ sets ! (is ! (of_opd ! (get_in ! (fld ! refl (stop !)) (sub ! 0 refl (whole !)))) (ap ptr_val (at_block w at.0))) refl (tt, tt) $ first ! $ blocks ! $
    sets ! (is ! (bin ! (get ! refl) (lit ! tt) (record { fits = subst (λ (m : ℕ). m < 2 ^ 64) (sym far) (word_fits r) })) (ap (vint w64) far)) refl (tt, record { fits = word_fits r }) $ sets ! (bin ! (get ! refl) (get ! refl) tt) refl (tt, tt) $
    move ! (12 ∷ 14 ∷ []) $ shr_bor-open ! tt (known_halves 𝓛 w p z who) (λ s. move ! (14 ∷ 1 ∷ 3 ∷ []) $ rewrite ! 2 (λ (m : Names). ‵ (waits_in m r view.0 view.1.0 view.1.1)) {x = z} {y = k.names} asked.0 refl $ move ! (1 ∷ 2 ∷ []) $ join ! $ move ! (1 ∷ 0 ∷ 5 ∷ []) $
    let out : ℕ → Fml = LoadsOwn 𝓛 w p z s who r view lg in
    use3 𝓛 (raw (𝓣.C _ (vptr bw e ∷ seq_cst ∷ []) (λ u. mean 𝓛 (found out u)))) (via 𝓤 _ (load_own 𝓛 w p z s who r view lg (λ e. (may e).0)) (loads 𝓛 𝓜 𝓡 (own.Code.calls-core::raw_atomic::load 𝓡.env wired) (block_ptr bw e) out)) $
    sets ! (agg ! (and_then ! (lit ! tt) (no_more !))) refl (tt, (record { fits = lit< tt }, tt)) $ Calls-last ! (fm 𝓛 𝓜 𝓡) (found out) (and_then ! (get ! refl) (and_then ! (get ! refl) (no_more !))) (λ u. finds ! out (λ n fits.
    lands_last ! refl (tt, record { fits = fits }) $ exec ! 𝓣.C 𝓣.Λ Ev (from_on 2 fn.body) (at_ret Ev Post) $ sets ! (of_opd ! (get ! refl)) refl (tt, record { fits = fits }) $
    fpick ! (λ lay. fsplit ! $ fsplit3 ! $ move ! (1 ∷ []) $ fpick ! (λ is. drop ! $ move ! (1 ∷ []) $ fpick ! (λ v. fsplit ! $ fpick ! (λ so. drop ! $ move ! (3 ∷ 1 ∷ []) $ obor_close ! tt $ drop ! $ move ! (1 ∷ 0 ∷ []) $
    let k' : SRow.Denot = record k { waits = v.0; tickets = v.1.0; heard = v.1.1 } in let full : is_odd n ≡ is_some lay.1 = ap is_odd is ∙ odd_number (filled lay) in let l' : LRow.Denot = did (loaded_slot (side_of r) (is_odd n)) lg in
    rewrite ! 0 (λ (m : Names). ‵ (waits_in m r v.0 v.1.0 v.1.1)) {x = k.names} {y = z} (sym asked.0) refl $ rewrite ! 2 (λ (u : Bool). ‵ (Kept 𝓛 w p z lg (loaded_slot (side_of r) u ∷ (accesses_in lg.lines)))) {x = is_odd n} {y = is_some lay.1} (sym full) refl $
    move ! (3 ∷ 0 ∷ []) $ fjoin ! $ move ! (8 ∷ 0 ∷ 9 ∷ 10 ∷ 11 ∷ []) $ closes ! tt SRow k' vs b o $ feq_i ! (List Val) (vptr b o ∷ []) (vptr b o ∷ []) refl $ fjoin3 ! $
    move ! (4 ∷ 3 ∷ []) $ fjoin ! $ move ! (4 ∷ 0 ∷ 5 ∷ 6 ∷ 7 ∷ []) $ closes ! tt LRow l' vs2 b2 o2 $ feq_i ! (List Val) (vptr b2 o2 ∷ []) (vptr b2 o2 ∷ []) refl $ fjoin3 ! $
    nothing ! $ nothing ! $ fjoin ! $ move ! (1 ∷ 0 ∷ []) $ fjoin ! $ move ! (2 ∷ 0 ∷ []) $ fjoin ! $ nothing ! $ fjoin ! $ nothing ! $ move ! (2 ∷ 0 ∷ []) $ join ! $ move ! (2 ∷ 0 ∷ []) $ join ! $ move ! (2 ∷ 0 ∷ []) $ join ! $
    let Stays : Type 0 = is_odd n ≡ true → k' ≡ k in let Gone : Type 0 = is_odd n ≡ false → k' ≡ record k { waits = false } in let Waited : Type 0 = is_odd n ≡ true → k.waits ≡ true in
    let stays : Stays = λ e j. let u = own_stays (is_some lay.1) view v so.0 (sym full ∙ e) j in record k { waits = u.0; tickets = u.1.0; heard = u.1.1 } in let gone : Gone = λ e j. let u = own_gone (is_some lay.1) view v so.0 (sym full ∙ e) j in record k { waits = u.0; tickets = u.1.0; heard = u.1.1 } in
    use0 𝓛 (raw (fact 𝓤 (l' ≡ l'))) (fact_i 𝓤 (l' ≡ l') (emp 𝓤) refl) $ use0 𝓛 (raw (fact 𝓤 Waited)) (fact_i 𝓤 Waited (emp 𝓤) (λ e. so.1 (sym full ∙ e))) $ join ! $
    use0 𝓛 (raw (fact 𝓤 Gone)) (fact_i 𝓤 Gone (emp 𝓤) gone) $ join ! $ use0 𝓛 (raw (fact 𝓤 Stays)) (fact_i 𝓤 Stays (emp 𝓤) stays) $ join ! $
    flt_i ! n (2 ^ 64) fits $ feq_i ! (List Val) (vint w64 n ∷ []) (vint w64 n ∷ []) refl $ fjoin ! $ returns ! (look_at ! 0 refl) $ free_all ! refl $ keep ! (2 ∷ 3 ∷ 0 ∷ 1 ∷ []) $ by ! (leaves 𝓛 En hs c y (vint w64 n) n (tt, (k', (l', (tt, tt)))) (tt, (tt, (tt, (tt, tt))))))))))))))))))))
