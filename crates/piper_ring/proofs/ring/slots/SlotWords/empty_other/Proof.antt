-- `empty_other` is one swap, beside a share of what the end knows that lends the words, and evidence of
-- what it stored: the own right goes in, and the one of the cell that lay there comes out. Assumes
-- `Logic`.
use Rattle.piper_ring.proofs.Kit.{◌≡◌, ℕ, ◌+◌, ◌*◌, ◌<◌, ◌^◌, List, [], ◌∷◌, sym, refl, ap, subst, w64, lit<, named, Val, vint, vptr, SProp, emp, via, Share, Fml, ftrue, flft, ‵, raw, ◌⊛◌, given, mean, at_ret, ◌$◌, ◌∵◌, !, qed, by, move, keep, drop, split, split3, join, fsplit, fsplit3, fjoin, fjoin3, fpick, fpack, learn, use0, use3, rewrite, feq_i, flt_i, stop, fld, lit, of_opd, bin, no_more, and_then, first, blocks, exec, Calls-last, returns, enter, alloc_all, pass_all, free_all, look_at, get, get_in, sub, whole, is, sets, lands_last, env, agg, shr_bor-open, obor_close, fact, fact_i, tables, yes, no, RattleType, owns, types_at, plain, named_lft, Ptr, block_ptr, ptr_val, block_of, count_of, at_block, usize, uint_vals, uint_Tells, mut_vals, mut_Tells, nothing, opens, closes, Stays, stay_dropped, stay_ref, walk_of, Goes-dropped, Goes-ref, after as from_on, guard_good, proved, leaves, seq_cst, fm, Names, RingIsPlaced, Bool, true, false, Stored, slot_word, found, finds, lent_val, lent_told, u64, swaps, right, number, ◌∙◌, Wakes, IsTicket, evidence, wakes_in, of_wakes, accesses_in, slice_index, swapped, IsLogOf, did, ticket_if, side_of, Option, is_some, None, not, IsTokenOf, IsTokenAt}
use Rattle.piper_ring.specs.contracts.log.Log as Log
use Rattle.piper_ring.proofs.Steps.{Kept}
use Rattle.piper_ring.proofs.Rights.{known_halves}
use Rattle.piper_ring.proofs.Slots.{word_fits, EmptiesOther, empty_other}
use Rattle.piper_cells.specs.contracts.token_cell.Token as Token
use Rattle.piper_ring.specs.contracts.ring.slots.WakerState as Slot
use Rattle.piper_ring.specs.contracts.ring.slots.SlotWords as SlotWords
use Rattle.piper_ring.proofs.ring.slots.SlotWords.empty_other as own

pub empty_other_spec : {M : Type 1} → own.Statement.statement M
empty_other_spec 𝓤 𝓛 𝓜 𝓡 wired =
    let H = 𝓛.H in let 𝓣 = tables 𝓤 H 𝓜 𝓡 𝓡.env in let En = SlotWords.empty_other.ended in let fn = own.Code.function in let c = SlotWords.empty_other.clauses 𝓛 𝓜.mem 𝓡.returns in
    let self = plain (λ κs. SlotWords.the_row (named_lft 4 0 tt κs)) in let SRow : RattleType = Slot.the_row in let slot_ref = plain (λ _. SRow) in let TRow : RattleType = Token.the_row in let token_ref = plain (λ _. TRow) in let new_of = plain (λ _. u64) in let index = plain (λ _. usize) in let LRow : RattleType = Log.the_row in let log_ref = plain (λ _. LRow) in
    let hs : Stays En.signature.params En.kept = (stay_dropped self no, (stay_ref (1 ∷ []) tt slot_ref, (stay_ref (2 ∷ []) tt token_ref, (stay_ref (3 ∷ []) tt log_ref, (stay_dropped new_of yes, (stay_dropped index yes, tt)))))) in
    proved 𝓛 En hs c 𝓜 𝓡 (Goes-dropped 𝓛 4 self no (λ κs x f. refl), (Goes-ref 𝓛 4 1 tt slot_ref, (Goes-ref 𝓛 4 2 tt token_ref, (Goes-ref 𝓛 4 3 tt log_ref, (Goes-dropped 𝓛 4 new_of yes (λ κs x f. refl), (Goes-dropped 𝓛 4 index yes (λ κs x f. refl), tt)))))) SlotWords.empty_other.Key.name fn (own.Code.unfolded 𝓤 H 𝓜 𝓡 wired)
    (λ κs. ((λ x. lent_val x.words ∷ []), (mut_vals, (mut_vals, (mut_vals, (uint_vals w64, (uint_vals w64, tt))))))) (λ κs. ((λ x vs so. lent_told (named_lft 4 0 tt κs) x.words vs so.0), (mut_Tells (named 1) κs.1.0 SRow, (mut_Tells (named 2) κs.1.1.0 TRow, (mut_Tells (named 3) κs.1.1.1.0 LRow, (uint_Tells w64, (uint_Tells w64, tt))))))) (λ κs qs bounds a gh are.
    let h = a.0 in let w : Ptr = h.words in let p : Ptr = h.at in let z : Names = h.names in let κ = κs.0 in let q : Share = qs.0 in let new : ℕ = a.1.1.1.1.0 in let i : ℕ = a.1.1.1.1.1.0 in let b3 : ℕ = a.1.1.1.0.ref_ptr.0 in let o3 : ℕ = a.1.1.1.0.ref_ptr.1 in let lg = a.1.1.1.0.now in
    let b : ℕ = a.1.0.ref_ptr.0 in let o : ℕ = a.1.0.ref_ptr.1 in let k = a.1.0.now in let b2 : ℕ = a.1.1.0.ref_ptr.0 in let o2 : ℕ = a.1.1.0.ref_ptr.1 in let t : TRow.Denot = a.1.1.0.now in let r : Bool = k.for_reader in let view : Wakes Stored = of_wakes k in let x : Stored = h.stored in
    let y : (walk_of 𝓛 En hs c).Ghost = ((κs, qs, bounds, a, (lent_val w ∷ [], (vptr b o ∷ [], (vptr b2 o2 ∷ [], (vptr b3 o3 ∷ [], (vint w64 new ∷ [], (vint w64 i ∷ [], tt))))))), gh) in let Post : Val → SProp 𝓤 = (walk_of 𝓛 En hs c).post y in
    qed 𝓛 (((‵ (flft κ q) ⊛ ‵ (flft κs.1.0 qs.1.0) ⊛ ‵ (flft κs.1.1.0 qs.1.1.0) ⊛ ‵ (flft κs.1.1.1.0 qs.1.1.1.0) ⊛ ‵ ftrue) ⊛ ‵ (owns (types_at En.signature.params κs) a y.0.4)) ∷ given ((k.names ≡ z) × (r ≡ h.for_reader) × (i ≡ slot_word r)) (‵ ftrue) ∷ given (IsTokenAt z.cells new t × (t.filled ≡ false)) (‵ ftrue) ∷ given (IsLogOf z (not r) lg) (‵ ftrue) ∷ []) ∵
    move ! (1 ∷ []) $ learn ! (λ asked. drop ! $ move ! (1 ∷ []) $ learn ! (λ asks. let told = asks.0 in let small : told.0 < 4 = told.1.small in let says : new ≡ number (told.0, false) = told.2 ∙ ap (λ (f : Bool). number (told.0, f)) asks.1 in
    drop ! $ move ! (1 ∷ []) $ learn ! (λ logged. drop ! $ split ! $ split3 ! $ move ! (2 ∷ []) $ split3 ! $ move ! (5 ∷ []) $ fsplit3 ! $ fsplit ! $ drop ! $ fsplit3 ! $ fsplit ! $ fpick ! (λ at. drop ! $ nothing ! $ fpack ! (RingIsPlaced w p z) (λ _. ftrue) at $ fjoin ! $ move ! (1 ∷ []) $ fpick ! (λ who.
    move ! (3 ∷ []) $ fsplit3 ! $ move ! (6 ∷ []) $ fsplit3 ! $ fsplit3 ! $ move ! (3 ∷ []) $ fsplit3 ! $ keep ! (8 ∷ 9 ∷ 17 ∷ 4 ∷ 5 ∷ 13 ∷ 10 ∷ 11 ∷ 16 ∷ 12 ∷ 1 ∷ 2 ∷ 14 ∷ []) $ let bw : ℕ = block_of w in let ow : ℕ = count_of w in let e : ℕ = slot_word r * 8 + ow in let far : i * 8 ≡ slot_word r * 8 = ap (λ (m : ℕ). m * 8) asked.2 in
    enter ! 𝓣.C 𝓣.Λ fn (lent_val w ∷ vptr b o ∷ vptr b2 o2 ∷ vptr b3 o3 ∷ vint w64 new ∷ vint w64 i ∷ []) Post $ alloc_all ! (λ l. pass_all ! refl (guard_good [] [] w, ((tt, tt), ((tt, tt), ((tt, tt), ((tt, record { fits = are.1.1.1.1.0.1 }), ((tt, record { fits = are.1.1.1.1.1.0.1 }), tt)))))) $ let Ev = env fn.locals l in
    move ! (10 ∷ 11 ∷ 12 ∷ []) $ opens ! tt LRow b3 o3 (λ vs3. move ! (1 ∷ []) $ fsplit ! $ move ! (6 ∷ 7 ∷ 8 ∷ []) $ opens ! tt SRow b o (λ vs. move ! (11 ∷ 12 ∷ 13 ∷ []) $ opens ! tt TRow b2 o2 (λ vs2. move ! (1 ∷ []) $ fsplit ! $ move ! (7 ∷ []) $ fsplit ! $
    sets ! (is ! (of_opd ! (get_in ! (fld ! refl (stop !)) (sub ! 0 refl (whole !)))) (ap ptr_val (at_block w at.0))) refl (tt, tt) $ first ! $ blocks ! $
    sets ! (is ! (bin ! (get ! refl) (lit ! tt) (record { fits = subst (λ (m : ℕ). m < 2 ^ 64) (sym far) (word_fits r) })) (ap (vint w64) far)) refl (tt, record { fits = word_fits r }) $ sets ! (bin ! (get ! refl) (get ! refl) tt) refl (tt, tt) $
    move ! (18 ∷ 20 ∷ []) $ shr_bor-open ! tt (known_halves 𝓛 w p z who) (λ s. move ! (20 ∷ 1 ∷ 3 ∷ 5 ∷ 21 ∷ []) $ rewrite ! 2 (λ (m : Names). ‵ (wakes_in m r view.0 view.1)) {x = z} {y = k.names} asked.0 refl $
    rewrite ! 3 (λ (u : Bool × ℕ × Bool). ‵ (right u.0 u.1 u.2)) {x = (true, slice_index z.cells told.0, false)} {y = (t.there, t.name, t.filled)} (λ j. (told.1.there j, told.1.name j, asks.1 j)) refl $
    rewrite ! 4 (λ (m : Bool). ‵ (evidence z m x)) {x = r} {y = h.for_reader} (sym asked.1) refl $ move ! (2 ∷ 4 ∷ []) $ fjoin ! $ move ! (3 ∷ 0 ∷ []) $ fjoin ! $ move ! (2 ∷ 0 ∷ []) $ join ! $ move ! (1 ∷ 0 ∷ 14 ∷ []) $
    -- [what both ends share; what this one knows; the own right and what the side knows; ..]
    let out : ℕ → Fml = EmptiesOther 𝓛 w p z s who r view x told.0 lg in
    use3 𝓛 (raw (𝓣.C _ (vptr bw e ∷ vint w64 new ∷ seq_cst ∷ []) (λ u. mean 𝓛 (found out u)))) (via 𝓤 _ (empty_other 𝓛 w p z s who r view x told.0 new small says lg logged.0 logged.1) (swaps 𝓛 𝓜 𝓡 (own.Code.calls-core::raw_atomic::swap 𝓡.env wired) (block_ptr bw e) new are.1.1.1.1.0.1 out)) $
    sets ! (agg ! (and_then ! (lit ! tt) (no_more !))) refl (tt, (record { fits = lit< tt }, tt)) $ Calls-last ! (fm 𝓛 𝓜 𝓡) (found out) (and_then ! (get ! refl) (and_then ! (get ! refl) (and_then ! (get ! refl) (no_more !)))) (λ u. finds ! out (λ n fits.
    lands_last ! refl (tt, record { fits = fits }) $ exec ! 𝓣.C 𝓣.Λ Ev (from_on 2 fn.body) (at_ret Ev Post) $ sets ! (of_opd ! (get ! refl)) refl (tt, record { fits = fits }) $
    fpick ! (λ came. fsplit ! $ fsplit3 ! $ move ! (1 ∷ []) $ fpick ! (λ there. drop ! $ move ! (1 ∷ []) $ fsplit ! $ move ! (1 ∷ []) $ fpick ! (λ v. fsplit ! $ fpick ! (λ so. drop ! $ move ! (4 ∷ 2 ∷ []) $ obor_close ! tt $ drop ! $
    let k' : SRow.Denot = record k { taken = v.0; stored = v.1 } in let t' : TRow.Denot = record { mark = record {}; name = slice_index z.cells came.0; there = true; filled = is_some came.1 } in
    let l' : LRow.Denot = did (swapped (side_of r) (ticket_if (is_some came.1) v.0) None) lg in
    rewrite ! 3 (λ (u : Option ℕ). ‵ (Kept 𝓛 w p z lg (swapped (side_of r) u None ∷ (accesses_in lg.lines)))) {x = ticket_if (is_some came.1) v.0} {y = came.1} so.0.1 refl $
    rewrite ! 1 (λ (m : Names). ‵ (wakes_in m r v.0 v.1)) {x = k.names} {y = z} (sym asked.0) refl $
    move ! (5 ∷ 2 ∷ []) $ fjoin ! $ move ! (5 ∷ 0 ∷ 6 ∷ 7 ∷ 8 ∷ []) $ closes ! tt TRow t' vs2 b2 o2 $ feq_i ! (List Val) (vptr b2 o2 ∷ []) (vptr b2 o2 ∷ []) refl $ fjoin3 ! $
    move ! (5 ∷ 3 ∷ []) $ fjoin ! $ move ! (5 ∷ 0 ∷ 6 ∷ 7 ∷ 8 ∷ []) $ closes ! tt SRow k' vs b o $ feq_i ! (List Val) (vptr b o ∷ []) (vptr b o ∷ []) refl $ fjoin3 ! $
    move ! (6 ∷ 5 ∷ []) $ fjoin ! $ move ! (6 ∷ 0 ∷ 7 ∷ 8 ∷ 9 ∷ []) $ closes ! tt LRow l' vs3 b3 o3 $ feq_i ! (List Val) (vptr b3 o3 ∷ []) (vptr b3 o3 ∷ []) refl $ fjoin3 ! $
    nothing ! $ nothing ! $ fjoin ! $ nothing ! $ fjoin ! $ move ! (1 ∷ 0 ∷ []) $ fjoin ! $ move ! (4 ∷ 0 ∷ []) $ fjoin ! $ move ! (2 ∷ 0 ∷ []) $ fjoin ! $ nothing ! $ fjoin ! $
    nothing ! $ move ! (2 ∷ 0 ∷ []) $ join ! $ move ! (3 ∷ 0 ∷ []) $ join ! $ move ! (2 ∷ 0 ∷ []) $ join ! $ move ! (2 ∷ 0 ∷ []) $ join ! $
    let Same : Type 0 = k' ≡ record k { taken = k'.taken; stored = x } in let Ticket : Type 0 = IsTicket (is_some came.1) k.taken v.0 in let At : Type 0 = IsTokenAt z.cells n t' in
    let lies : IsTokenOf z.cells came.0 (is_some came.1) t' = record { small = there.0; name = refl; there = refl; filled = refl } in
    use0 𝓛 (raw (fact 𝓤 (l' ≡ l'))) (fact_i 𝓤 (l' ≡ l') (emp 𝓤) refl) $ use0 𝓛 (raw (fact 𝓤 At)) (fact_i 𝓤 At (emp 𝓤) (came.0, lies, there.1)) $ join ! $
    use0 𝓛 (raw (fact 𝓤 Ticket)) (fact_i 𝓤 Ticket (emp 𝓤) so.0.0) $ join ! $ use0 𝓛 (raw (fact 𝓤 Same)) (fact_i 𝓤 Same (emp 𝓤) (ap (λ (m : Stored). record k { taken = v.0; stored = m }) so.1)) $ join ! $
    flt_i ! n (2 ^ 64) fits $ feq_i ! (List Val) (vint w64 n ∷ []) (vint w64 n ∷ []) refl $ fjoin ! $ returns ! (look_at ! 0 refl) $ free_all ! refl $ keep ! (2 ∷ 3 ∷ 0 ∷ 1 ∷ []) $ by ! (leaves 𝓛 En hs c y (vint w64 n) n (tt, (k', (t', (l', (tt, (tt, tt)))))) (tt, (tt, (tt, (tt, (tt, (tt, tt))))))))))))))))))))))))
