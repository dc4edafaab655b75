-- `slot_words` copies evidence out of a share of what the writer knows, and hands the share on. Assumes
-- `Logic`.
use Rattle.piper_ring.proofs.Kit.{true, ◌≡◌, ℕ, ◌+◌, [], ◌∷◌, refl, named, Val, vptr, SProp, emp, Share, Fml, ftrue, flft, fhide, ‵, raw, ◌⊛◌, ◌$◌, ◌∵◌, !, qed, by, move, keep, drop, split, join, fsplit, fjoin, fjoin3, fpick, fpack, use0, use1, rewrite, stop, fld, load, look, of_opd, no_more, and_then, returns, enter, alloc_all, pass_all, free_all, look_at, get, through, sets, env, agg, shr_bor-open, obor_close, fact, fact_i, tables, yes, owns, types_at, plain, named_lft, Ptr, block_ptr, block_of, count_of, at_block, RefOf, shr_vals, shr_Tells, hidden_shr, hide, unhide, nothing, lent_out, Stays, stay_dropped, walk_of, Goes-dropped, pointer_in, pointer_out, guard_good, proved, leaves, Names, RingIsPlaced, common, Known, lent_by, evidence, Stored, as_stored, by_writer, writer_knows, writer_lends, PointerData, lent_val, LentData, lent_made, fshr_bor, one_shr_laws}
use Rattle.piper_ring.proofs.Rights.{writer_halves}
use Rattle.piper_ring.proofs.Slots.{writer_stored}
use Rattle.piper_ring.specs.contracts.ring.seats.WriteSeat as Seat
use Rattle.piper_ring.proofs.ring.seats.WriteSeat.slot_words as own

pub slot_words_spec : {M : Type 1} → own.Statement.statement M
slot_words_spec 𝓤 𝓛 𝓜 𝓡 wired =
    let H = 𝓛.H in let 𝓣 = tables 𝓤 H 𝓜 𝓡 𝓡.env in let En = Seat.slot_words.ended in let fn = own.Code.function in let c = Seat.slot_words.clauses 𝓛 𝓜.mem 𝓡.returns in
    let self = RefOf (0 ∷ []) tt (plain (λ _. Seat.the_row)) (λ _. tt) in
    let hs : Stays En.signature.params En.kept = (stay_dropped self yes, tt) in
    proved 𝓛 En hs c 𝓜 𝓡 (Goes-dropped 𝓛 1 self yes (λ κs x f. refl), tt) Seat.slot_words.Key.name fn (own.Code.unfolded 𝓤 H 𝓜 𝓡 wired)
    (λ κs. (shr_vals, tt)) (λ κs. (shr_Tells (named 0) κs.0 Seat.the_row, tt)) (λ κs qs bounds a gh are.
    let b : ℕ = a.0.ref_ptr.0 in let o : ℕ = a.0.ref_ptr.1 in let h = a.0.now in let w : Ptr = h.words in let p : Ptr = h.at in let z : Names = h.names in let κ = κs.0 in let q : Share = qs.0 in
    let Φ : Share → Fml = λ s. writer_knows w p z s h.sent h.limit h.shut 0 in let x : Stored = as_stored h.sent 0 h.shut in
    let y : (walk_of 𝓛 En hs c).Ghost = ((κs, qs, bounds, a, (vptr b o ∷ [], tt)), gh) in let Post : Val → SProp 𝓤 = (walk_of 𝓛 En hs c).post y in
    qed 𝓛 (((‵ (flft κ q) ⊛ ‵ ftrue) ⊛ ‵ (owns (types_at En.signature.params κs) a y.0.4)) ∷ ‵ ftrue ∷ []) ∵
    split ! $ split ! $ move ! (2 ∷ []) $ fsplit ! $ fsplit ! $ drop ! $
    use1 𝓛 (‵ (hidden_shr PointerData κ (w, tt) b o) ⊛ ‵ (fhide (writer_lends w p z h.sent h.limit h.shut κ))) (lent_out 𝓛 Seat.struct Seat.the_codes Seat.the_heap Seat.the_lent κ h b o) $
    split ! $ unhide ! $ fsplit ! $ fsplit ! $ keep ! (0 ∷ 3 ∷ 5 ∷ []) $ hide ! $ move ! (1 ∷ []) $ unhide ! $ fsplit ! $ fsplit ! $ fpick ! (λ at. drop ! $ nothing ! $ fpack ! (RingIsPlaced w p z) (λ _. ftrue) at $ fjoin ! $
    let bw : ℕ = block_of w in let ow : ℕ = count_of w in let w' : Ptr = block_ptr bw ow in let isw : w ≡ w' = at_block w at.0 in
    enter ! 𝓣.C 𝓣.Λ fn (vptr b o ∷ []) Post $ alloc_all ! (λ l. pass_all ! refl ((tt, tt), tt) $ let Ev = env fn.locals l in move ! (2 ∷ 3 ∷ []) $ pointer_in ! tt w bw ow isw b (o + 0) (λ r.
    sets ! (of_opd ! (load ! (through ! refl (fld ! refl (stop !))) (look ! 0 refl))) refl (tt, tt) $ pointer_out ! tt w bw ow isw b (o + 0) $ sets ! (agg ! (no_more !)) refl (tt, tt) $
    sets ! (agg ! (and_then ! (get ! refl) (and_then ! (get ! refl) (no_more !)))) refl (guard_good [] [] w') $
    move ! (2 ∷ []) $ use1 𝓛 (‵ (fshr_bor κ Φ) ⊛ ‵ (fshr_bor κ Φ)) ((one_shr_laws Φ).contraction _ 𝓤 𝓛 κ) $ split ! $ move ! (0 ∷ 2 ∷ []) $ shr_bor-open ! tt (writer_halves 𝓛 w p z h.sent h.limit h.shut 0) (λ s. move ! (1 ∷ []) $
    use1 𝓛 (‵ (Φ s) ⊛ ‵ (evidence z true x)) (writer_stored 𝓛 w p z s h.sent h.limit h.shut) $ split ! $ move ! (2 ∷ 0 ∷ []) $ obor_close ! tt $ drop ! $ move ! (2 ∷ []) $ fpack ! Known (lent_by w' p z κ) (by_writer h.sent h.limit h.shut) $
    move ! (3 ∷ 0 ∷ 2 ∷ []) $ rewrite ! 0 (λ (m : Ptr). ‵ (common m p z)) isw refl $ fjoin3 ! $ use0 𝓛 (‵ ((LentData (named_lft 1 0 tt κs)).own_val (w', (tt, tt)) (lent_val w' ∷ []))) (lent_made (named_lft 1 0 tt κs) 𝓛 w') $ fjoin ! $
    move ! (1 ∷ []) $ nothing ! $ move ! (1 ∷ 0 ∷ []) $ join ! $ move ! (1 ∷ []) $
    use0 𝓛 (raw (fact 𝓤 ((true ≡ true) × (x ≡ x)))) (fact_i 𝓤 ((true ≡ true) × (x ≡ x)) (emp 𝓤) (refl, refl)) $ use0 𝓛 (raw (fact 𝓤 (z ≡ z))) (fact_i 𝓤 (z ≡ z) (emp 𝓤) refl) $ join ! $ nothing ! $ nothing ! $ fjoin ! $
    returns ! (look_at ! 0 refl) $ free_all ! refl $ keep ! (3 ∷ 0 ∷ 2 ∷ 1 ∷ []) $ by ! (leaves 𝓛 En hs c y (lent_val w') (record { words = w'; mark = record {}; at = p; names = z; for_reader = true; stored = x }) (tt, tt) (tt, tt)))))))
