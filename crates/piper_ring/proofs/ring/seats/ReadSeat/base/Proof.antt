-- `base` is where the bytes lie behind the words. Assumes `Logic`.
use Rattle.piper_ring.proofs.Kit.{◌≡◌, ℕ, ◌+◌, [], ◌∷◌, sym, refl, named, Val, vptr, SProp, emp, Share, ftrue, flft, fhide, ‵, raw, ◌⊛◌, at_ret, ◌$◌, ◌∵◌, !, qed, by, move, keep, drop, split, join, fsplit, fjoin, fpick, use0, use1, stop, fld, load, look, lit, of_opd, bin, no_more, and_then, first, blocks, exec, returns, enter, alloc_all, pass_all, free_all, look_at, get, through, sets, sets_last, env, agg, fact, fact_i, tables, yes, owns, types_at, plain, Ptr, block_ptr, block_of, count_of, at_block, RefOf, shr_vals, shr_Tells, hidden_shr, hide, unhide, nothing, lent_out, Stays, stay_dropped, walk_of, Goes-dropped, tail, pointer_in, pointer_out, proved, leaves, Names, reader_lends, PointerData, pointer_val, pointer_made, behind}
use Rattle.piper_ring.specs.contracts.ring.seats.ReadSeat as Seat
use Rattle.piper_ring.proofs.ring.seats.ReadSeat.base as own

pub base_spec : {M : Type 1} → own.Statement.statement M
base_spec 𝓤 𝓛 𝓜 𝓡 wired =
    let H = 𝓛.H in let 𝓣 = tables 𝓤 H 𝓜 𝓡 𝓡.env in let En = Seat.base.ended in let fn = own.Code.function in let c = Seat.base.clauses 𝓛 𝓜.mem 𝓡.returns in
    let self = RefOf (0 ∷ []) tt (plain (λ _. Seat.the_row)) (λ _. tt) in
    let hs : Stays En.signature.params En.kept = (stay_dropped self yes, tt) in
    proved 𝓛 En hs c 𝓜 𝓡 (Goes-dropped 𝓛 1 self yes (λ κs x f. refl), tt) Seat.base.Key.name fn (own.Code.unfolded 𝓤 H 𝓜 𝓡 wired)
    (λ κs. (shr_vals, tt)) (λ κs. (shr_Tells (named 0) κs.0 Seat.the_row, tt)) (λ κs qs bounds a gh are.
    let b : ℕ = a.0.ref_ptr.0 in let o : ℕ = a.0.ref_ptr.1 in let h = a.0.now in let w : Ptr = h.words in let p : Ptr = h.at in let z : Names = h.names in let κ = κs.0 in let q : Share = qs.0 in
    let y : (walk_of 𝓛 En hs c).Ghost = ((κs, qs, bounds, a, (vptr b o ∷ [], tt)), gh) in let Post : Val → SProp 𝓤 = (walk_of 𝓛 En hs c).post y in
    qed 𝓛 (((‵ (flft κ q) ⊛ ‵ ftrue) ⊛ ‵ (owns (types_at En.signature.params κs) a y.0.4)) ∷ ‵ ftrue ∷ []) ∵
    split ! $ split ! $ move ! (2 ∷ []) $ fsplit ! $ fsplit ! $ drop ! $
    use1 𝓛 (‵ (hidden_shr PointerData κ (w, tt) b o) ⊛ ‵ (fhide (reader_lends w p z h.head h.seen h.leaving κ))) (lent_out 𝓛 Seat.struct Seat.the_codes Seat.the_heap Seat.the_lent κ h b o) $
    split ! $ unhide ! $ fsplit ! $ fsplit ! $ keep ! (0 ∷ 3 ∷ 5 ∷ []) $ hide ! $ move ! (1 ∷ []) $ unhide ! $ fsplit ! $ fsplit ! $ fpick ! (λ at. keep ! (3 ∷ 4 ∷ []) $
    let bw : ℕ = block_of w in let ow : ℕ = count_of w in let isw : w ≡ block_ptr bw ow = at_block w at.0 in let p' : Ptr = behind w in let Told : Type 0 = p' ≡ p in
    enter ! 𝓣.C 𝓣.Λ fn (vptr b o ∷ []) Post $ alloc_all ! (λ l. pass_all ! refl ((tt, tt), tt) $ let Ev = env fn.locals l in first ! $ blocks ! $
    pointer_in ! tt w bw ow isw b (o + 0) (λ r.
    sets ! (of_opd ! (load ! (through ! refl (fld ! refl (stop !))) (look ! 0 refl))) refl (tt, tt) $ pointer_out ! tt w bw ow isw b (o + 0) $
    nothing ! $ move ! (1 ∷ 0 ∷ []) $ join ! $ sets ! (of_opd ! (get ! refl)) refl (tt, tt) $ sets_last ! (bin ! (get ! refl) (lit ! tt) tt) refl (tt, tt) $
    exec ! 𝓣.C 𝓣.Λ Ev (tail fn.body) (at_ret Ev Post) $ sets ! (of_opd ! (get ! refl)) refl (tt, tt) $ sets ! (agg ! (and_then ! (get ! refl) (no_more !))) refl (tt, (tt, tt)) $
    use0 𝓛 (‵ (PointerData.own_val (p', tt) (pointer_val p' ∷ []))) (pointer_made 𝓛 p') $
    use0 𝓛 (raw (fact 𝓤 Told)) (fact_i 𝓤 Told (emp 𝓤) (sym at.1)) $ nothing ! $ nothing ! $ fjoin ! $
    returns ! (look_at ! 0 refl) $ free_all ! refl $ keep ! (3 ∷ 0 ∷ 2 ∷ 1 ∷ []) $ by ! (leaves 𝓛 En hs c y (pointer_val p') (record { ptr = p' }) (tt, tt) (tt, tt))))))
