-- `duplicate` copies the pointer, and what a place owns can be had twice. Assumes `Logic`.
use Rattle.piper_cells.proofs.SpaceKit.{◌≡◌, ℕ, ◌+◌, [], ◌∷◌, sym, refl, ap, a_type, named, inst_fn, Val, vptr, SProp, emp, Share, ftrue, flft, fhide, fact, fact_i, tables, ‵, raw, ◌⊛◌, ◌$◌, ◌∵◌, !, qed, by, move, keep, drop, split, join, fsplit, fjoin, use0, use1, stop, fld, load, look, of_opd, no_more, and_then, returns, enter, alloc_all, pass_all, free_all, look_at, get, through, sets, is, env, agg, yes, RefOf, hidden_shr, hide, unhide, param, layouts, param_laws, RattleType, owns, Ptr, block_ptr, InBlock, block_of, count_of, at_block, shr_vals, shr_Tells, plain, types_at, nothing, heard, lent_at, lent_at_shr_laws, lent_out, in_block_says, Stays, stay_dropped, walk_of, Goes-dropped, pointer_in, pointer_out, proved, leaves, word-Good, contraction, placed}
use Rattle.piper_cells.proofs.Fields.{pointer_val, PointerData, pointer_made}
use Rattle.piper_cells.specs.contracts.lent_space.Placed as Placed
use Rattle.piper_cells.specs.contracts.lent_space.Placed.duplicate.{ended, clauses}
use Rattle.piper_cells.specs.contracts.lent_space.Placed.duplicate.Key.{name as #self}
use Rattle.piper_cells.proofs.lent_space.Placed.duplicate.Statement.{statement}
use Rattle.piper_cells.proofs.lent_space.Placed.duplicate.Code as code

pub duplicate_spec : {M : Type 1} → statement M
duplicate_spec 𝓤 𝓛 𝓜 𝓡 wired X L =
    let H = 𝓛.H in let 𝓣 = tables 𝓤 H 𝓜 𝓡 𝓡.env in let R : RattleType = param 0 X in let En = ended X in let c = clauses X 𝓛 𝓜.mem 𝓡.returns in
    let inst = layouts (a_type ∷ []) (X, tt) in let fn = inst_fn inst code.function in let Row : RattleType = Placed.the_row R in
    let self = RefOf (0 ∷ []) tt (plain (λ _. Row)) (λ _. tt) in let hs : Stays En.signature.params En.kept = (stay_dropped self yes, tt) in
    proved 𝓛 En hs c 𝓜 𝓡 (Goes-dropped 𝓛 2 self yes (λ κs x f. refl), tt) (#self inst) fn (code.unfolded 𝓤 H 𝓜 𝓡 wired (X, tt))
    (λ κs. (shr_vals, tt)) (λ κs. (shr_Tells (named 0) κs.0 Row, tt)) (λ κs qs bounds a gh are.
    let b : ℕ = a.0.ref_ptr.0 in let o : ℕ = a.0.ref_ptr.1 in let h = a.0.now in let p : Ptr = h.at in let pb : ℕ = block_of p in let po : ℕ = count_of p in let κ = κs.0 in let q : Share = qs.0 in
    let y : (walk_of 𝓛 En hs c).Ghost = ((κs, qs, bounds, a, (vptr b o ∷ [], tt)), gh) in let Post : Val → SProp 𝓤 = (walk_of 𝓛 En hs c).post y in let P = placed R p h.value h.life in let Told : Type 0 = h ≡ h in
    qed 𝓛 (((‵ (flft κ q) ⊛ ‵ (flft κs.1.0 qs.1.0) ⊛ ‵ ftrue) ⊛ ‵ (owns (types_at En.signature.params κs) a y.0.4)) ∷ raw ((c κs a).requires gh) ∷ []) ∵
    keep ! (0 ∷ []) $ split ! $ split ! $ move ! (2 ∷ []) $ fsplit ! $ fsplit ! $ drop ! $
    use1 𝓛 (‵ (hidden_shr PointerData κ (p, tt) b o) ⊛ ‵ (fhide P)) (lent_out 𝓛 (Placed.struct R) (Placed.the_codes R.Denot R.coded) (Placed.the_heap R) (Placed.the_lent R) κ h b o) $
    split ! $ unhide ! $ fsplit ! $ fsplit ! $ keep ! (0 ∷ 3 ∷ 5 ∷ 6 ∷ []) $ hide ! $ move ! (1 ∷ []) $ unhide ! $
    use1 𝓛 (‵ P ⊛ ‵ P) (contraction 𝓛 (lent_at R p h.value) (lent_at_shr_laws R (param_laws 0 X L).shr_laws p h.value) (h.life ∷ [])) $ split ! $
    fsplit ! $ use1 𝓛 (raw (fact 𝓤 (InBlock p))) (in_block_says 𝓛 p) $ heard ! _ (λ inb. drop ! $ move ! (1 ∷ 2 ∷ []) $ let is_p : p ≡ block_ptr pb po = at_block p inb in
    -- [the pointer that is seen; its token; what the place owns; the other tokens]
    enter ! 𝓣.C 𝓣.Λ fn (vptr b o ∷ []) Post $ alloc_all ! (λ l. pass_all ! refl ((tt, tt), tt) $ let Ev = env fn.locals l in
    pointer_in ! tt p pb po is_p b (o + 0) (λ r. sets ! (of_opd ! (load ! (through ! refl (fld ! refl (stop !))) (look ! 0 refl))) refl (tt, tt) $ pointer_out ! tt p pb po is_p b (o + 0) $
    sets ! (is ! (agg ! (and_then ! (get ! refl) (no_more !))) (ap pointer_val (sym is_p))) refl (word-Good [] p) $
    move ! (1 ∷ []) $ use0 𝓛 (‵ (PointerData.own_val (p, tt) (pointer_val p ∷ []))) (pointer_made 𝓛 p) $ fjoin ! $ move ! (1 ∷ 2 ∷ []) $ join ! $
    use0 𝓛 (raw (fact 𝓤 Told)) (fact_i 𝓤 Told (emp 𝓤) refl) $ nothing ! $ nothing ! $ fjoin ! $
    returns ! (look_at ! 0 refl) $ free_all ! refl $ keep ! (2 ∷ 0 ∷ 3 ∷ 1 ∷ []) $ by ! (leaves 𝓛 En hs c y (pointer_val p) h (tt, tt) (tt, tt))))))
