-- `get` shows the value for as long as the `&` to a lease lasts. Assumes `Logic`.
use Rattle.piper_cells.proofs.SpaceKit.{◌≡◌, ℕ, ◌+◌, List, [], ◌∷◌, refl, a_type, named, inst_fn, Val, vptr, SProp, emp, Share, ftrue, flft, fhide, ◌⊑◌, meet_⊑_left, fact, fact_i, tables, ‵, raw, ◌⊛◌, at_ret, ◌$◌, ◌∵◌, !, qed, by, move, keep, drop, split, join, fsplit, fsplit3, fjoin, rewrite, feq_i, use0, use1, use2, stop, fld, hop, look, addr, of_opd, first, blocks, exec, returns, enter, alloc_all, pass_all, free_all, look_at, get, through, sets, sets_last, env, yes, RefOf, RawPtr, hidden_shr, hide, unhide, moves_from, param, layouts, param_laws, RattleType, owns, Ptr, block_ptr, InBlock, block_of, count_of, at_block, shr_vals, shr_Tells, plain, types_at, nothing, heard, lent_at, lent_at_shr_laws, lent_out, in_block_says, Stays, stay_dropped, walk_of, Goes-dropped, after, pointer_in, pointer_out, proved, leaves}
use Rattle.core.specs.contracts.marker.PhantomData as marker
use Rattle.piper_cells.specs.Space.{leased, placed}
use Rattle.piper_cells.proofs.Fields.{PointerData, GhostData}
use Rattle.piper_cells.specs.contracts.lent_space.Lease as Lease
use Rattle.piper_cells.specs.contracts.lent_space.Placed as Placed
use Rattle.piper_cells.specs.contracts.lent_space.Placed.get.{ended, clauses}
use Rattle.piper_cells.specs.contracts.lent_space.Placed.get.Key.{name as #self}
use Rattle.piper_cells.proofs.lent_space.Placed.get.Statement.{statement}
use Rattle.piper_cells.proofs.lent_space.Placed.get.Code as code

pub get_spec : {M : Type 1} → statement M
get_spec 𝓤 𝓛 𝓜 𝓡 wired X L =
    let H = 𝓛.H in let 𝓣 = tables 𝓤 H 𝓜 𝓡 𝓡.env in let R : RattleType = param 0 X in let En = ended X in let c = clauses X 𝓛 𝓜.mem 𝓡.returns in
    let inst = layouts (a_type ∷ []) (X, tt) in let fn = inst_fn inst code.function in let Row : RattleType = Placed.the_row R in let KRow : RattleType = Lease.the_row in
    let self = RefOf (0 ∷ []) tt (plain (λ _. Row)) (λ _. tt) in let key = RefOf (0 ∷ []) tt (plain (λ _. KRow)) (λ _. tt) in let hs : Stays En.signature.params En.kept = (stay_dropped self yes, (stay_dropped key yes, tt)) in
    proved 𝓛 En hs c 𝓜 𝓡 (Goes-dropped 𝓛 2 self yes (λ κs x f. refl), (Goes-dropped 𝓛 2 key yes (λ κs x f. refl), tt)) (#self inst) fn (code.unfolded 𝓤 H 𝓜 𝓡 wired (X, tt))
    (λ κs. (shr_vals, (shr_vals, tt))) (λ κs. (shr_Tells (named 0) κs.0 Row, (shr_Tells (named 0) κs.0 KRow, tt))) (λ κs qs bounds a gh are.
    let b : ℕ = a.0.ref_ptr.0 in let o : ℕ = a.0.ref_ptr.1 in let h = a.0.now in let p : Ptr = h.at in let pb : ℕ = block_of p in let po : ℕ = count_of p in let x : X.Denot = h.value in let life : ℕ = h.life in
    let b' : ℕ = a.1.0.ref_ptr.0 in let o' : ℕ = a.1.0.ref_ptr.1 in let k = a.1.0.now in let κ = κs.0 in let q : Share = qs.0 in let laws = lent_at_shr_laws R (param_laws 0 X L).shr_laws p x in
    let y : (walk_of 𝓛 En hs c).Ghost = ((κs, qs, bounds, a, (vptr b o ∷ [], (vptr b' o' ∷ [], tt))), gh) in let Post : Val → SProp 𝓤 = (walk_of 𝓛 En hs c).post y in let Told : Type 0 = x ≡ x in
    qed 𝓛 (((‵ (flft κ q) ⊛ ‵ (flft κs.1.0 qs.1.0) ⊛ ‵ ftrue) ⊛ ‵ (owns (types_at En.signature.params κs) a y.0.4)) ∷ raw (fact 𝓤 (κs.1.0 ⊑ X.lives)) ∷ raw (fact 𝓤 (k.life ≡ life)) ∷ []) ∵
    move ! (2 ∷ []) $ heard ! _ (λ same. keep ! (0 ∷ []) $ split ! $ split ! $ move ! (2 ∷ []) $ fsplit3 ! $ fsplit ! $ drop ! $
    use1 𝓛 (‵ (hidden_shr PointerData κ (p, tt) b o) ⊛ ‵ (fhide (placed R p x life))) (lent_out 𝓛 (Placed.struct R) (Placed.the_codes R.Denot R.coded) (Placed.the_heap R) (Placed.the_lent R) κ h b o) $
    split ! $ unhide ! $ fsplit ! $ fsplit ! $ keep ! (0 ∷ 3 ∷ 4 ∷ 6 ∷ 7 ∷ []) $ hide ! $ move ! (2 ∷ []) $ fsplit ! $ drop ! $
    use1 𝓛 (‵ (hidden_shr GhostData κ (record {}, tt) b' o') ⊛ ‵ (fhide (leased k.life κ))) (lent_out 𝓛 Lease.struct (Lease.the_codes (marker.the_row RawPtr).coded) Lease.the_heap Lease.the_lent κ k b' o') $
    split ! $ drop ! $ unhide ! $ rewrite ! 0 (λ (l : ℕ). ‵ (leased l κ)) {x = life} {y = k.life} same refl $ move ! (2 ∷ []) $ unhide ! $ move ! (1 ∷ 0 ∷ []) $
    use2 𝓛 (‵ (lent_at R p x κ)) (moves_from 𝓛 (lent_at R p x) laws κ (life ∷ []) (life ∷ []) (meet_⊑_left (life ∷ []) κ)) $
    fsplit ! $ use1 𝓛 (raw (fact 𝓤 (InBlock p))) (in_block_says 𝓛 p) $ heard ! _ (λ inb. let is_p : p ≡ block_ptr pb po = at_block p inb in hide ! $ move ! (1 ∷ 2 ∷ []) $
    -- [the pointer that is seen; its token; the value that is seen; the other tokens]
    enter ! 𝓣.C 𝓣.Λ fn (vptr b o ∷ vptr b' o' ∷ []) Post $ alloc_all ! (λ l. pass_all ! refl ((tt, tt), ((tt, tt), tt)) $ let Ev = env fn.locals l in first ! $ blocks ! $
    pointer_in ! tt p pb po is_p b (o + 0) (λ r. sets_last ! (addr ! (through ! refl (fld ! refl (hop ! (look ! 0 refl) (stop !))))) refl (tt, tt) $ exec ! 𝓣.C 𝓣.Λ Ev (after 1 fn.body) (at_ret Ev Post) $
    pointer_out ! tt p pb po is_p b (o + 0) $ sets ! (of_opd ! (get ! refl)) refl (tt, tt) $
    move ! (1 ∷ []) $ feq_i ! (List Val) (vptr pb po ∷ []) (vptr pb po ∷ []) refl $ fjoin ! $ move ! (1 ∷ 2 ∷ []) $ join ! $
    use0 𝓛 (raw (fact 𝓤 Told)) (fact_i 𝓤 Told (emp 𝓤) refl) $ nothing ! $ nothing ! $ fjoin ! $ nothing ! $ fjoin ! $
    returns ! (look_at ! 0 refl) $ free_all ! refl $ keep ! (2 ∷ 0 ∷ 3 ∷ 1 ∷ []) $ by ! (leaves 𝓛 En hs c y (vptr pb po) (record { ref_ptr = (pb, po); now = x }) (tt, (tt, tt)) (tt, (tt, tt))))))))
