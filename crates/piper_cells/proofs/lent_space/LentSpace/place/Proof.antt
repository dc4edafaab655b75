-- `place` writes into the borrowed room, and turns the borrow into what leases show. Assumes `Logic`.
use Rattle.piper_cells.proofs.SpaceKit.{◌≡◌, ℕ, List, [], ◌∷◌, sym, refl, ap, subst, a_type, inst_fn, Val, SProp, ent, emp, Lft, Share, ftrue, flft, froom, WpFn, ◌⊑◌, fact, fact_i, tables, ‵, raw, ◌⊛◌, later, await, at_ret, ◌$◌, ◌∵◌, !, qed, by, move, keep, drop, split, split3, join, group, fsplit, fsplit3, fjoin, fpick, rewrite, use0, use1, use2, stop, fld, init, of_opd, no_more, and_then, first, blocks, exec, assigns_last, returns, enter, alloc_all, pass_all, free_all, look_at, get, get_in, through, sets, is, env, agg, sub, whole, bor_open, yes, no, param, layout, layouts, RattleType, owns, Ptr, block_ptr, block_of, count_of, ptr_val, at_block, plain, types_at, nothing, heard, Stays, stay_dropped, walk_of, Goes-dropped, El, lawful, Good, one, after, proved_at, leaves, pair_val, pair_of, word-Good, lent_at, full_share, Tuple, Fits, half}
use borrow.Table.OneValue.{part_in}
use Rattle.piper_cells.proofs.Fields.{pointer_val, ghost_val, PointerData, GhostData, pointer_told, ghost_told, pointer_made, ghost_made}
use Rattle.piper_cells.proofs.SpaceSteps.{Back, There, room_out, lies_there}
use Rattle.piper_cells.specs.contracts.lent_space.LentSpace as LentSpace
use Rattle.piper_cells.specs.contracts.lent_space.Lease as Lease
use Rattle.piper_cells.specs.contracts.lent_space.Placed as Placed
use Rattle.piper_cells.specs.contracts.lent_space.LentSpace.place.{ended, clauses}
use Rattle.piper_cells.specs.contracts.lent_space.LentSpace.place.Key.{name as #self}
use Rattle.piper_cells.proofs.lent_space.LentSpace.place.Statement.{statement}
use Rattle.piper_cells.proofs.lent_space.LentSpace.place.Code as code

pub place_spec : {M : Type 1} → statement M
place_spec 𝓤 𝓛 𝓜 𝓡 wired X L =
    let H = 𝓛.H in let 𝓣 = tables 𝓤 H 𝓜 𝓡 𝓡.env in let R : RattleType = param 0 X in let En = ended X in let c = clauses X 𝓛 𝓜.mem 𝓡.returns in let E : El = record { row = X; laws = L } in
    let inst = layouts (a_type ∷ []) (X, tt) in let fn = inst_fn inst code.function in let closed = code.unfolded 𝓤 H 𝓜 𝓡 wired (X, tt) in let PRow : RattleType = Placed.the_row R in let KRow : RattleType = Lease.the_row in
    let self = plain (λ _. LentSpace.the_row) in let key = plain (λ _. KRow) in let item = plain (λ _. R) in
    let hs : Stays En.signature.params En.kept = (stay_dropped self yes, (stay_dropped key yes, (stay_dropped item no, tt))) in
    proved_at 𝓛 En hs c 𝓜 𝓡 (Goes-dropped 𝓛 1 self yes (λ κs x f. refl), (Goes-dropped 𝓛 1 key yes (λ κs x f. refl), (Goes-dropped 𝓛 1 item no (λ κs x f. refl), tt))) (#self inst) fn closed (λ z are.
    let κs = z.0.0 in let qs = z.0.1 in let a = z.0.3 in let p : Ptr = a.0.start in let n : ℕ = a.0.words in let life : ℕ = a.0.life in let k = a.1.0 in let x : X.Denot = a.1.1.0 in let s : Share = half k.first in
    let τ : Lft = κs.0 in let q : Share = qs.0 in let b : ℕ = block_of p in let o : ℕ = count_of p in let p' : Ptr = block_ptr b o in
    let got = one E z.0.4.1.1.0 ((lawful E 𝓛).typed x z.0.4.1.1.0 are.1.1.0) in let vy : Val = got.0 in let fy : Good E vy = got.2 in
    let At : List Val × (List Val × (List Val × Unit {0})) → (walk_of 𝓛 En hs c).Ghost = λ vss. ((κs, qs, z.0.2, a, vss), z.1) in
    let y : (walk_of 𝓛 En hs c).Ghost = At (pointer_val p ∷ [], (ghost_val ∷ [], (vy ∷ [], tt))) in let Post : Val → SProp 𝓤 = (walk_of 𝓛 En hs c).post y in
    subst (λ (vss : List Val × (List Val × (List Val × Unit {0}))). ent 𝓤 ((walk_of 𝓛 En hs c).pre (At vss)) (WpFn 𝓤 H 𝓣.C 𝓣.Λ fn ((walk_of 𝓛 En hs c).args (At vss)) ((walk_of 𝓛 En hs c).post (At vss))))
    (λ i. (sym (pointer_told p z.0.4.0 are.0.0) i, (sym (ghost_told z.0.4.1.0 are.1.0.0) i, (sym got.1 i, tt)))) (
    let new : PRow.Denot = record { at = p'; life = life; value = x } in let r : Val = pair_val (pointer_val p') ghost_val in
    qed 𝓛 (((‵ (flft τ q) ⊛ ‵ ftrue) ⊛ ‵ (owns (types_at En.signature.params κs) a y.0.4)) ∷ raw (fact 𝓤 (τ ⊑ X.lives)) ∷ raw (fact 𝓤 (k.life ≡ life)) ∷ raw (fact 𝓤 (Fits n R)) ∷ []) ∵
    move ! (1 ∷ []) $ heard ! _ (λ lives. move ! (1 ∷ []) $ heard ! _ (λ same. move ! (1 ∷ []) $ heard ! _ (λ fits. split ! $ split ! $ move ! (2 ∷ []) $ fsplit3 ! $
    fsplit ! $ drop ! $ fsplit ! $ fpick ! (λ inb. drop ! $ move ! (1 ∷ []) $ fsplit ! $ drop ! $ move ! (2 ∷ []) $ fsplit ! $ keep ! (3 ∷ 2 ∷ 0 ∷ 4 ∷ []) $ let is_p : p ≡ p' = at_block p inb in
    -- [the borrow; the lease's token; the value; T's token]
    rewrite ! 1 (λ (l : ℕ). ‵ (flft (l ∷ []) s)) {x = life} {y = k.life} same refl $
    enter ! 𝓣.C 𝓣.Λ fn (pointer_val p ∷ ghost_val ∷ vy ∷ []) Post $
    alloc_all ! (λ l. pass_all ! refl (word-Good [] p, ((tt, (tt, tt)), (fy, tt))) $ let Ev = env fn.locals l in
    bor_open ! tt $ move ! (1 ∷ []) $ use1 𝓛 (‵ (froom (layout X) b o) ⊛ raw (Back 𝓛 X L n b o)) (room_out 𝓛 X L n b o fits) $ split ! $
    sets ! (is ! (of_opd ! (get_in ! (fld ! refl (stop !)) (sub ! 0 refl (whole !)))) (ap ptr_val is_p)) refl (tt, tt) $ sets ! (of_opd ! (get ! refl)) refl (tt, tt) $
    first ! $ blocks ! $ sets ! (of_opd ! (get ! refl)) refl fy $ assigns_last ! (of_opd ! (get ! refl)) (through ! refl (stop !)) (init ! 0 refl fy) $
    exec ! 𝓣.C 𝓣.Λ Ev (after 3 fn.body) (at_ret Ev Post) $ sets ! (agg ! (and_then ! (get ! refl) (no_more !))) refl (tt, (tt, tt)) $ sets ! (of_opd ! (get ! refl)) refl (tt, (tt, tt)) $
    sets ! (agg ! (and_then ! (get ! refl) (and_then ! (get ! refl) (no_more !)))) refl (tt, ((tt, tt), ((tt, tt), tt))) $
    -- [the value's cell; the way back; the open borrow; the value; T's token]
    move ! (0 ∷ 3 ∷ []) $ use2 𝓛 (‵ (There 𝓛 X L n b o x)) (part_in 𝓛 R refl full_share x b o vy) $ move ! (2 ∷ 0 ∷ 1 ∷ 3 ∷ []) $ group ! 4 $
    use1 𝓛 (later (‵ (lent_at R p' x (life ∷ [])) ⊛ ‵ (flft (life ∷ []) s) ⊛ ‵ (flft τ q))) (lies_there 𝓛 X L n b o x life s τ q lives) $ await ! tt $ split3 ! $
    use0 𝓛 (‵ (PointerData.own_val (p', tt) (pointer_val p' ∷ []))) (pointer_made 𝓛 p') $ fjoin ! $ move ! (1 ∷ []) $
    rewrite ! 0 (λ (l : ℕ). ‵ (flft (l ∷ []) s)) {x = k.life} {y = life} (sym same) refl $ use0 𝓛 (‵ (GhostData.own_val (record {}, tt) (ghost_val ∷ []))) (ghost_made 𝓛) $ fjoin ! $
    move ! (1 ∷ 0 ∷ []) $ use2 𝓛 (‵ ((Tuple (PRow ∷ KRow ∷ [])).own_val (new, k) (r ∷ []))) (pair_of 𝓛 PRow KRow new k (pointer_val p') ghost_val) $ move ! (1 ∷ []) $ nothing ! $ move ! (1 ∷ 0 ∷ []) $ join ! $
    let Told : Type 0 = (life ≡ life) × (x ≡ x) in let Kept : Type 0 = k ≡ k in
    use0 𝓛 (raw (fact 𝓤 Kept)) (fact_i 𝓤 Kept (emp 𝓤) refl) $ use0 𝓛 (raw (fact 𝓤 Told)) (fact_i 𝓤 Told (emp 𝓤) (refl, refl)) $ join ! $
    nothing ! $ nothing ! $ fjoin ! $ nothing ! $ fjoin ! $ nothing ! $ fjoin ! $
    returns ! (look_at ! 0 refl) $ free_all ! refl $ keep ! (2 ∷ 0 ∷ 3 ∷ 1 ∷ []) $ by ! (leaves 𝓛 En hs c y r (new, k) (tt, (tt, (tt, tt))) (tt, (tt, (tt, tt)))))))))))
