-- `exchange` takes the content out from under the invariant, reads and writes it, and lays it back.
-- Assumes `Logic`.
use Rattle.piper_cells.proofs.SpaceKit.{◌≡◌, ℕ, ◌+◌, Bool, true, List, [], ◌∷◌, sym, refl, ap, ◌∙◌, subst, dcons, dnil, a_type, Val, vptr, inst_fn, full_share, quarter, three_quarters, SProp, ent, wand, emp, apply∗, Lft, Share, Fml, ftrue, fsep, flft, finv, numbers, latest, WpFn, ‵, raw, ◌⊛◌, some, given, later, at_ret, ◌$◌, ◌∵◌, !, qed, by, move, keep, drop, split, split3, join, fsplit, fsplit3, fjoin, fjoin3, fpick, fpack, pick, learn, use0, use1, use2, await, rewrite, feq_i, alloc_all, pass_all, free_all, look_at, get, through, sets, sets_last, env, tables, fact, fact_i, ◌⊑◌, yes, no, RattleType, owns, types_at, plain, unhide, Is, shows, part_of, part_at, cell_at, param, bounded, RefOf, El, lawful, Good, one, proved_at, leaves, latest_agrees, eighth, odd, counted, right, offset, known, content, Kept}
use types.Run.{stop, fld, load, addr, of_opd, first, blocks, exec, assigns, look_raw, store_raw, returns, enter}
use types.Tokens.{bor_open, obor_close}
use contract.Shared.{Lends-one}
use denote.Steps.{nothing, peeks, heard, opens, closes}
use denote.Triple.Walked.{Stays, stay_dropped, stay_ref, walk_of, Goes-dropped, Goes-ref}
use Rattle.core.proofs.atomic.Steps.{tail}
use Rattle.piper_cells.proofs.CellSteps as steps
use Rattle.piper_cells.specs.contracts.token_cell.TokenCell as place
use Rattle.piper_cells.specs.contracts.token_cell.Token as token
use Rattle.piper_cells.specs.contracts.token_cell.TokenCell.exchange.{ended, clauses}
use Rattle.piper_cells.specs.contracts.token_cell.TokenCell.exchange.Key.{name as #self}
use Rattle.piper_cells.proofs.token_cell.TokenCell.exchange.Statement.{statement}
use Rattle.piper_cells.proofs.token_cell.TokenCell.exchange.Code as code

pub exchange_spec : {M : Type 1} → statement M
unfolding part_of
exchange_spec 𝓤 𝓛 𝓜 𝓡 wired X L g d _ =
    let H = 𝓛.H in let 𝓣 = tables 𝓤 H 𝓜 𝓡 𝓡.env in let R : RattleType = param 0 X in let En = ended X g d in let c = clauses X g d 𝓛 𝓜.mem 𝓡.returns in let E : El = record { row = X; laws = L } in
    let inst = bounded (a_type ∷ []) (X, tt) (dcons d dnil) in let fn = inst_fn inst code.function in let closed = code.unfolded 𝓤 H 𝓜 𝓡 wired (X, tt) d in let Row : RattleType = place.the_row R g in let KRow : RattleType = token.the_row in
    let self = RefOf (0 ∷ []) tt (plain (λ _. Row)) (λ _. tt) in let right_ref = plain (λ _. KRow) in let item = plain (λ _. R) in
    let hs : Stays En.signature.params En.kept = (stay_dropped self yes, (stay_ref (1 ∷ []) tt right_ref, (stay_dropped item no, tt))) in
    proved_at 𝓛 En hs c 𝓜 𝓡 (Goes-dropped 𝓛 3 self yes (λ κs x f. refl), (Goes-ref 𝓛 3 1 tt right_ref, (Goes-dropped 𝓛 3 item no (λ κs x f. refl), tt))) (#self inst) fn closed (λ z are.
    let κs = z.0.0 in let qs = z.0.1 in let a = z.0.3 in let b : ℕ = a.0.ref_ptr.0 in let o : ℕ = a.0.ref_ptr.1 in let name : ℕ = a.0.now in let b' : ℕ = a.1.0.ref_ptr.0 in let o' : ℕ = a.1.0.ref_ptr.1 in let k = a.1.0.now in let x : X.Denot = a.1.1.0 in
    let κ : Lft = κs.0 in let q : Share = qs.0 in let full : X.Denot → Bool = g.is_full in let Asked : Type 0 = (k.name ≡ name) × (k.there ≡ true) in
    let got = one E z.0.4.1.1.0 ((lawful E 𝓛).typed x z.0.4.1.1.0 are.1.1.0) in let vy : Val = got.0 in let fy : Good E vy = got.2 in let e : ℕ = o + offset R in
    let At : List Val × (List Val × (List Val × Unit {0})) → (walk_of 𝓛 En hs c).Ghost = λ vss. ((κs, qs, z.0.2, a, vss), z.1) in
    let y : (walk_of 𝓛 En hs c).Ghost = At (vptr b o ∷ [], (vptr b' o' ∷ [], (vy ∷ [], tt))) in let Post : Val → SProp 𝓤 = (walk_of 𝓛 En hs c).post y in
    subst (λ (vss : List Val × (List Val × (List Val × Unit {0}))). ent 𝓤 ((walk_of 𝓛 En hs c).pre (At vss)) (WpFn 𝓤 H 𝓣.C 𝓣.Λ fn ((walk_of 𝓛 En hs c).args (At vss)) ((walk_of 𝓛 En hs c).post (At vss))))
    (λ i. (sym are.0.0 i, (sym are.1.0.0 i, (sym got.1 i, tt)))) (
    qed 𝓛 (((‵ (flft κ q) ⊛ ‵ (flft κs.1.0 qs.1.0) ⊛ ‵ (flft κs.1.1.0 qs.1.1.0) ⊛ ‵ ftrue) ⊛ ‵ (owns (types_at En.signature.params κs) a y.0.4)) ∷ raw (fact 𝓤 (κs.1.1.0 ⊑ X.lives)) ∷ raw (fact 𝓤 Asked) ∷ []) ∵
    move ! (2 ∷ 0 ∷ []) $ heard ! Asked (λ asked. split ! $ split3 ! $ move ! (2 ∷ []) $ split ! $ move ! (4 ∷ []) $ fsplit3 ! $ fsplit ! $ drop ! $ move ! (1 ∷ []) $ fsplit3 ! $ drop ! $ move ! (3 ∷ []) $ fsplit ! $ keep ! (4 ∷ 7 ∷ 2 ∷ 3 ∷ 8 ∷ 0 ∷ 5 ∷ []) $
    unhide ! $ fpick ! (λ t. fsplit ! $ let I : Fml = Kept R full name b o t in let C : Fml = content R full name b o in
    enter ! 𝓣.C 𝓣.Λ fn (vptr b o ∷ vptr b' o' ∷ vy ∷ []) Post $ alloc_all ! (λ l. pass_all ! refl ((tt, tt), ((tt, tt), (fy, tt))) $ let Ev = env fn.locals l in
    move ! (3 ∷ 4 ∷ 5 ∷ []) $ opens ! tt KRow b' o' (λ vs'. move ! (1 ∷ []) $ fsplit ! $ move ! (1 ∷ []) $
    rewrite ! 0 (λ (u : Bool × ℕ). ‵ (right u.0 u.1 k.filled)) (λ i. (asked.1 i, asked.0 i)) refl $ fpick ! (λ n. fsplit ! $ fpick ! (λ so. drop ! $
    -- [the right's number; the fields; the right's cell; its open borrow, in three entries; before; the invariant; a token; the new content; X's token]
    move ! (7 ∷ []) $ use1 𝓛 (‵ (finv I) ⊛ ‵ (finv I)) (𝓛.invs.inv_dup I) $ split ! $ use1 𝓛 (‵ (finv I) ⊛ ‵ (finv I)) (𝓛.invs.inv_dup I) $ split ! $
    move ! (9 ∷ 10 ∷ []) $ use2 𝓛 (later (some (λ (s : Share). ‵ (flft t.0 s) ⊛ raw (wand 𝓤 (𝓛.A.lft t.0 s) (H.⇛ (𝓛.A.lft κ q)))))) (Lends-one 𝓛 𝓜 𝓡 κ t.0 q) $ await ! tt $ pick ! (λ s. split ! $
    move ! (2 ∷ 5 ∷ []) $ use2 𝓛 (later (‵ (steps.Taken 𝓛 R full name b o t n))) (steps.takes_out 𝓛 R full name b o t n) $ await ! tt $ fsplit3 ! $
    move ! (0 ∷ 3 ∷ []) $ bor_open ! tt $ move ! (1 ∷ []) $ fpick ! (λ old. fsplit ! $ move ! (1 ∷ []) $ fsplit ! $ fpick ! (λ fit. drop ! $ move ! (4 ∷ 0 ∷ []) $
    use2 𝓛 (given (n ≡ old.0) (‵ (latest numbers eighth name n) ⊛ ‵ (latest numbers quarter name old.0))) (latest_agrees numbers 𝓛 eighth quarter name n old.0) $ learn ! (λ same. split ! $
    rewrite ! 1 (λ (u : ℕ). ‵ (latest numbers quarter name u)) (sym same) refl $ let next = steps.shows n (full x) in let m : ℕ = next.0 in
    move ! (4 ∷ 0 ∷ 1 ∷ []) $ fjoin3 ! $ move ! (4 ∷ 0 ∷ []) $ use2 𝓛 (later (‵ (steps.Out 𝓛 R full name b o t m))) (steps.shows_anew 𝓛 R full name b o t n m next.1) $ await ! tt $ fsplit3 ! $
    move ! (3 ∷ []) $ fpick ! (λ vs. fsplit ! $ move ! (1 ∷ []) $ peeks ! R (Is R) (shows 𝓛 R) old.1 vs (λ is_so.
    let was = one E vs ((lawful E 𝓛).typed old.1 vs is_so) in let vo : Val = was.0 in let fo : Good E vo = was.2 in
    rewrite ! 0 (λ (ws : List Val). ‵ (R.own_val old.1 ws)) was.1 refl $ rewrite ! 1 (λ (ws : List Val). ‵ (cell_at full_share R.mir ws b e)) was.1 refl $ move ! (1 ∷ []) $
    -- [the cell; what lay there; out; two parts of the number; the open borrow; the way back; the invariant; the fields; the right's cell; its open borrow; the new content; X's token]
    first ! $ blocks ! $ sets ! (addr ! (through ! refl (fld ! refl (stop !)))) refl (tt, tt) $ sets ! (of_opd ! (load ! (through ! refl (stop !)) (look_raw ! 0 refl))) refl fo $
    sets ! (of_opd ! (get ! refl)) refl fy $ assigns ! (of_opd ! (get ! refl)) (through ! refl (stop !)) (store_raw ! 0 refl fy) $ sets_last ! (of_opd ! (get ! refl)) refl fo $
    exec ! 𝓣.C 𝓣.Λ Ev (tail fn.body) (at_ret Ev Post) $ sets ! (of_opd ! (get ! refl)) refl fo $
    move ! (0 ∷ 13 ∷ []) $ fjoin ! $ fpack ! (List Val) (λ us. fsep (cell_at full_share R.mir us b e) (R.own_val x us)) (vy ∷ []) $
    move ! (4 ∷ []) $ nothing ! $ fpack ! (odd m ≡ full x) (λ _. ftrue) next.2 $ fjoin ! $ move ! (1 ∷ 0 ∷ []) $ fjoin ! $
    fpack ! (ℕ × X.Denot) (λ (w : ℕ × X.Denot). fsep (part_at R full_share w.1 b e) (known R full name w)) (m, x) $ move ! (4 ∷ 0 ∷ []) $ obor_close ! tt $
    move ! (0 ∷ 3 ∷ 4 ∷ []) $ fjoin3 ! $ move ! (4 ∷ 0 ∷ []) $ use2 𝓛 (later (‵ (latest numbers three_quarters name m))) (steps.lays_back 𝓛 R full name b o t m) $ await ! tt $
    nothing ! $ fpack ! (odd m ≡ full x) (λ _. ftrue) next.2 $ fjoin ! $ fpack ! ℕ (counted three_quarters name (full x)) m $
    rewrite ! 0 (λ (u : Bool × ℕ). ‵ (right u.0 u.1 (full x))) {x = (k.there, k.name)} {y = (true, name)} (λ i. (sym asked.1 i, sym asked.0 i)) refl $
    let k' : KRow.Denot = record k { filled = full x } in let Done : Type 0 = (full old.1 ≡ k.filled) × (k' ≡ k') in
    move ! (4 ∷ 0 ∷ []) $ fjoin ! $ move ! (4 ∷ 0 ∷ 5 ∷ 6 ∷ 7 ∷ []) $ closes ! tt KRow k' vs' b' o' $ feq_i ! (List Val) (vptr b' o' ∷ []) (vptr b' o' ∷ []) refl $ fjoin3 ! $
    nothing ! $ nothing ! $ fjoin ! $ move ! (1 ∷ 0 ∷ []) $ fjoin ! $ nothing ! $ fjoin ! $
    -- [what is left of the parameters; the right's token; the token; what lay there; the way back; X's token]
    move ! (2 ∷ 4 ∷ []) $ use2 𝓛 (later (‵ (flft κ q))) (apply∗ 𝓤 (𝓛.A.lft t.0 s) (H.⇛ (𝓛.A.lft κ q))) $ await ! tt $
    nothing ! $ move ! (5 ∷ 0 ∷ []) $ join ! $ move ! (3 ∷ 0 ∷ []) $ join ! $ move ! (1 ∷ 0 ∷ []) $ join ! $
    use0 𝓛 (raw (fact 𝓤 Done)) (fact_i 𝓤 Done (emp 𝓤) (sym fit ∙ (sym (ap odd same) ∙ so), refl)) $
    returns ! (look_at ! 0 refl) $ free_all ! refl $ keep ! (1 ∷ 2 ∷ 3 ∷ 0 ∷ []) $ by ! (leaves 𝓛 En hs c y vo old.1 (tt, (k', (tt, tt))) (tt, (tt, (tt, tt))))))))))))))))))
