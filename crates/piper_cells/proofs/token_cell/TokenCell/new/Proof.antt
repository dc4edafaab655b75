-- `new` cuts the number of a new place. Assumes `Logic`.
use Rattle.std.proofs.Common.{◌≡◌, ℕ, Bool, true, ◌&&◌, T, List, [], ◌∷◌, ◌++◌, sym, refl, subst}
use Rattle.piper_cells.proofs.SpaceKit.{dcons, dnil, a_type, Val, vstruct, vcons, vnil, of_list, has_ty, WT, inst_fn, full_share, quarter, three_quarters, numbers, latest, WpFn, ‵, raw, ◌⊛◌, some, later, ◌$◌, ◌∵◌, !, qed, by, move, keep, split, fsplit, fjoin, fpack, pick, use0, use1, await, suffices, rewrite, feq_i, of_opd, no_more, and_then, returns, enter, alloc_all, pass_all, free_all, look_at, get, sets, agg, fact, fact_i, tables, no, RattleType, Valss, owns, plain, nothing, param, layout, bounded, within, alive, Stays, stay_dropped, walk_of, Goes-dropped, and_tt, El, lawful, Good, one, proved_at, leaves, odd, counted, known}
use base.Share
use base.Logic.{SProp, ent, emp, via, id⊢}
use base.Fml.{ftrue, fsep, feq}
use types.Growing.{latest_new, latest_cut}
use types.Owned.{basic}
use denote.Laws.{Typed}
use Rattle.piper_cells.proofs.Fields.{ghost_val, GhostData, ghost_made}
use Rattle.piper_cells.proofs.CellSteps.{shows}
use Rattle.piper_cells.specs.contracts.token_cell.TokenCell as place
use Rattle.piper_cells.specs.contracts.token_cell.TokenCell.TheInside as inside
use Rattle.piper_cells.specs.contracts.token_cell.Token as token
use Rattle.piper_cells.specs.contracts.token_cell.TokenCell.new.{ended, clauses}
use Rattle.piper_cells.specs.contracts.token_cell.TokenCell.new.Key.{name as #self}
use Rattle.piper_cells.proofs.token_cell.TokenCell.new.Statement.{statement}
use Rattle.piper_cells.proofs.token_cell.TokenCell.new.Code as code

pub new_spec : {M : Type 1} → statement M
new_spec 𝓤 𝓛 𝓜 𝓡 wired X L g d _ =
    let H = 𝓛.H in let 𝓣 = tables 𝓤 H 𝓜 𝓡 𝓡.env in let R : RattleType = param 0 X in let En = ended X g d in let c = clauses X g d 𝓛 𝓜.mem 𝓡.returns in let E : El = record { row = X; laws = L } in
    let inst = bounded (a_type ∷ []) (X, tt) (dcons d dnil) in let fn = inst_fn inst code.function in let closed = code.unfolded 𝓤 H 𝓜 𝓡 wired (X, tt) d in let Row : RattleType = place.the_row R g in let KRow : RattleType = token.the_row in
    let item = plain (λ _. R) in let hs : Stays En.signature.params En.kept = (stay_dropped item no, tt) in let F : RattleType = inside.the_row R g in let D = denote.Struct.Declared.shape (inside.the_type R g) in
    let fine : (v : Val) → Good E v → T (has_ty (layout X) v && true) = λ v h. and_tt (has_ty (layout X) v) h.0 in
    proved_at 𝓛 En hs c 𝓜 𝓡 (Goes-dropped 𝓛 1 item no (λ κs x f. refl), tt) (#self inst) fn closed (λ z are.
    let x : X.Denot = z.0.3.0 in let full : X.Denot → Bool = g.is_full in let got = one E z.0.4.0 ((lawful E 𝓛).typed x z.0.4.0 are.0) in let vy : Val = got.0 in let fy : Good E vy = got.2 in let v : Val = vstruct (vcons vy vnil) in
    let Post : Val → SProp 𝓤 = (walk_of 𝓛 En hs c).post z in let Run : List Val → SProp 𝓤 = λ ws. WpFn 𝓤 H 𝓣.C 𝓣.Λ fn ws Post in let next = shows 0 (full x) in let m : ℕ = next.0 in
    let typed : T (has_ty (layout X) vy && true) × WT v = (fine vy fy, (fy.1, tt)) in let r : Val = vstruct (vcons v (vcons ghost_val vnil)) in
    qed 𝓛 ((raw (alive 𝓛 En.signature z.0.0 z.0.1) ⊛ ‵ (fsep (R.own_val z.0.3.0 z.0.4.0) ftrue)) ∷ raw ((c z.0.0 z.0.3).requires z.1) ∷ []) ∵ keep ! (0 ∷ []) $ split ! $ move ! (1 ∷ []) $ fsplit ! $
    rewrite ! 0 (λ (ws : List Val). ‵ (R.own_val x ws)) got.1 refl $
    suffices ! (Run (vy ∷ [])) (subst (λ (ws : List Val). ent 𝓤 (Run (vy ∷ [])) (Run ws)) (sym (λ i. got.1 i ++ [])) (id⊢ 𝓤 (Run (vy ∷ [])))) $
    enter ! 𝓣.C 𝓣.Λ fn (vy ∷ []) Post $ alloc_all ! (λ l. pass_all ! refl (fy, tt) $
    use0 𝓛 (later (some (λ (γ : ℕ). ‵ (latest numbers full_share γ m)))) (via 𝓤 _ (latest_new numbers 𝓛 m) (basic 𝓛 _)) $ await ! tt $ pick ! (λ γ.
    use1 𝓛 (‵ (latest numbers quarter γ m) ⊛ ‵ (latest numbers three_quarters γ m)) (latest_cut numbers 𝓛 full_share quarter three_quarters γ m Share.quarters) $ split ! $
    -- [the place's part of the number; the right's; the content; nothing; the tokens]
    sets ! (of_opd ! (get ! refl)) refl fy $ sets ! (agg ! (and_then ! (get ! refl) (no_more !))) refl typed $ sets ! (agg ! (no_more !)) refl (tt, tt) $
    sets ! (agg ! (and_then ! (get ! refl) (no_more !))) refl (tt, (tt, tt)) $ sets ! (agg ! (and_then ! (get ! refl) (and_then ! (get ! refl) (no_more !)))) refl (and_tt (has_ty (layout X) vy && true) (fine vy fy), ((fy.1, tt), ((tt, tt), tt))) $
    let token : KRow.Denot = record { mark = record {}; name = γ; there = true; filled = full x } in let Shown : Type 0 = (γ ≡ γ) × (true ≡ true) × (full x ≡ full x) in
    nothing ! $ fpack ! (odd m ≡ full x) (λ _. ftrue) next.2 $ fjoin ! $ move ! (2 ∷ []) $ nothing ! $ move ! (1 ∷ 0 ∷ []) $ fjoin ! $
    feq_i ! (List Val) (v ∷ []) (v ∷ []) refl $ fjoin ! $ fpack ! (Valss (R ∷ [])) (within D (x, tt) (v ∷ [])) (vy ∷ [], tt) $ move ! (0 ∷ 1 ∷ []) $ fjoin ! $
    fpack ! (ℕ × X.Denot) (λ s. fsep (F.own_val (record { content = s.1 }) (v ∷ [])) (known R full γ s)) (m, x) $ nothing ! $ fpack ! (Typed F.mir (v ∷ [])) (λ _. ftrue) (typed, tt) $ fjoin ! $
    -- [the place; the right's part of the number; nothing; the tokens]
    move ! (1 ∷ []) $ nothing ! $ fpack ! (odd m ≡ full x) (λ _. ftrue) next.2 $ fjoin ! $ fpack ! ℕ (counted three_quarters γ (full x)) m $
    use0 𝓛 (‵ (GhostData.own_val (record {}, tt) (ghost_val ∷ []))) (ghost_made 𝓛) $ fjoin ! $ nothing ! $ move ! (1 ∷ 0 ∷ []) $ fjoin ! $ move ! (1 ∷ 0 ∷ []) $ fjoin ! $
    feq_i ! (List Val) (r ∷ []) (r ∷ []) refl $ fjoin ! $
    fpack ! (Valss (Row ∷ KRow ∷ [])) (λ uss. fsep (feq (List Val) (r ∷ []) (vstruct (of_list (uss.0 ++ (uss.1.0 ++ []))) ∷ [])) (owns (Row ∷ KRow ∷ []) (γ, (token, tt)) uss)) (v ∷ [], (ghost_val ∷ [], tt)) $
    use0 𝓛 (raw (fact 𝓤 Shown)) (fact_i 𝓤 Shown (emp 𝓤) (refl, refl, refl)) $ nothing ! $ nothing ! $ fjoin ! $
    returns ! (look_at ! 0 refl) $ free_all ! refl $ keep ! (4 ∷ 0 ∷ 2 ∷ 1 ∷ []) $ by ! (leaves 𝓛 En hs c z r (γ, token) (tt, tt) (tt, tt)))))
