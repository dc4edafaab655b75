-- `lend` borrows the room for a new lifetime, and cuts its token in two. Assumes `Logic`.
use Rattle.piper_cells.proofs.SpaceKit.{◌≡◌, ℕ, true, false, [], ◌∷◌, refl, Val, SProp, emp, full_share, ftrue, tables, fact, fact_i, ‵, raw, ◌⊛◌, ◌$◌, ◌∵◌, !, qed, by, move, keep, drop, split, join, group, fsplit, fjoin, fpick, fpack, use0, use1, stop, fld, of_opd, no_more, and_then, returns, enter, alloc_all, pass_all, free_all, look_at, get, get_in, sets, env, agg, sub, whole, lft_new, bor_new, yes, RattleType, owns, Ptr, InBlock, plain, types_at, nothing, alive, Stays, stay_dropped, walk_of, Goes-dropped, proved, leaves, word-Good, ptr-Good, lease, List, Valss, feq_i, of_list, vstruct, Denots, within}
use denote.Struct.Declared as Declared
use denote.Struct.Tuple.{tuple_type}
use Rattle.piper_cells.proofs.Fields.{pointer_val, ghost_val, PointerData, GhostData, pointer_told, pointer_made, ghost_made, owns_of, four_Good}
use Rattle.piper_cells.specs.contracts.lent_space.Space as Space
use Rattle.piper_cells.specs.contracts.lent_space.LentSpace as LentSpace
use Rattle.piper_cells.specs.contracts.lent_space.Lender as Lender
use Rattle.piper_cells.specs.contracts.lent_space.Lease as Lease
use Rattle.piper_cells.specs.contracts.lent_space.Space.lend.{ended, clauses}
use Rattle.piper_cells.specs.contracts.lent_space.Space.lend.Key.{name as #self}
use Rattle.piper_cells.proofs.lent_space.Space.lend.Statement.{statement}
use Rattle.piper_cells.proofs.lent_space.Space.lend.Code as code

pub lend_spec : {M : Type 1} → statement M
lend_spec 𝓤 𝓛 𝓜 𝓡 wired =
    let H = 𝓛.H in let 𝓣 = tables 𝓤 H 𝓜 𝓡 𝓡.env in let En = ended in let fn = code.function in let c = clauses 𝓛 𝓜.mem 𝓡.returns in
    let self = plain (λ _. Space.the_row) in let hs : Stays En.signature.params En.kept = (stay_dropped self yes, tt) in let SRow : RattleType = LentSpace.the_row in let BRow : RattleType = Lender.the_row in let KRow : RattleType = Lease.the_row in
    proved 𝓛 En hs c 𝓜 𝓡 (Goes-dropped 𝓛 0 self yes (λ κs x f. refl), tt) #self fn (code.unfolded 𝓤 H 𝓜 𝓡 wired)
    (λ κs. ((λ x. pointer_val x.start ∷ []), tt)) (λ κs. ((λ x vs is. pointer_told x.start vs is.0), tt)) (λ κs qs bounds a gh are.
    let p : Ptr = a.0.start in let n : ℕ = a.0.words in
    let y : (walk_of 𝓛 En hs c).Ghost = ((κs, qs, bounds, a, (pointer_val p ∷ [], tt)), gh) in let Post : Val → SProp 𝓤 = (walk_of 𝓛 En hs c).post y in let r : Val = vstruct (of_list (pointer_val p ∷ pointer_val p ∷ ghost_val ∷ ghost_val ∷ [])) in
    qed 𝓛 ((raw (alive 𝓛 En.signature κs qs) ⊛ ‵ (owns (types_at En.signature.params κs) a y.0.4)) ∷ raw ((c κs a).requires gh) ∷ []) ∵
    keep ! (0 ∷ []) $ split ! $ move ! (1 ∷ []) $ fsplit ! $ fsplit ! $ drop ! $ fsplit ! $ fpick ! (λ inb. keep ! (1 ∷ 3 ∷ []) $
    -- [the room; no tokens]
    enter ! 𝓣.C 𝓣.Λ fn (pointer_val p ∷ []) Post $
    alloc_all ! (λ l. pass_all ! refl (word-Good [] p, tt) $ let Ev = env fn.locals l in
    lft_new ! tt (λ α. let new : SRow.Denot = record { start = p; words = n; life = α } in let back : BRow.Denot = record { start = p; words = n; life = α } in
    let one : KRow.Denot = record { mark = record {}; life = α; first = true } in let two : KRow.Denot = record { mark = record {}; life = α; first = false } in
    use1 𝓛 (‵ (lease α true) ⊛ ‵ (lease α false)) (𝓛.lfts.lft_split (α ∷ []) full_share) $ split ! $ move ! (2 ∷ []) $ bor_new ! tt (α ∷ []) $
    -- [the borrow; what the lender keeps; the leases' tokens; no tokens]
    nothing ! $ fpack ! (InBlock p) (λ _. ftrue) inb $ fjoin ! $ use0 𝓛 (‵ (PointerData.own_val (p, tt) (pointer_val p ∷ []))) (pointer_made 𝓛 p) $ fjoin ! $ move ! (1 ∷ []) $
    nothing ! $ fpack ! (InBlock p) (λ _. ftrue) inb $ fjoin ! $ use0 𝓛 (‵ (PointerData.own_val (p, tt) (pointer_val p ∷ []))) (pointer_made 𝓛 p) $ fjoin ! $ move ! (2 ∷ []) $
    use0 𝓛 (‵ (GhostData.own_val (record {}, tt) (ghost_val ∷ []))) (ghost_made 𝓛) $ fjoin ! $ move ! (3 ∷ []) $
    use0 𝓛 (‵ (GhostData.own_val (record {}, tt) (ghost_val ∷ []))) (ghost_made 𝓛) $ fjoin ! $ move ! (3 ∷ 2 ∷ 1 ∷ 0 ∷ []) $ group ! 4 $
    let Rs : List RattleType = SRow ∷ BRow ∷ KRow ∷ KRow ∷ [] in let xs : Denots Rs = (new, (back, (one, (two, tt)))) in let vss : Valss Rs = (pointer_val p ∷ [], (pointer_val p ∷ [], (ghost_val ∷ [], (ghost_val ∷ [], tt)))) in
    use1 𝓛 (‵ (owns Rs xs vss)) (owns_of 𝓛 Rs xs vss) $ feq_i ! (List Val) (r ∷ []) (r ∷ []) refl $ fjoin ! $ fpack ! (Valss Rs) (within (Declared.shape (tuple_type Rs)) xs (r ∷ [])) vss $ move ! (1 ∷ []) $
    sets ! (of_opd ! (get_in ! (fld ! refl (stop !)) (sub ! 0 refl (whole !)))) refl (ptr-Good p) $
    sets ! (agg ! (and_then ! (get ! refl) (no_more !))) refl (word-Good [] p) $ sets ! (agg ! (and_then ! (get ! refl) (no_more !))) refl (word-Good [] p) $
    sets ! (agg ! (no_more !)) refl (tt, tt) $ sets ! (agg ! (and_then ! (get ! refl) (no_more !))) refl (tt, (tt, tt)) $
    sets ! (agg ! (no_more !)) refl (tt, tt) $ sets ! (agg ! (and_then ! (get ! refl) (no_more !))) refl (tt, (tt, tt)) $
    sets ! (agg ! (and_then ! (get ! refl) (and_then ! (get ! refl) (and_then ! (get ! refl) (and_then ! (get ! refl) (no_more !)))))) refl (four_Good p) $
    let Kept : Type 0 = (p ≡ p) × (n ≡ n) in let Lives : Type 0 = (α ≡ α) × (α ≡ α) × (α ≡ α) in let Leases : Type 0 = (true ≡ true) × (false ≡ false) in
    use0 𝓛 (raw (fact 𝓤 Leases)) (fact_i 𝓤 Leases (emp 𝓤) (refl, refl)) $ use0 𝓛 (raw (fact 𝓤 Lives)) (fact_i 𝓤 Lives (emp 𝓤) (refl, refl, refl)) $ join ! $
    use0 𝓛 (raw (fact 𝓤 Kept)) (fact_i 𝓤 Kept (emp 𝓤) (refl, refl)) $ join ! $ use0 𝓛 (raw (fact 𝓤 Kept)) (fact_i 𝓤 Kept (emp 𝓤) (refl, refl)) $ join ! $
    nothing ! $ nothing ! $ fjoin ! $
    returns ! (look_at ! 0 refl) $ free_all ! refl $ keep ! (2 ∷ 0 ∷ 3 ∷ 1 ∷ []) $ by ! (leaves 𝓛 En hs c y r (new, back, one, two) (tt, tt) (tt, tt))))))
