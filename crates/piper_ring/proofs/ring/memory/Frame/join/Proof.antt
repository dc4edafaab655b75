-- `join` makes the block one again. Assumes `Logic`.
use Rattle.piper_ring.proofs.Kit.{◌≡◌, ℕ, ◌<◌, ◌^◌, [], ◌∷◌, refl, ap, Val, SProp, emp, ftrue, ‵, raw, ◌⊛◌, given, ◌$◌, ◌∵◌, !, qed, by, move, keep, drop, split, fsplit, fsplit3, fjoin, fpick, fpack, learn, use0, use2, rewrite, apply∗, sem, stop, fld, of_opd, no_more, and_then, returns, enter, alloc_all, pass_all, free_all, look_at, get, get_in, sets, is, env, agg, sub, whole, fact, fact_i, tables, yes, RattleType, owns, types_at, plain, Ptr, block_ptr, ptr_val, block_of, count_of, at_block, nothing, alive, Stays, stay_dropped, walk_of, Goes-dropped, word-Good, proved, leaves, pointer_val, pointer_told, PointerData, pointer_made, size_of_block, space_of, space_room}
use Rattle.piper_cells.specs.Space.{space}
use Rattle.piper_cells.specs.contracts.lent_space.Space as Space
use Rattle.piper_ring.specs.Parts.{block_at, token_of}
use Rattle.piper_ring.specs.contracts.ring.memory.Frame as Frame
use Rattle.piper_ring.specs.contracts.ring.memory.Memory as Memory
use Rattle.piper_ring.proofs.ring.memory.Frame.join as own

pub join_spec : {M : Type 1} → own.Statement.statement M
join_spec 𝓤 𝓛 𝓜 𝓡 wired =
    let H = 𝓛.H in let 𝓣 = tables 𝓤 H 𝓜 𝓡 𝓡.env in let En = Frame.join.ended in let fn = own.Code.function in let c = Frame.join.clauses 𝓛 𝓜.mem 𝓡.returns in
    let self = plain (λ _. Frame.the_row) in let gap = plain (λ _. Space.the_row) in let Row : RattleType = Memory.the_row in let hs : Stays En.signature.params En.kept = (stay_dropped self yes, (stay_dropped gap yes, tt)) in
    proved 𝓛 En hs c 𝓜 𝓡 (Goes-dropped 𝓛 0 self yes (λ κs x f. refl), (Goes-dropped 𝓛 0 gap yes (λ κs x f. refl), tt)) Frame.join.Key.name fn (own.Code.unfolded 𝓤 H 𝓜 𝓡 wired)
    (λ κs. ((λ x. pointer_val x.start ∷ []), ((λ x. pointer_val x.start ∷ []), tt))) (λ κs. ((λ x vs is. pointer_told x.start vs is.0), ((λ x vs is. pointer_told x.start vs is.0), tt))) (λ κs qs bounds a gh are.
    let w : Ptr = a.0.start in let cap : ℕ = a.0.capacity in let g : Space.the_row.Denot = a.1.0 in let size : ℕ = size_of_block cap in let w' : Ptr = block_ptr (block_of w) (count_of w) in
    let y : (walk_of 𝓛 En hs c).Ghost = ((κs, qs, bounds, a, (pointer_val w ∷ [], (pointer_val g.start ∷ [], tt))), gh) in let Post : Val → SProp 𝓤 = (walk_of 𝓛 En hs c).post y in
    let one : Row.Denot = record { start = w'; size = size } in let u : Val = pointer_val w' in let Told : Type 0 = (size ≡ size) × (size < 2 ^ 63) in
    qed 𝓛 ((raw (alive 𝓛 En.signature κs qs) ⊛ ‵ (owns (types_at En.signature.params κs) a y.0.4)) ∷ given ((g.start ≡ space_of w) × (g.words ≡ 12)) (‵ ftrue) ∷ []) ∵
    keep ! (1 ∷ 0 ∷ []) $ learn ! (λ asked. drop ! $ split ! $ move ! (1 ∷ []) $ fsplit3 ! $ fsplit ! $ drop ! $ fsplit3 ! $ fpick ! (λ at. drop ! $ let is_w : w ≡ w' = at_block w at.0 in
    move ! (2 ∷ []) $ fsplit ! $ drop ! $ rewrite ! 0 (λ (r : Ptr × ℕ). ‵ (space r.1 r.0)) {x = (space_of w, 12)} {y = (g.start, g.words)} (λ i. (asked.0 i, asked.1 i)) refl $ fsplit ! $ drop ! $
    -- [the space; what makes the block of it; the right to free it]
    keep ! (0 ∷ 1 ∷ 2 ∷ 4 ∷ []) $ use2 𝓛 (‵ (block_at cap w)) (apply∗ 𝓤 (sem 𝓛 (space_room w)) (sem 𝓛 (block_at cap w))) $ move ! (1 ∷ []) $ rewrite ! 0 (λ (q : Ptr). ‵ (token_of cap q)) is_w refl $ move ! (1 ∷ 0 ∷ []) $ fjoin ! $
    nothing ! $ fpack ! (size < 2 ^ 63) (λ _. ftrue) at.1 $ fjoin ! $ use0 𝓛 (‵ (PointerData.own_val (w', tt) (u ∷ []))) (pointer_made 𝓛 w') $ fjoin ! $
    enter ! 𝓣.C 𝓣.Λ fn (pointer_val w ∷ pointer_val g.start ∷ []) Post $ alloc_all ! (λ l. pass_all ! refl (word-Good [] w, (word-Good [] g.start, tt)) $ let Ev = env fn.locals l in
    sets ! (is ! (of_opd ! (get_in ! (fld ! refl (stop !)) (sub ! 0 refl (whole !)))) (ap ptr_val is_w)) refl (tt, tt) $ sets ! (of_opd ! (get ! refl)) refl (tt, tt) $
    sets ! (agg ! (and_then ! (get ! refl) (no_more !))) refl (tt, (tt, tt)) $
    use0 𝓛 (raw (fact 𝓤 Told)) (fact_i 𝓤 Told (emp 𝓤) (refl, at.1)) $ nothing ! $ nothing ! $ fjoin ! $ nothing ! $ fjoin ! $
    returns ! (look_at ! 0 refl) $ free_all ! refl $ keep ! (3 ∷ 0 ∷ 2 ∷ 1 ∷ []) $ by ! (leaves 𝓛 En hs c y u one (tt, (tt, tt)) (tt, (tt, tt)))))))
