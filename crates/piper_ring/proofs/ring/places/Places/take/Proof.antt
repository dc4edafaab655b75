-- `take` hands the whole run over, and keeps none. Assumes `Logic`.
use Rattle.piper_ring.proofs.Kit.{◌≡◌, ℕ, ◌+◌, List, [], ◌∷◌, length, refl, named, Val, vptr, SProp, emp, full_share, Fml, ftrue, flft, ‵, raw, ◌⊛◌, ◌$◌, ◌∵◌, !, qed, by, move, keep, split, join, fsplit, fsplit3, fjoin, fjoin3, fpick, fpack, use0, rewrite, feq_i, drop as forget, no_more, and_then, returns, enter, alloc_all, pass_all, free_all, look_at, get, sets, env, agg, fact, fact_i, tables, RattleType, owns, types_at, plain, Is, shows, cell_at, mut_vals, mut_Tells, nothing, peeks, opens, closes, Stays, stay_ref, walk_of, Goes-ref, proved, leaves, byte, ghost_val, GhostData, ghost_told, ghost_made, Placed}
use Rattle.piper_ring.specs.contracts.ring.places.Places as Places
use Rattle.piper_ring.proofs.ring.places.Places.take as own

pub take_spec : {M : Type 1} → own.Statement.statement M
take_spec 𝓤 𝓛 𝓜 𝓡 wired =
    let H = 𝓛.H in let 𝓣 = tables 𝓤 H 𝓜 𝓡 𝓡.env in let En = Places.take.ended in let fn = own.Code.function in let c = Places.take.clauses 𝓛 𝓜.mem 𝓡.returns in
    let Row : RattleType = Places.the_row in let self = plain (λ _. Row) in
    let hs : Stays En.signature.params En.kept = (stay_ref (0 ∷ []) tt self, tt) in
    proved 𝓛 En hs c 𝓜 𝓡 (Goes-ref 𝓛 1 0 tt self, tt) Places.take.Key.name fn (own.Code.unfolded 𝓤 H 𝓜 𝓡 wired)
    (λ κs. (mut_vals, tt)) (λ κs. (mut_Tells (named 0) κs.0 Row, tt)) (λ κs qs bounds a gh are.
    let b : ℕ = a.0.ref_ptr.0 in let o : ℕ = a.0.ref_ptr.1 in let h = a.0.now in let κ = κs.0 in let xs : List ℕ = h.bytes in let B = byte h.at h.capacity in let us : List Val = ghost_val ∷ [] in
    let back : Row.Denot = record h { first = h.first + length xs; bytes = [] } in let Data : Fml = GhostData.own_val (record {}, tt) us in
    let y : (walk_of 𝓛 En hs c).Ghost = ((κs, qs, bounds, a, (vptr b o ∷ [], tt)), gh) in let Post : Val → SProp 𝓤 = (walk_of 𝓛 En hs c).post y in
    qed 𝓛 (((‵ (flft κ qs.0) ⊛ ‵ ftrue) ⊛ ‵ (owns (types_at En.signature.params κs) a y.0.4)) ∷ ‵ ftrue ∷ []) ∵
    split ! $ split ! $ move ! (2 ∷ []) $ fsplit ! $ fsplit3 ! $ keep ! (1 ∷ 2 ∷ 4 ∷ []) $
    enter ! 𝓣.C 𝓣.Λ fn (vptr b o ∷ []) Post $ alloc_all ! (λ l. pass_all ! refl ((tt, tt), tt) $ let Ev = env fn.locals l in
    opens ! tt Row b o (λ vs. move ! (1 ∷ []) $ fsplit ! $ peeks ! GhostData (Is GhostData) (shows 𝓛 GhostData) (record {}, tt) vs (λ is-so. let ev : vs ≡ us = ghost_told vs is-so in
    forget ! $ rewrite ! 1 (λ (ws : List Val). ‵ (cell_at full_share Row.mir ws b o)) ev refl $ fsplit ! $ fpick ! (λ fine. forget ! $
    sets ! (agg ! (no_more !)) refl (tt, tt) $ sets ! (agg ! (and_then ! (get ! refl) (no_more !))) refl (tt, (tt, tt)) $
    nothing ! $ fpack ! (Placed h.at h.capacity) (λ _. ftrue) fine $ fjoin ! $ use0 𝓛 (‵ Data) (ghost_made 𝓛) $ fjoin ! $
    nothing ! $ nothing ! $ fpack ! (Placed h.at h.capacity) (λ _. ftrue) fine $ fjoin ! $ use0 𝓛 (‵ Data) (ghost_made 𝓛) $ fjoin ! $ move ! (2 ∷ 0 ∷ 3 ∷ 4 ∷ 5 ∷ []) $ closes ! tt Row back us b o $ feq_i ! (List Val) (vptr b o ∷ []) (vptr b o ∷ []) refl $ fjoin3 ! $
    nothing ! $ move ! (1 ∷ 0 ∷ []) $ fjoin ! $ nothing ! $ move ! (2 ∷ 0 ∷ []) $ join ! $
    use0 𝓛 (raw (fact 𝓤 (back ≡ back))) (fact_i 𝓤 (back ≡ back) (emp 𝓤) refl) $ use0 𝓛 (raw (fact 𝓤 (h ≡ h))) (fact_i 𝓤 (h ≡ h) (emp 𝓤) refl) $ join ! $
    returns ! (look_at ! 0 refl) $ free_all ! refl $ keep ! (1 ∷ 2 ∷ 3 ∷ 0 ∷ []) $ by ! (leaves 𝓛 En hs c y ghost_val h (back, tt) (tt, tt)))))))
