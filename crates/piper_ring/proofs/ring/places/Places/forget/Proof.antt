-- `forget` gives the bytes up, and keeps their places. Assumes `Logic`.
use Rattle.piper_ring.proofs.Kit.{◌≡◌, ℕ, List, [], ◌∷◌, length, refl, Val, SProp, emp, ftrue, ‵, raw, ◌⊛◌, ◌$◌, ◌∵◌, !, qed, by, move, keep, split, fsplit, fjoin, use0, use1, drop as forget, no_more, and_then, returns, enter, alloc_all, pass_all, free_all, look_at, get, sets, env, agg, fact, fact_i, tables, yes, RattleType, owns, types_at, plain, nothing, alive, Stays, stay_dropped, walk_of, Goes-dropped, span, proved, leaves, unset, ghost_val, ghost_told, GhostData, ghost_made}
use Rattle.piper_ring.proofs.PlacesParts.{forgets}
use Rattle.piper_ring.specs.contracts.ring.places.Places as Places
use Rattle.piper_ring.specs.contracts.ring.places.Blank as Blank
use Rattle.piper_ring.proofs.ring.places.Places.forget as own

pub forget_spec : {M : Type 1} → own.Statement.statement M
forget_spec 𝓤 𝓛 𝓜 𝓡 wired =
    let H = 𝓛.H in let 𝓣 = tables 𝓤 H 𝓜 𝓡 𝓡.env in let En = Places.forget.ended in let fn = own.Code.function in let c = Places.forget.clauses 𝓛 𝓜.mem 𝓡.returns in
    let Row : RattleType = Places.the_row in let self = plain (λ _. Row) in let BRow : RattleType = Blank.the_row in
    let hs : Stays En.signature.params En.kept = (stay_dropped self yes, tt) in
    proved 𝓛 En hs c 𝓜 𝓡 (Goes-dropped 𝓛 0 self yes (λ κs x f. refl), tt) Places.forget.Key.name fn (own.Code.unfolded 𝓤 H 𝓜 𝓡 wired)
    (λ κs. ((λ x. ghost_val ∷ []), tt)) (λ κs. ((λ x vs is. ghost_told vs is.0), tt)) (λ κs qs bounds a gh are.
    let h = a.0 in let xs : List ℕ = h.bytes in let us : List Val = ghost_val ∷ [] in
    let new : BRow.Denot = record { mark = record {}; at = h.at; capacity = h.capacity; first = h.first; count = length xs } in
    let y : (walk_of 𝓛 En hs c).Ghost = ((κs, qs, bounds, a, (ghost_val ∷ [], tt)), gh) in let Post : Val → SProp 𝓤 = (walk_of 𝓛 En hs c).post y in
    qed 𝓛 ((raw (alive 𝓛 En.signature κs qs) ⊛ ‵ (owns (types_at En.signature.params κs) a y.0.4)) ∷ ‵ ftrue ∷ []) ∵
    split ! $ move ! (1 ∷ []) $ fsplit ! $ fsplit ! $ forget ! $ fsplit ! $ move ! (1 ∷ []) $
    use1 𝓛 (‵ (span (unset h.at h.capacity) h.first (length xs))) (forgets 𝓛 h.at h.capacity xs h.first) $ move ! (1 ∷ 0 ∷ []) $ fjoin ! $ use0 𝓛 (‵ (GhostData.own_val (record {}, tt) us)) (ghost_made 𝓛) $ fjoin ! $ keep ! (0 ∷ []) $
    enter ! 𝓣.C 𝓣.Λ fn (ghost_val ∷ []) Post $ alloc_all ! (λ l. pass_all ! refl ((tt, (tt, tt)), tt) $ let Ev = env fn.locals l in
    sets ! (agg ! (no_more !)) refl (tt, tt) $ sets ! (agg ! (and_then ! (get ! refl) (no_more !))) refl (tt, (tt, tt)) $
    use0 𝓛 (raw (fact 𝓤 (new ≡ new))) (fact_i 𝓤 (new ≡ new) (emp 𝓤) refl) $ nothing ! $ nothing ! $ fjoin ! $ nothing ! $
    returns ! (look_at ! 0 refl) $ free_all ! refl $ keep ! (0 ∷ 1 ∷ 3 ∷ 2 ∷ []) $ by ! (leaves 𝓛 En hs c y ghost_val new (tt, tt) (tt, tt))))
