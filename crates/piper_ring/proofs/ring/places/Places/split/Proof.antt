-- `split` cuts the run of places in two. Assumes `Logic`.
use Rattle.piper_ring.proofs.Kit.{◌≡◌, ℕ, ◌+◌, ◌≤◌, List, [], ◌∷◌, length, take, refl, w64, named, Val, vint, vptr, SProp, emp, full_share, Fml, ftrue, flft, ‵, raw, ◌⊛◌, given, ◌$◌, ◌∵◌, !, qed, by, move, keep, split, join, fsplit, fsplit3, fjoin, fjoin3, fpick, fpack, learn, use0, use1, rewrite, feq_i, drop as forget, no_more, and_then, returns, enter, alloc_all, pass_all, free_all, look_at, get, sets, env, agg, fact, fact_i, tables, yes, RattleType, owns, types_at, plain, usize, Is, shows, cell_at, mut_vals, mut_Tells, uint_vals, uint_Tells, nothing, peeks, opens, closes, Stays, stay_ref, stay_dropped, walk_of, Goes-ref, Goes-dropped, run, proved, leaves, byte, ghost_val, GhostData, ghost_told, ghost_made, drop_list, Placed}
use Rattle.piper_ring.proofs.PlacesParts.{run_cut}
use Rattle.piper_ring.specs.contracts.ring.places.Places as Own
use Rattle.piper_ring.proofs.ring.places.Places.split as own

pub split_spec : {M : Type 1} → own.Statement.statement M
split_spec 𝓤 𝓛 𝓜 𝓡 wired =
    let H = 𝓛.H in let 𝓣 = tables 𝓤 H 𝓜 𝓡 𝓡.env in let En = Own.split.ended in let fn = own.Code.function in let c = Own.split.clauses 𝓛 𝓜.mem 𝓡.returns in
    let Row : RattleType = Own.the_row in let self = plain (λ _. Row) in
    let hs : Stays En.signature.params En.kept = (stay_ref (0 ∷ []) tt self, (stay_dropped (plain (λ _. usize)) yes, tt)) in
    proved 𝓛 En hs c 𝓜 𝓡 (Goes-ref 𝓛 1 0 tt self, (Goes-dropped 𝓛 1 (plain (λ _. usize)) yes (λ κs x f. refl), tt)) Own.split.Key.name fn (own.Code.unfolded 𝓤 H 𝓜 𝓡 wired)
    (λ κs. (mut_vals, (uint_vals w64, tt))) (λ κs. (mut_Tells (named 0) κs.0 Row, (uint_Tells w64, tt))) (λ κs qs bounds a gh are.
    let b : ℕ = a.0.ref_ptr.0 in let o : ℕ = a.0.ref_ptr.1 in let h = a.0.now in let n : ℕ = a.1.0 in let κ = κs.0 in let xs : List ℕ = h.bytes in let B = byte h.at h.capacity in let us : List Val = ghost_val ∷ [] in
    let front : Row.Denot = record h { bytes = take n xs } in let back : Row.Denot = record h { first = h.first + n; bytes = drop_list n xs } in let Data : Fml = GhostData.own_val (record {}, tt) us in
    let y : (walk_of 𝓛 En hs c).Ghost = ((κs, qs, bounds, a, (vptr b o ∷ [], (vint w64 n ∷ [], tt))), gh) in let Post : Val → SProp 𝓤 = (walk_of 𝓛 En hs c).post y in
    qed 𝓛 (((‵ (flft κ qs.0) ⊛ ‵ ftrue) ⊛ ‵ (owns (types_at En.signature.params κs) a y.0.4)) ∷ given (n ≤ length xs) (‵ ftrue) ∷ []) ∵
    keep ! (1 ∷ 0 ∷ []) $ learn ! (λ asked. forget ! $ split ! $ split ! $ move ! (2 ∷ []) $ fsplit ! $ fsplit3 ! $ keep ! (1 ∷ 2 ∷ 4 ∷ []) $
    enter ! 𝓣.C 𝓣.Λ fn (vptr b o ∷ vint w64 n ∷ []) Post $ alloc_all ! (λ l. pass_all ! refl ((tt, tt), ((tt, record { fits = are.1.0.1 }), tt)) $ let Ev = env fn.locals l in
    opens ! tt Row b o (λ vs. move ! (1 ∷ []) $ fsplit ! $ peeks ! GhostData (Is GhostData) (shows 𝓛 GhostData) (record {}, tt) vs (λ is-so. let ev : vs ≡ us = ghost_told vs is-so in
    forget ! $ rewrite ! 1 (λ (ws : List Val). ‵ (cell_at full_share Row.mir ws b o)) ev refl $ fsplit ! $ fpick ! (λ fine. forget ! $
    use1 𝓛 (‵ (run B h.first (take n xs)) ⊛ ‵ (run B (h.first + n) (drop_list n xs))) (run_cut 𝓛 B n h.first (h.first + n) xs asked refl) $ split ! $
    sets ! (agg ! (no_more !)) refl (tt, tt) $ sets ! (agg ! (and_then ! (get ! refl) (no_more !))) refl (tt, (tt, tt)) $
    nothing ! $ fpack ! (Placed h.at h.capacity) (λ _. ftrue) fine $ fjoin ! $ use0 𝓛 (‵ Data) (ghost_made 𝓛) $ fjoin ! $ move ! (1 ∷ []) $
    nothing ! $ fpack ! (Placed h.at h.capacity) (λ _. ftrue) fine $ fjoin ! $ use0 𝓛 (‵ Data) (ghost_made 𝓛) $ fjoin ! $ move ! (2 ∷ 0 ∷ 3 ∷ 4 ∷ 5 ∷ []) $ closes ! tt Row back us b o $ feq_i ! (List Val) (vptr b o ∷ []) (vptr b o ∷ []) refl $ fjoin3 ! $
    nothing ! $ nothing ! $ fjoin ! $ move ! (1 ∷ 0 ∷ []) $ fjoin ! $ nothing ! $ move ! (2 ∷ 0 ∷ []) $ join ! $
    use0 𝓛 (raw (fact 𝓤 (back ≡ back))) (fact_i 𝓤 (back ≡ back) (emp 𝓤) refl) $ use0 𝓛 (raw (fact 𝓤 (front ≡ front))) (fact_i 𝓤 (front ≡ front) (emp 𝓤) refl) $ join ! $
    returns ! (look_at ! 0 refl) $ free_all ! refl $ keep ! (1 ∷ 2 ∷ 3 ∷ 0 ∷ []) $ by ! (leaves 𝓛 En hs c y ghost_val front (back, (tt, tt)) (tt, (tt, tt)))))))))
