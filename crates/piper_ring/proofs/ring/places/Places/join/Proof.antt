-- `join` glues two runs of places. Assumes `Logic`.
use Rattle.piper_ring.proofs.Kit.{◌≡◌, ℕ, ◌+◌, List, [], ◌∷◌, ◌++◌, length, refl, named, Val, vptr, vunit, SProp, emp, full_share, Fml, ftrue, flft, ‵, raw, ◌⊛◌, given, ◌$◌, ◌∵◌, !, qed, by, move, keep, split, join, fsplit, fsplit3, fjoin, fjoin3, fpick, fpack, learn, use0, use2, rewrite, feq_i, drop as forget, unit_lit, of_opd, returns, enter, alloc_all, pass_all, free_all, look_at, sets, env, fact, fact_i, tables, yes, RattleType, owns, types_at, plain, Ptr, Is, shows, cell_at, mut_vals, mut_Tells, nothing, peeks, opens, closes, Stays, stay_ref, stay_dropped, walk_of, Goes-ref, Goes-dropped, run, proved, leaves, byte, run_join, ghost_val, GhostData, ghost_told, ghost_made, Placed}
use Rattle.piper_ring.specs.contracts.ring.places.Places as Own
use Rattle.piper_ring.proofs.ring.places.Places.join as own

pub join_spec : {M : Type 1} → own.Statement.statement M
join_spec 𝓤 𝓛 𝓜 𝓡 wired =
    let H = 𝓛.H in let 𝓣 = tables 𝓤 H 𝓜 𝓡 𝓡.env in let En = Own.join.ended in let fn = own.Code.function in let c = Own.join.clauses 𝓛 𝓜.mem 𝓡.returns in
    let Row : RattleType = Own.the_row in let self = plain (λ _. Row) in
    let hs : Stays En.signature.params En.kept = (stay_ref (0 ∷ []) tt self, (stay_dropped (plain (λ _. Row)) yes, tt)) in
    proved 𝓛 En hs c 𝓜 𝓡 (Goes-ref 𝓛 1 0 tt self, (Goes-dropped 𝓛 1 (plain (λ _. Row)) yes (λ κs x f. refl), tt)) Own.join.Key.name fn (own.Code.unfolded 𝓤 H 𝓜 𝓡 wired)
    (λ κs. (mut_vals, ((λ x. ghost_val ∷ []), tt))) (λ κs. (mut_Tells (named 0) κs.0 Row, ((λ x vs is. ghost_told vs is.0), tt))) (λ κs qs bounds a gh are.
    let b : ℕ = a.0.ref_ptr.0 in let o : ℕ = a.0.ref_ptr.1 in let h = a.0.now in let g = a.1.0 in let κ = κs.0 in let xs : List ℕ = h.bytes in let B = byte h.at h.capacity in let us : List Val = ghost_val ∷ [] in
    let all : Row.Denot = record h { bytes = xs ++ g.bytes } in let Data : Fml = GhostData.own_val (record {}, tt) us in
    let y : (walk_of 𝓛 En hs c).Ghost = ((κs, qs, bounds, a, (vptr b o ∷ [], (ghost_val ∷ [], tt))), gh) in let Post : Val → SProp 𝓤 = (walk_of 𝓛 En hs c).post y in
    qed 𝓛 (((‵ (flft κ qs.0) ⊛ ‵ ftrue) ⊛ ‵ (owns (types_at En.signature.params κs) a y.0.4)) ∷ given ((g.at ≡ h.at) × (g.capacity ≡ h.capacity) × (g.first ≡ h.first + length xs)) (‵ ftrue) ∷ []) ∵
    keep ! (1 ∷ 0 ∷ []) $ learn ! (λ asked. forget ! $ split ! $ split ! $ move ! (2 ∷ []) $ fsplit ! $ fsplit3 ! $ keep ! (3 ∷ 1 ∷ 2 ∷ 4 ∷ []) $ fsplit ! $ fsplit ! $ forget ! $ fsplit ! $ forget ! $
    rewrite ! 0 (λ (r : Ptr × ℕ). ‵ (run (byte r.0 r.1) g.first g.bytes)) {x = (h.at, h.capacity)} {y = (g.at, g.capacity)} (λ i. (asked.0 i, asked.1 i)) refl $ keep ! (2 ∷ 3 ∷ 4 ∷ 0 ∷ []) $
    enter ! 𝓣.C 𝓣.Λ fn (vptr b o ∷ ghost_val ∷ []) Post $ alloc_all ! (λ l. pass_all ! refl ((tt, tt), ((tt, (tt, tt)), tt)) $ let Ev = env fn.locals l in
    opens ! tt Row b o (λ vs. move ! (1 ∷ []) $ fsplit ! $ peeks ! GhostData (Is GhostData) (shows 𝓛 GhostData) (record {}, tt) vs (λ is-so. let ev : vs ≡ us = ghost_told vs is-so in
    forget ! $ rewrite ! 1 (λ (ws : List Val). ‵ (cell_at full_share Row.mir ws b o)) ev refl $ fsplit ! $ fpick ! (λ fine. forget ! $
    move ! (0 ∷ 5 ∷ []) $ use2 𝓛 (‵ (run B h.first (xs ++ g.bytes))) (run_join 𝓛 B xs g.bytes h.first g.first asked.2) $ nothing ! $ fpack ! (Placed h.at h.capacity) (λ _. ftrue) fine $ fjoin ! $ use0 𝓛 (‵ Data) (ghost_made 𝓛) $ fjoin ! $
    move ! (1 ∷ 0 ∷ []) $ closes ! tt Row all us b o $ feq_i ! (List Val) (vptr b o ∷ []) (vptr b o ∷ []) refl $ fjoin3 ! $ sets ! (of_opd ! (unit_lit !)) refl (tt, tt) $
    nothing ! $ nothing ! $ fjoin ! $ move ! (1 ∷ 0 ∷ []) $ fjoin ! $ nothing ! $ move ! (2 ∷ 0 ∷ []) $ join ! $
    use0 𝓛 (raw (fact 𝓤 (all ≡ all))) (fact_i 𝓤 (all ≡ all) (emp 𝓤) refl) $ feq_i ! (List Val) (vunit ∷ []) (vunit ∷ []) refl $
    returns ! (look_at ! 0 refl) $ free_all ! refl $ keep ! (2 ∷ 3 ∷ 0 ∷ 1 ∷ []) $ by ! (leaves 𝓛 En hs c y vunit tt (all, (tt, tt)) (tt, (tt, tt)))))))))
