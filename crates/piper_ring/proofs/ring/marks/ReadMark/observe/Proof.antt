-- `observe` keeps the greater of two. Assumes `Logic`.
use Rattle.piper_ring.proofs.Kit.{◌≡◌, ℕ, List, [], ◌∷◌, max, refl, named, Val, vptr, SProp, emp, ftrue, flft, fhide, ‵, raw, ◌⊛◌, some, given, ◌$◌, ◌∵◌, !, qed, by, move, keep, drop, split, split3, join, fsplit, fsplit3, fjoin, fjoin3, pick, learn, use0, use1, use2, rewrite, feq_i, of_opd, returns, enter, alloc_all, pass_all, free_all, look_at, sets, env, mut_vals, mut_Tells, opens, closes, stay_ref, Goes-ref, vunit, unit_lit, fact, fact_i, tables, yes, RattleType, owns, types_at, plain, RefOf, shr_vals, shr_Tells, hidden_shr, unhide, nothing, lent_out, Stays, stay_dropped, walk_of, Goes-dropped, proved, leaves, Names, took, GhostData, ghost_coded}
use Rattle.piper_ring.proofs.Evidence.{greater}
use Rattle.piper_ring.specs.contracts.ring.marks.ReadMark as Mark
use Rattle.piper_ring.proofs.ring.marks.ReadMark.observe as own

pub observe_spec : {M : Type 1} → own.Statement.statement M
observe_spec 𝓤 𝓛 𝓜 𝓡 wired =
    let H = 𝓛.H in let 𝓣 = tables 𝓤 H 𝓜 𝓡 𝓡.env in let En = Mark.observe.ended in let fn = own.Code.function in let c = Mark.observe.clauses 𝓛 𝓜.mem 𝓡.returns in
    let Row : RattleType = Mark.the_row in let self = plain (λ _. Row) in let ref = RefOf (1 ∷ []) tt (plain (λ _. Row)) (λ _. tt) in
    let hs : Stays En.signature.params En.kept = (stay_ref (0 ∷ []) tt self, (stay_dropped ref yes, tt)) in
    proved 𝓛 En hs c 𝓜 𝓡 (Goes-ref 𝓛 2 0 tt self, (Goes-dropped 𝓛 2 ref yes (λ κs x f. refl), tt)) Mark.observe.Key.name fn (own.Code.unfolded 𝓤 H 𝓜 𝓡 wired)
    (λ κs. (mut_vals, (shr_vals, tt))) (λ κs. (mut_Tells (named 0) κs.0 Row, (shr_Tells (named 1) κs.1.0 Row, tt))) (λ κs qs bounds a gh are.
    let b : ℕ = a.0.ref_ptr.0 in let o : ℕ = a.0.ref_ptr.1 in let h = a.0.now in let b' : ℕ = a.1.0.ref_ptr.0 in let o' : ℕ = a.1.0.ref_ptr.1 in let g = a.1.0.now in let z : Names = h.names in
    let y : (walk_of 𝓛 En hs c).Ghost = ((κs, qs, bounds, a, (vptr b o ∷ [], (vptr b' o' ∷ [], tt))), gh) in let Post : Val → SProp 𝓤 = (walk_of 𝓛 En hs c).post y in
    qed 𝓛 (((‵ (flft κs.0 qs.0) ⊛ ‵ (flft κs.1.0 qs.1.0) ⊛ ‵ ftrue) ⊛ ‵ (owns (types_at En.signature.params κs) a y.0.4)) ∷ given (g.names ≡ z) (‵ ftrue) ∷ []) ∵
    keep ! (1 ∷ 0 ∷ []) $ learn ! (λ asked. drop ! $ split ! $ split3 ! $ move ! (3 ∷ []) $ fsplit3 ! $ fsplit3 ! $ move ! (3 ∷ []) $ fsplit ! $ drop ! $
    use1 𝓛 (‵ (hidden_shr GhostData κs.1.0 (record {}, tt) b' o') ⊛ ‵ (fhide (took g.names g.count))) (lent_out 𝓛 Mark.struct (Mark.the_codes ghost_coded) Mark.the_heap Mark.the_lent κs.1.0 g b' o') $
    split ! $ drop ! $ unhide ! $ rewrite ! 0 (λ (n : Names). ‵ (took n g.count)) asked refl $ keep ! (2 ∷ 3 ∷ 5 ∷ 0 ∷ 6 ∷ []) $
    enter ! 𝓣.C 𝓣.Λ fn (vptr b o ∷ vptr b' o' ∷ []) Post $ alloc_all ! (λ l. pass_all ! refl ((tt, tt), ((tt, tt), tt)) $ let Ev = env fn.locals l in
    opens ! tt Row b o (λ vs. move ! (1 ∷ []) $ fsplit ! $ move ! (1 ∷ 6 ∷ []) $
    use2 𝓛 (some (λ (l : ℕ). given (l ≡ max h.count g.count) (‵ (took z l)))) (greater 𝓛 z h.count g.count) $ pick ! (λ l. learn ! (λ most. let h' : Row.Denot = record h { count = l } in
    move ! (1 ∷ 0 ∷ []) $ fjoin ! $ move ! (1 ∷ 0 ∷ []) $ closes ! tt Row h' vs b o $ feq_i ! (List Val) (vptr b o ∷ []) (vptr b o ∷ []) refl $ fjoin3 ! $ sets ! (of_opd ! (unit_lit !)) refl (tt, tt) $
    nothing ! $ nothing ! $ fjoin ! $ move ! (1 ∷ 0 ∷ []) $ fjoin ! $ move ! (2 ∷ []) $ nothing ! $ move ! (1 ∷ 0 ∷ []) $ join ! $ move ! (2 ∷ 0 ∷ []) $ join ! $
    let Said : Type 0 = h' ≡ record h { count = max h.count g.count } in use0 𝓛 (raw (fact 𝓤 Said)) (fact_i 𝓤 Said (emp 𝓤) (λ j. record h { count = most j })) $ feq_i ! (List Val) (vunit ∷ []) (vunit ∷ []) refl $
    returns ! (look_at ! 0 refl) $ free_all ! refl $ keep ! (2 ∷ 3 ∷ 0 ∷ 1 ∷ []) $ by ! (leaves 𝓛 En hs c y vunit tt (h', (tt, tt)) (tt, (tt, tt)))))))))
