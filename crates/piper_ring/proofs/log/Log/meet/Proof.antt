-- `meet` adds what was taught. Assumes `Logic`.
use Rattle.piper_ring.proofs.Kit.{◌≡◌, ℕ, List, [], ◌∷◌, length, refl, named, Val, vptr, SProp, emp, ftrue, flft, ‵, raw, ◌⊛◌, ◌$◌, ◌∵◌, !, qed, by, move, keep, split, split3, join, fsplit3, fjoin, fjoin3, use0, feq_i, of_opd, returns, enter, alloc_all, pass_all, free_all, look_at, sets, env, mut_vals, mut_Tells, opens, closes, stay_ref, Goes-ref, vunit, unit_lit, fact, fact_i, tables, yes, RattleType, owns, types_at, plain, RefOf, shr_vals, shr_Tells, nothing, Stays, stay_dropped, walk_of, Goes-dropped, proved, leaves}
use Rattle.piper_ring.specs.Log.{has_met, taught}
use Rattle.piper_ring.specs.contracts.ring.marks.ReadMark as Read
use Rattle.piper_ring.specs.contracts.ring.marks.WriteMark as Write
use Rattle.piper_ring.specs.contracts.log.Log as Log
use Rattle.piper_ring.proofs.log.Log.meet as own

pub meet_spec : {M : Type 1} → own.Statement.statement M
meet_spec 𝓤 𝓛 𝓜 𝓡 wired =
    let H = 𝓛.H in let 𝓣 = tables 𝓤 H 𝓜 𝓡 𝓡.env in let En = Log.meet.ended in let fn = own.Code.function in let c = Log.meet.clauses 𝓛 𝓜.mem 𝓡.returns in
    let Row : RattleType = Log.the_row in let self = plain (λ _. Row) in let consumed = RefOf (1 ∷ []) tt (plain (λ _. Read.the_row)) (λ _. tt) in let published = RefOf (2 ∷ []) tt (plain (λ _. Write.the_row)) (λ _. tt) in
    let hs : Stays En.signature.params En.kept = (stay_ref (0 ∷ []) tt self, (stay_dropped consumed yes, (stay_dropped published yes, tt))) in
    proved 𝓛 En hs c 𝓜 𝓡 (Goes-ref 𝓛 3 0 tt self, (Goes-dropped 𝓛 3 consumed yes (λ κs x f. refl), (Goes-dropped 𝓛 3 published yes (λ κs x f. refl), tt))) Log.meet.Key.name fn (own.Code.unfolded 𝓤 H 𝓜 𝓡 wired)
    (λ κs. (mut_vals, (shr_vals, (shr_vals, tt)))) (λ κs. (mut_Tells (named 0) κs.0 Row, (shr_Tells (named 1) κs.1.0 Read.the_row, (shr_Tells (named 2) κs.1.1.0 Write.the_row, tt)))) (λ κs qs bounds a gh are.
    let b : ℕ = a.0.ref_ptr.0 in let o : ℕ = a.0.ref_ptr.1 in let h = a.0.now in let b' : ℕ = a.1.0.ref_ptr.0 in let o' : ℕ = a.1.0.ref_ptr.1 in let b2 : ℕ = a.1.1.0.ref_ptr.0 in let o2 : ℕ = a.1.1.0.ref_ptr.1 in
    let h' : Row.Denot = has_met (taught h.reads a.1.0.now.count (length a.1.1.0.now.bytes)) h in
    let y : (walk_of 𝓛 En hs c).Ghost = ((κs, qs, bounds, a, (vptr b o ∷ [], (vptr b' o' ∷ [], (vptr b2 o2 ∷ [], tt)))), gh) in let Post : Val → SProp 𝓤 = (walk_of 𝓛 En hs c).post y in
    qed 𝓛 (((‵ (flft κs.0 qs.0) ⊛ ‵ (flft κs.1.0 qs.1.0) ⊛ ‵ (flft κs.1.1.0 qs.1.1.0) ⊛ ‵ ftrue) ⊛ ‵ (owns (types_at En.signature.params κs) a y.0.4)) ∷ ‵ ftrue ∷ []) ∵
    keep ! (0 ∷ []) $ split ! $ split3 ! $ move ! (2 ∷ []) $ split ! $ move ! (4 ∷ []) $ fsplit3 ! $ fsplit3 ! $ keep ! (1 ∷ 2 ∷ 7 ∷ 8 ∷ 5 ∷ []) $
    enter ! 𝓣.C 𝓣.Λ fn (vptr b o ∷ vptr b' o' ∷ vptr b2 o2 ∷ []) Post $ alloc_all ! (λ l. pass_all ! refl ((tt, tt), ((tt, tt), ((tt, tt), tt))) $ let Ev = env fn.locals l in
    opens ! tt Row b o (λ vs. closes ! tt Row h' vs b o $ feq_i ! (List Val) (vptr b o ∷ []) (vptr b o ∷ []) refl $ fjoin3 ! $ sets ! (of_opd ! (unit_lit !)) refl (tt, tt) $
    nothing ! $ nothing ! $ nothing ! $ fjoin ! $ move ! (1 ∷ 0 ∷ []) $ fjoin ! $ move ! (1 ∷ 0 ∷ []) $ fjoin ! $
    move ! (3 ∷ []) $ nothing ! $ move ! (1 ∷ 0 ∷ []) $ join ! $ move ! (3 ∷ 0 ∷ []) $ join ! $ move ! (2 ∷ 0 ∷ []) $ join ! $
    use0 𝓛 (raw (fact 𝓤 (h' ≡ h'))) (fact_i 𝓤 (h' ≡ h') (emp 𝓤) refl) $ feq_i ! (List Val) (vunit ∷ []) (vunit ∷ []) refl $
    returns ! (look_at ! 0 refl) $ free_all ! refl $ keep ! (2 ∷ 3 ∷ 0 ∷ 1 ∷ []) $ by ! (leaves 𝓛 En hs c y vunit tt (h', (tt, (tt, tt))) (tt, (tt, (tt, tt)))))))
