-- `meet_logs` is no step of the program. Assumes `Logic`.
use Rattle.piper_ring.proofs.Kit.{use3, ◌≡◌, ℕ, List, [], ◌∷◌, refl, named, Val, vptr, vunit, SProp, emp, Share, ftrue, flft, ‵, raw, ◌⊛◌, given, ◌$◌, ◌∵◌, !, qed, by, move, keep, drop, split, split3, join, fsplit, fsplit3, fjoin, fjoin3, fpick, fpack, learn, use0, feq_i, unit_lit, of_opd, returns, enter, alloc_all, pass_all, free_all, look_at, sets, env, fact, fact_i, tables, no, RattleType, owns, types_at, plain, named_lft, Ptr, mut_vals, mut_Tells, nothing, opens, closes, Stays, stay_dropped, stay_ref, walk_of, Goes-dropped, Goes-ref, guard_good, proved, leaves, later, await, Bool, Names, RingIsPlaced, lent_val, lent_told, accesses_in, not, accesses_of, AreSides, IsLogOf}
use Rattle.piper_ring.proofs.Steps.{Kept, logs_meet}
use Rattle.piper_ring.specs.contracts.log.Log as One
use Rattle.piper_ring.specs.contracts.ring.slots.SlotWords as SlotWords
use Rattle.piper_ring.proofs.ring.slots.SlotWords.meet_logs as own

pub meet_logs_spec : {M : Type 1} → own.Statement.statement M
unfolding accesses_of
meet_logs_spec 𝓤 𝓛 𝓜 𝓡 wired =
    let H = 𝓛.H in let 𝓣 = tables 𝓤 H 𝓜 𝓡 𝓡.env in let En = SlotWords.meet_logs.ended in let fn = own.Code.function in let c = SlotWords.meet_logs.clauses 𝓛 𝓜.mem 𝓡.returns in
    let self = plain (λ κs. SlotWords.the_row (named_lft 3 0 tt κs)) in let ORow : RattleType = One.the_row in let one_ref = plain (λ _. ORow) in let TRow : RattleType = One.the_row in let two_ref = plain (λ _. TRow) in
    let hs : Stays En.signature.params En.kept = (stay_dropped self no, (stay_ref (1 ∷ []) tt one_ref, (stay_ref (2 ∷ []) tt two_ref, tt))) in
    proved 𝓛 En hs c 𝓜 𝓡 (Goes-dropped 𝓛 3 self no (λ κs x f. refl), (Goes-ref 𝓛 3 1 tt one_ref, (Goes-ref 𝓛 3 2 tt two_ref, tt))) SlotWords.meet_logs.Key.name fn (own.Code.unfolded 𝓤 H 𝓜 𝓡 wired)
    (λ κs. ((λ x. lent_val x.words ∷ []), (mut_vals, (mut_vals, tt)))) (λ κs. ((λ x vs so. lent_told (named_lft 3 0 tt κs) x.words vs so.0), (mut_Tells (named 1) κs.1.0 ORow, (mut_Tells (named 2) κs.1.1.0 TRow, tt)))) (λ κs qs bounds a gh are.
    let h = a.0 in let w : Ptr = h.words in let p : Ptr = h.at in let z : Names = h.names in let κ = κs.0 in let q : Share = qs.0 in
    let b : ℕ = a.1.0.ref_ptr.0 in let o : ℕ = a.1.0.ref_ptr.1 in let k = a.1.0.now in let b2 : ℕ = a.1.1.0.ref_ptr.0 in let o2 : ℕ = a.1.1.0.ref_ptr.1 in let m = a.1.1.0.now in let r : Bool = k.reads in
    let y : (walk_of 𝓛 En hs c).Ghost = ((κs, qs, bounds, a, (lent_val w ∷ [], (vptr b o ∷ [], (vptr b2 o2 ∷ [], tt)))), gh) in let Post : Val → SProp 𝓤 = (walk_of 𝓛 En hs c).post y in
    qed 𝓛 (((‵ (flft κ q) ⊛ ‵ (flft κs.1.0 qs.1.0) ⊛ ‵ (flft κs.1.1.0 qs.1.1.0) ⊛ ‵ ftrue) ⊛ ‵ (owns (types_at En.signature.params κs) a y.0.4)) ∷ given (IsLogOf z r k × IsLogOf z (not r) m) (‵ ftrue) ∷ []) ∵
    keep ! (1 ∷ 0 ∷ []) $ learn ! (λ asked. drop ! $ split ! $ split3 ! $ move ! (2 ∷ []) $ split ! $ move ! (4 ∷ []) $ fsplit3 ! $ fsplit ! $ drop ! $ fsplit3 ! $ fsplit ! $ fpick ! (λ at. drop ! $ nothing ! $ fpack ! (RingIsPlaced w p z) (λ _. ftrue) at $ fjoin ! $ move ! (1 ∷ []) $ fpick ! (λ who.
    move ! (3 ∷ []) $ fsplit3 ! $ move ! (6 ∷ []) $ fsplit ! $ fsplit3 ! $ keep ! (5 ∷ 6 ∷ 13 ∷ 1 ∷ 2 ∷ 10 ∷ 7 ∷ 8 ∷ 12 ∷ []) $
    enter ! 𝓣.C 𝓣.Λ fn (lent_val w ∷ vptr b o ∷ vptr b2 o2 ∷ []) Post $ alloc_all ! (λ l. pass_all ! refl (guard_good [] [] w, ((tt, tt), ((tt, tt), tt))) $ let Ev = env fn.locals l in
    opens ! tt ORow b o (λ vs. move ! (5 ∷ 6 ∷ 7 ∷ []) $ opens ! tt TRow b2 o2 (λ vs2. move ! (1 ∷ []) $ fsplit ! $ move ! (7 ∷ []) $ fsplit ! $
    -- [the own list; what it has; the other's list; what it has; its cell, 4 parts; the own cell, 4 parts; what the end knows; what both share; a token]
    move ! (13 ∷ 1 ∷ 3 ∷ []) $ use3 𝓛 (later (given (AreSides r (accesses_in k.lines) (accesses_in m.lines)) (‵ (Kept 𝓛 w p z k (accesses_in k.lines)) ⊛ ‵ (Kept 𝓛 w p z m (accesses_in m.lines))))) (logs_meet 𝓛 w p z r k m asked.0 asked.1) $ await ! tt $ learn ! (λ list. split ! $
    move ! (3 ∷ 1 ∷ []) $ fjoin ! $ move ! (3 ∷ 0 ∷ 4 ∷ 5 ∷ 6 ∷ []) $ closes ! tt TRow m vs2 b2 o2 $ feq_i ! (List Val) (vptr b2 o2 ∷ []) (vptr b2 o2 ∷ []) refl $ fjoin3 ! $
    move ! (3 ∷ 2 ∷ []) $ fjoin ! $ move ! (3 ∷ 0 ∷ 4 ∷ 5 ∷ 6 ∷ []) $ closes ! tt ORow k vs b o $ feq_i ! (List Val) (vptr b o ∷ []) (vptr b o ∷ []) refl $ fjoin3 ! $
    sets ! (of_opd ! (unit_lit !)) refl (tt, tt) $
    nothing ! $ move ! (3 ∷ 0 ∷ []) $ fjoin ! $ move ! (1 ∷ 0 ∷ []) $ fjoin ! $ nothing ! $ fjoin ! $ nothing ! $ move ! (3 ∷ 0 ∷ []) $ join ! $ move ! (2 ∷ 0 ∷ []) $ join ! $ move ! (3 ∷ 0 ∷ []) $ join ! $
    use0 𝓛 (raw (fact 𝓤 ((k ≡ k) × (m ≡ m)))) (fact_i 𝓤 ((k ≡ k) × (m ≡ m)) (emp 𝓤) (refl, refl)) $ use0 𝓛 (raw (fact 𝓤 (AreSides r (accesses_in k.lines) (accesses_in m.lines)))) (fact_i 𝓤 (AreSides r (accesses_in k.lines) (accesses_in m.lines)) (emp 𝓤) list) $ join ! $
    feq_i ! (List Val) (vunit ∷ []) (vunit ∷ []) refl $ returns ! (look_at ! 0 refl) $ free_all ! refl $ keep ! (2 ∷ 3 ∷ 0 ∷ 1 ∷ []) $ by ! (leaves 𝓛 En hs c y vunit tt (tt, (k, (m, tt))) (tt, (tt, (tt, tt))))))))))))
