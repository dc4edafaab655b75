-- `heard_by_writer` copies evidence of what the side heard. Assumes `Logic`.
use Rattle.piper_ring.proofs.Kit.{◌≡◌, ℕ, List, [], ◌∷◌, refl, sym, named, Val, vptr, SProp, emp, ftrue, flft, ‵, raw, ◌⊛◌, given, ◌$◌, ◌∵◌, !, qed, by, move, keep, drop, split, join, fsplit, fsplit3, fjoin, fjoin3, learn, use0, use1, rewrite, feq_i, no_more, and_then, returns, enter, alloc_all, pass_all, free_all, look_at, get, sets, env, agg, fact, fact_i, tables, RattleType, owns, types_at, plain, mut_vals, mut_Tells, opens, closes, Stays, stay_ref, Goes-ref, nothing, walk_of, proved, leaves, Names, Bool, evidence, ghost_val, GhostData, ghost_made, use2, false, Stored, pair_val, pair_of}
use Rattle.piper_ring.proofs.Evidence.{evidence_twice}
use Rattle.piper_ring.specs.contracts.ring.marks.ReadMark as Mark
use Rattle.piper_ring.specs.contracts.ring.marks.ClosedMark as Closed
use Rattle.piper_ring.specs.contracts.ring.slots.WaiterState as Slot
use Rattle.piper_ring.proofs.ring.slots.WaiterState.heard_by_writer as own

pub heard_by_writer_spec : {M : Type 1} → own.Statement.statement M
heard_by_writer_spec 𝓤 𝓛 𝓜 𝓡 wired =
    let H = 𝓛.H in let 𝓣 = tables 𝓤 H 𝓜 𝓡 𝓡.env in let En = Slot.heard_by_writer.ended in let fn = own.Code.function in let c = Slot.heard_by_writer.clauses 𝓛 𝓜.mem 𝓡.returns in
    let Row : RattleType = Slot.the_row in let self = plain (λ _. Row) in let hs : Stays En.signature.params En.kept = (stay_ref (0 ∷ []) tt self, tt) in
    proved 𝓛 En hs c 𝓜 𝓡 (Goes-ref 𝓛 1 0 tt self, tt) Slot.heard_by_writer.Key.name fn (own.Code.unfolded 𝓤 H 𝓜 𝓡 wired)
    (λ κs. (mut_vals, tt)) (λ κs. (mut_Tells (named 0) κs.0 Row, tt)) (λ κs qs bounds a gh are.
    let b : ℕ = a.0.ref_ptr.0 in let o : ℕ = a.0.ref_ptr.1 in let h = a.0.now in let z : Names = h.names in let x : Stored = h.heard in let v : Val = ghost_val in
    let y : (walk_of 𝓛 En hs c).Ghost = ((κs, qs, bounds, a, (vptr b o ∷ [], tt)), gh) in let Post : Val → SProp 𝓤 = (walk_of 𝓛 En hs c).post y in
    qed 𝓛 (((‵ (flft κs.0 qs.0) ⊛ ‵ ftrue) ⊛ ‵ (owns (types_at En.signature.params κs) a y.0.4)) ∷ given (h.for_reader ≡ false) (‵ ftrue) ∷ []) ∵
    keep ! (1 ∷ 0 ∷ []) $ learn ! (λ asked. drop ! $ split ! $ split ! $ move ! (2 ∷ []) $ fsplit ! $ fsplit3 ! $ keep ! (1 ∷ 2 ∷ 4 ∷ []) $
    enter ! 𝓣.C 𝓣.Λ fn (vptr b o ∷ []) Post $ alloc_all ! (λ l. pass_all ! refl ((tt, tt), tt) $ let Ev = env fn.locals l in
    opens ! tt Row b o (λ vs. move ! (1 ∷ []) $ fsplit ! $ move ! (1 ∷ []) $ fsplit ! $ move ! (1 ∷ []) $ rewrite ! 0 (λ (m : Bool). ‵ (evidence z m x)) {x = false} {y = h.for_reader} asked refl $
    use1 𝓛 (‵ (evidence z false x) ⊛ ‵ (evidence z false x)) (evidence_twice 𝓛 z false x) $ split ! $ rewrite ! 0 (λ (m : Bool). ‵ (evidence z m x)) {x = h.for_reader} {y = false} (sym asked) refl $
    -- [the evidence, twice; the own; the data; ..]
    move ! (2 ∷ 0 ∷ []) $ fjoin ! $ move ! (2 ∷ 0 ∷ []) $ fjoin ! $ move ! (2 ∷ 0 ∷ 3 ∷ 4 ∷ 5 ∷ []) $ closes ! tt Row h vs b o $ feq_i ! (List Val) (vptr b o ∷ []) (vptr b o ∷ []) refl $ fjoin3 ! $
    nothing ! $ move ! (1 ∷ 0 ∷ []) $ fjoin ! $ nothing ! $ move ! (2 ∷ 0 ∷ []) $ join ! $ move ! (2 ∷ []) $
    sets ! (agg ! (no_more !)) refl (tt, tt) $ sets ! (agg ! (and_then ! (get ! refl) (no_more !))) refl (tt, (tt, tt)) $ sets ! (agg ! (no_more !)) refl (tt, tt) $ sets ! (agg ! (and_then ! (get ! refl) (no_more !))) refl (tt, (tt, tt)) $
    sets ! (agg ! (and_then ! (get ! refl) (and_then ! (get ! refl) (no_more !)))) refl (tt, ((tt, tt), ((tt, tt), tt))) $
    let one : Mark.the_row.Denot = record { mark = record {}; names = z; count = x.count } in let two : Closed.the_row.Denot = record { mark = record {}; names = z; seen = x.closed } in
    fsplit ! $ use0 𝓛 (‵ (GhostData.own_val (record {}, tt) (v ∷ []))) (ghost_made 𝓛) $ fjoin ! $ move ! (1 ∷ []) $ use0 𝓛 (‵ (GhostData.own_val (record {}, tt) (v ∷ []))) (ghost_made 𝓛) $ fjoin ! $ move ! (1 ∷ 0 ∷ []) $
    use2 𝓛 (‵ ((denote.Struct.Tuple.Tuple (Mark.the_row ∷ Closed.the_row ∷ [])).own_val (one, two) (pair_val v v ∷ []))) (pair_of 𝓛 Mark.the_row Closed.the_row one two v v) $
    let Heard : Type 0 = (x.count ≡ x.count) × (x.closed ≡ x.closed) in let Named : Type 0 = (z ≡ z) × (z ≡ z) in use0 𝓛 (raw (fact 𝓤 Heard)) (fact_i 𝓤 Heard (emp 𝓤) (refl, refl)) $ use0 𝓛 (raw (fact 𝓤 Named)) (fact_i 𝓤 Named (emp 𝓤) (refl, refl)) $ join ! $ use0 𝓛 (raw (fact 𝓤 (h ≡ h))) (fact_i 𝓤 (h ≡ h) (emp 𝓤) refl) $ join ! $
    returns ! (look_at ! 0 refl) $ free_all ! refl $ keep ! (2 ∷ 3 ∷ 1 ∷ 0 ∷ []) $ by ! (leaves 𝓛 En hs c y (pair_val v v) (one, two) (h, tt) (tt, tt))))))
