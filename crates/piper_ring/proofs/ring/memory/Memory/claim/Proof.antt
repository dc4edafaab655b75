-- `claim` asks the heap, and keeps what it hands over. Assumes `Logic`.
use Rattle.piper_ring.proofs.Kit.{flt_i, feq_i, List, fsplit, ◌≡◌, ℕ, ◌<◌, ◌^◌, [], ◌∷◌, refl, lit<, w64, Ty, named, Val, vint, vptr, vstruct, vnil, of_list, WT, SProp, emp, Share, ftrue, flft, ‵, raw, ◌⊛◌, some, given, later, await, pick, at_ret, ◌$◌, ◌∵◌, !, qed, by, move, keep, drop, split, split3, join, fjoin, fpack, learn, use0, use1, use2, stop, fld, lit, of_opd, no_more, and_then, first, exec, returns, enter, alloc_all, pass_all, free_all, look_at, get, get_in, sets, sets_last, env, agg, whole, fact, fact_i, tables, RefOf, usize, yes, Is, RattleType, owns, Ptr, block_ptr, uint_vals, uint_Tells, shr_vals, shr_Tells, types_at, plain, nothing, Struct, Stays, stay_dropped, walk_of, Goes-dropped, after as from_on, block_if_ok, fm, proved, leaves, heap_token, pointer_val, PointerData, pointer_made, Answer, IsClaim, purpose}
use Rattle.std.proofs.Common.{IfOk, IfErr, Ok, Err}
use mir.Syntax.{Body}
use prog.Wp.{Wp, after_seq, at_return}
use types.Kit.{Post as Next, any_q}
use types.Match.{live, vrt, in_variant}
use types.Run.{switches_on}
use types.ByLocal.{get_tag, lands_as}
use denote.Steps.{owned}
use denote.Struct.Declared as Declared
use denote.Struct.Struct.{Struct-Makes}
use denote.Triple.Call.{calls_at}
use Rattle.core.proofs.slots.Bodies.{head, arm_body}
use Rattle.core.specs.contracts.result.Result as Either
use Rattle.std_heap.specs.contracts.Global as Heap
use Rattle.std_heap.proofs.GlobalAllocator.allocate.Met as allocates
use Rattle.rtrb.proofs.Values.{ok_of, err_of}
use Rattle.piper_protocol.specs.Reported.{HasFailed, as_failed}
use Rattle.piper_protocol.specs.contracts.memory.OutOfMemory as Want
use Rattle.piper_ring.proofs.Heap.{Asks, asking, may_ask, was_answered, answered}
use Rattle.piper_ring.specs.contracts.ring.memory.Memory as Memory
use Rattle.piper_ring.proofs.ring.memory.Memory.claim as own

pub claim_spec : {M : Type 1} → own.Statement.statement M
claim_spec 𝓤 𝓛 𝓜 𝓡 wired =
    let H = 𝓛.H in let 𝓣 = tables 𝓤 H 𝓜 𝓡 𝓡.env in let En = Memory.claim.ended in let fn = own.Code.function in let c = Memory.claim.clauses 𝓛 𝓜.mem 𝓡.returns in
    let heap = RefOf (0 ∷ []) tt (plain (λ _. Heap.the_row)) (λ _. tt) in let number = plain (λ _. usize) in let Result : RattleType = Either.the_row Memory.the_row Want.the_row in
    let hs : Stays En.signature.params En.kept = (stay_dropped heap yes, (stay_dropped number yes, tt)) in
    proved 𝓛 En hs c 𝓜 𝓡 (Goes-dropped 𝓛 1 heap yes (λ κs x f. refl), (Goes-dropped 𝓛 1 number yes (λ κs x f. refl), tt)) Memory.claim.Key.name fn (own.Code.unfolded 𝓤 H 𝓜 𝓡 wired)
    (λ κs. (shr_vals, (uint_vals w64, tt))) (λ κs. (shr_Tells (named 0) κs.0 Heap.the_row, (uint_Tells w64, tt))) (λ κs qs bounds a gh are.
    let h = a.0 in let hp : ℕ × ℕ = h.ref_ptr in let n : ℕ = a.1.0 in let w : ℕ = 8 in let κ = κs.0 in let q : Share = qs.0 in let τ : Ty = purpose n in
    let y : (walk_of 𝓛 En hs c).Ghost = ((κs, qs, bounds, a, (vptr hp.0 hp.1 ∷ [], (vint w64 n ∷ [], tt))), gh) in let Post : Val → SProp 𝓤 = (walk_of 𝓛 En hs c).post y in
    let As : Result.Denot → Type 0 = λ r. IfOk r (λ m. m.size ≡ n) in let Refused : Result.Denot → Type 0 = λ r. IfErr r HasFailed in let t : (Asks 𝓛 𝓜 𝓡).Ghost = asking 𝓛 𝓜 𝓡 κ q h n w τ in
    qed 𝓛 (((‵ (flft κ q) ⊛ ‵ ftrue) ⊛ ‵ (owns (types_at En.signature.params κs) a y.0.4)) ∷ given (IsClaim n) (‵ ftrue) ∷ []) ∵
    keep ! (1 ∷ 0 ∷ []) $ learn ! (λ asked. drop ! $ split ! $ split ! $ move ! (2 ∷ []) $ fsplit ! $ move ! (1 ∷ []) $ fsplit ! $ flt_i ! w (2 ^ 64) (lit< tt) $ feq_i ! (List Val) (vint w64 w ∷ []) (vint w64 w ∷ []) refl $ fjoin ! $ nothing ! $ move ! (1 ∷ 0 ∷ []) $ fjoin ! $ move ! (1 ∷ 0 ∷ []) $ fjoin ! $ move ! (2 ∷ 0 ∷ []) $ fjoin ! $ keep ! (0 ∷ 2 ∷ []) $ use2 𝓛 (raw ((Asks 𝓛 𝓜 𝓡).pre t)) (may_ask 𝓛 𝓜 𝓡 κ q h n w τ asked.0) $
    enter ! 𝓣.C 𝓣.Λ fn (vptr hp.0 hp.1 ∷ vint w64 n ∷ []) Post $
    alloc_all ! (λ l. pass_all ! refl ((tt, tt), ((tt, record { fits = are.1.0.1 }), tt)) $ let Ev = env fn.locals l in
    let cases : Body = head (from_on 1 fn.body) in
    let Rest : Next 𝓤 H = any_q (after_seq 𝓤 H (Wp 𝓤 H 𝓣.C 𝓣.Λ Ev (from_on 2 fn.body) (at_return 𝓤 H Ev Post)) (at_return 𝓤 H Ev Post)) in
    calls_at ! (fm 𝓛 𝓜 𝓡) (Asks 𝓛 𝓜 𝓡) (allocates.met 𝓤 𝓛 𝓜 𝓡 (own.Code.calls-std_heap::GlobalAllocator::allocate 𝓡.env wired)) t (and_then ! (get ! refl) (and_then ! (get ! refl) (and_then ! (lit ! tt) (no_more !)))) (λ v.
    use1 𝓛 (later (some (λ (r : Answer.Denot). ‵ (Answer.own_val r (v ∷ [])) ⊛ ‵ (block_if_ok heap_token τ r) ⊛ ‵ (flft κ q)))) (was_answered 𝓛 𝓜 𝓡 κ q h n w τ v) $ await ! tt $ pick ! (λ r. split3 ! $ answered ! τ v r
    (λ b o e. let p : Ptr = block_ptr b o in let new : Memory.the_row.Denot = record { start = p; size = n } in let u : Val = pointer_val p in
    let out : Val = live 0 (of_list (u ∷ [])) in let fine : WT out = (record { fits = lit< tt }, ((tt, tt), tt)) in
    nothing ! $ fpack ! (n < 2 ^ 63) (λ _. ftrue) asked.1 $ fjoin ! $ use0 𝓛 (‵ (PointerData.own_val (p, tt) (u ∷ []))) (pointer_made 𝓛 p) $ fjoin ! $
    use1 𝓛 (‵ (Result.own_val (Ok new) (out ∷ []))) (ok_of 𝓛 Memory.the_row Want.the_row new u) $
    lands_as ! e refl (tt, (record { fits = lit< tt }, (tt, tt))) $ first ! $ switches_on ! (get_tag ! (vrt ! refl (fld ! refl (stop !))) (whole !)) $ exec ! 𝓣.C 𝓣.Λ Ev (arm_body 1 cases) Rest $
    sets ! (of_opd ! (get_in ! (vrt ! refl (fld ! refl (stop !))) (in_variant ! 0 0 refl refl (whole !)))) refl (tt, tt) $
    sets ! (agg ! (and_then ! (get ! refl) (no_more !))) refl (tt, (tt, tt)) $ sets_last ! (agg ! (and_then ! (lit ! tt) (and_then ! (get ! refl) (no_more !)))) refl (tt, fine) $
    exec ! 𝓣.C 𝓣.Λ Ev (from_on 2 fn.body) (at_ret Ev Post) $ sets ! (of_opd ! (get ! refl)) refl (tt, fine) $
    move ! (1 ∷ []) $ nothing ! $ move ! (1 ∷ 0 ∷ []) $ join ! $ use0 𝓛 (raw (fact 𝓤 (Refused (Ok new)))) (fact_i 𝓤 (Refused (Ok new)) (emp 𝓤) tt) $ use0 𝓛 (raw (fact 𝓤 (As (Ok new)))) (fact_i 𝓤 (As (Ok new)) (emp 𝓤) refl) $ join ! $ nothing ! $ nothing ! $ fjoin ! $ nothing ! $ fjoin ! $
    returns ! (look_at ! 0 refl) $ free_all ! refl $ keep ! (2 ∷ 0 ∷ 3 ∷ 1 ∷ []) $ by ! (leaves 𝓛 En hs c y out (Ok new) (tt, (tt, tt)) (tt, (tt, tt))))
    (λ e. let out : Val = live 1 (of_list (vstruct vnil ∷ [])) in let fine : WT out = (record { fits = lit< tt }, (tt, tt)) in
    lands_as ! e refl (tt, fine) $ first ! $ switches_on ! (get_tag ! (vrt ! refl (fld ! refl (stop !))) (whole !)) $ exec ! 𝓣.C 𝓣.Λ Ev (arm_body 0 cases) Rest $
    sets ! (agg ! (no_more !)) refl (tt, tt) $ sets_last ! (agg ! (and_then ! (lit ! tt) (and_then ! (get ! refl) (no_more !)))) refl (tt, fine) $
    exec ! 𝓣.C 𝓣.Λ Ev (from_on 2 fn.body) (at_ret Ev Post) $ sets ! (of_opd ! (get ! refl)) refl (tt, fine) $
    owned ! (Struct (Declared.shape Want.the_type)) (Is (Struct (Declared.shape Want.the_type))) (Struct-Makes 𝓛 (Declared.shape Want.the_type) tt) tt (vstruct vnil ∷ []) (tt, (refl, tt)) $
    use1 𝓛 (‵ (Result.own_val (Err (record {})) (out ∷ []))) (err_of 𝓛 Memory.the_row Want.the_row (record {}) (vstruct vnil)) $
    move ! (1 ∷ []) $ nothing ! $ move ! (1 ∷ 0 ∷ []) $ join ! $ use0 𝓛 (raw (fact 𝓤 (Refused (Err (record {}))))) (fact_i 𝓤 (Refused (Err (record {}))) (emp 𝓤) (as_failed (record {}))) $ use0 𝓛 (raw (fact 𝓤 (As (Err (record {}))))) (fact_i 𝓤 (As (Err (record {}))) (emp 𝓤) tt) $ join ! $ nothing ! $ nothing ! $ fjoin ! $ nothing ! $ fjoin ! $
    returns ! (look_at ! 0 refl) $ free_all ! refl $ keep ! (2 ∷ 0 ∷ 3 ∷ 1 ∷ []) $ by ! (leaves 𝓛 En hs c y out (Err (record {})) (tt, (tt, tt)) (tt, (tt, tt)))))))))
