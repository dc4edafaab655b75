-- `surrender` hands the bytes to the heap. Assumes `Logic`.
use Rattle.piper_ring.proofs.Kit.{◌≡◌, ◌^◌, ℕ, lit<, lit, flt_i, List, [], ◌∷◌, sym, refl, ap, subst, w64, Ty, named, Val, vint, vptr, vunit, WT, SProp, fst∗, never, Share, ftrue, flft, sem, ‵, raw, ◌⊛◌, given, later, await, at_ret, ◌$◌, ◌∵◌, !, qed, by, move, keep, drop, split, join, fsplit, fjoin, feq_i, learn, rewrite, use1, use3, stop, fld, unit_lit, of_opd, no_more, and_then, first, blocks, exec, returns, enter, alloc_all, pass_all, free_all, look_at, get, get_in, sets, is, lands_last, env, sub, whole, tables, RefOf, usize, yes, owns, Ptr, block_ptr, null_ptr, ptr_val, in_a_block, uint_vals, uint_Tells, shr_vals, shr_Tells, types_at, plain, nothing, Stays, stay_dropped, walk_of, Goes-dropped, owned_block, after as from_on, word-Good, fm, proved, leaves, heap_token, pointer_val, pointer_told, IsClaim, purpose, unused}
use Rattle.std.proofs.Common.{T}
use mir.Syntax.{ty_unit}
use mir.Val.{has_ty}
use denote.Triple.Call.{calls_at_last}
use Rattle.std_heap.specs.contracts.Global as Heap
use Rattle.std_heap.proofs.GlobalAllocator.deallocate.Met as deallocates
use Rattle.piper_ring.proofs.Heap.{Frees, freeing, may_free, was_freed}
use Rattle.piper_ring.specs.contracts.ring.memory.Memory as Memory
use Rattle.piper_ring.proofs.ring.memory.Memory.surrender as own

pub surrender_spec : {M : Type 1} → own.Statement.statement M
surrender_spec 𝓤 𝓛 𝓜 𝓡 wired =
    let H = 𝓛.H in let 𝓣 = tables 𝓤 H 𝓜 𝓡 𝓡.env in let En = Memory.surrender.ended in let fn = own.Code.function in let c = Memory.surrender.clauses 𝓛 𝓜.mem 𝓡.returns in
    let memory = plain (λ _. Memory.the_row) in let heap = RefOf (0 ∷ []) tt (plain (λ _. Heap.the_row)) (λ _. tt) in let number = plain (λ _. usize) in
    let hs : Stays En.signature.params En.kept = (stay_dropped memory yes, (stay_dropped heap yes, (stay_dropped number yes, tt))) in
    proved 𝓛 En hs c 𝓜 𝓡 (Goes-dropped 𝓛 1 memory yes (λ κs x f. refl), (Goes-dropped 𝓛 1 heap yes (λ κs x f. refl), (Goes-dropped 𝓛 1 number yes (λ κs x f. refl), tt))) Memory.surrender.Key.name fn (own.Code.unfolded 𝓤 H 𝓜 𝓡 wired)
    (λ κs. ((λ m. pointer_val m.start ∷ []), (shr_vals, (uint_vals w64, tt)))) (λ κs. ((λ m vs is. pointer_told m.start vs is.0), (shr_Tells (named 0) κs.0 Heap.the_row, (uint_Tells w64, tt)))) (λ κs qs bounds a gh are.
    let p : Ptr = a.0.start in let h = a.1.0 in let hp : ℕ × ℕ = h.ref_ptr in let n : ℕ = a.1.1.0 in let w : ℕ = 8 in let κ = κs.0 in let q : Share = qs.0 in let τ : Ty = purpose n in
    let y : (walk_of 𝓛 En hs c).Ghost = ((κs, qs, bounds, a, (pointer_val p ∷ [], (vptr hp.0 hp.1 ∷ [], (vint w64 n ∷ [], tt)))), gh) in let Post : Val → SProp 𝓤 = (walk_of 𝓛 En hs c).post y in
    qed 𝓛 (((‵ (flft κ q) ⊛ ‵ ftrue) ⊛ ‵ (owns (types_at En.signature.params κs) a y.0.4)) ∷ given (IsClaim n × (a.0.size ≡ n)) (‵ ftrue) ∷ []) ∵
    keep ! (1 ∷ 0 ∷ []) $ learn ! (λ asked. drop ! $ split ! $ split ! $ move ! (2 ∷ []) $ fsplit ! $ fsplit ! $ drop ! $
    rewrite ! 0 (λ (m : ℕ). ‵ (unused m p)) {x = n} {y = a.0.size} asked.1 refl $ fsplit ! $ drop ! $ move ! (1 ∷ []) $ fsplit ! $ move ! (1 ∷ []) $ fsplit ! $
    flt_i ! w (2 ^ 64) (lit< tt) $ feq_i ! (List Val) (vint w64 w ∷ []) (vint w64 w ∷ []) refl $ fjoin ! $ nothing ! $ move ! (1 ∷ 0 ∷ []) $ fjoin ! $ move ! (1 ∷ 0 ∷ []) $ fjoin ! $ move ! (2 ∷ 0 ∷ []) $ fjoin ! $ keep ! (2 ∷ 0 ∷ 3 ∷ 4 ∷ []) $
    in_a_block ! p (λ r. owned_block heap_token τ r) (fst∗ 𝓤 (never 𝓤) (sem 𝓛 (heap_token τ null_ptr))) (λ b o at.
    enter ! 𝓣.C 𝓣.Λ fn (pointer_val p ∷ vptr hp.0 hp.1 ∷ vint w64 n ∷ []) Post $
    alloc_all ! (λ l. pass_all ! refl (word-Good [] p, ((tt, tt), ((tt, record { fits = are.1.1.0.1 }), tt))) $ let Ev = env fn.locals l in
    sets ! (is ! (of_opd ! (get_in ! (fld ! refl (stop !)) (sub ! 0 refl (whole !)))) (ap ptr_val at)) refl (tt, tt) $ move ! (1 ∷ 2 ∷ 0 ∷ []) $
    let r : Ptr = block_ptr b o in let t : (Frees 𝓛 𝓜 𝓡).Ghost = freeing 𝓛 𝓜 𝓡 κ q h n w τ r in
    use3 𝓛 (raw ((Frees 𝓛 𝓜 𝓡).pre t)) (may_free 𝓛 𝓜 𝓡 κ q h n w τ asked.0.0 r) $ first ! $ blocks ! $
    calls_at_last ! (fm 𝓛 𝓜 𝓡) (Frees 𝓛 𝓜 𝓡) (deallocates.met 𝓤 𝓛 𝓜 𝓡 (own.Code.calls-std_heap::GlobalAllocator::deallocate 𝓡.env wired)) t (and_then ! (get ! refl) (and_then ! (get ! refl) (and_then ! (get ! refl) (and_then ! (lit ! tt) (no_more !))))) (λ v.
    use1 𝓛 (later (given (v ≡ vunit) (‵ (flft κ q)))) (was_freed 𝓛 𝓜 𝓡 κ q h n w τ r v) $ await ! tt $ learn ! (λ none.
    let fine : T (has_ty ty_unit v) × WT v = subst (λ (u : Val). T (has_ty ty_unit u) × WT u) (sym none) (tt, tt) in
    lands_last ! refl fine $ exec ! 𝓣.C 𝓣.Λ Ev (from_on 2 fn.body) (at_ret Ev Post) $ sets ! (of_opd ! (unit_lit !)) refl (tt, tt) $ join ! $
    nothing ! $ nothing ! $ fjoin ! $ nothing ! $ fjoin ! $ nothing ! $ fjoin ! $ feq_i ! (List Val) (vunit ∷ []) (vunit ∷ []) refl $ nothing ! $
    returns ! (look_at ! 0 refl) $ free_all ! refl $ keep ! (3 ∷ 2 ∷ 1 ∷ 0 ∷ []) $ by ! (leaves 𝓛 En hs c y vunit tt (tt, (tt, (tt, tt))) (tt, (tt, (tt, tt))))))))))
