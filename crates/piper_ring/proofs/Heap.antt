-- The two calls of the heap, as a walk meets them: what a call is handed, and what its caller has
-- afterwards. Assumes `Logic`.
use Rattle.piper_ring.proofs.Kit.{◌≡◌, ℕ, List, [], ◌∷◌, ◌++◌, refl, ap, ◌∙◌, w64, Ura, Ty, Val, vint, vptr, vunit, vstruct, vnil, of_list, SProp, ent, sep, emp, guard, ex, id⊢, fst∗, never, Lft, Share, Fml, ftrue, fsep, flft, Logic, sem, ‵, raw, ◌⊛◌, some, later, ◌$◌, ◌∵◌, !, qed, move, keep, drop, split, join, fsplit, fjoin, feq_i, pick, show, check, use0, use1, updating, await, now, done, fact, fact_i, RattleType, Is, shows, usize, RefOf, shr_vals, plain, Ptr, ptr_val, block_ptr, null_ptr, in_a_block, nothing, peeks, owned_block, block_if_ok, heap_token, live, Answer}
use prog.Model.{Model}
use types.Kit.{Goal, Item, Seq, feq_l}
use contract.Running.{Running}
use Rattle.core.specs.declared.alloc.AllocError.{AllocError}
use Rattle.core.specs.declared.result.Result.TheVariants.{Ok, Err}
use denote.Builtin.{unit}
use denote.Signature.{type_at}
use denote.Steps.{only}
use denote.Triple.Statement.{Contract}
use denote.Triple.Spec.{triple_of}
use Rattle.core.specs.Allocator.{HasLayout}
use Rattle.std_heap.specs.contracts.Global as Heap
use Rattle.std_heap.specs.contracts.GlobalAllocator.allocate as Allocate
use Rattle.std_heap.specs.contracts.GlobalAllocator.deallocate as Deallocate

-- a `&Global`
abbrev pub Handle : Lft → RattleType
Handle κ = type_at (RefOf {n = 1} (0 ∷ []) tt (plain (λ _. Heap.the_row)) (λ _. tt)) (κ, tt)

module _ {M : Type 1} {𝓤 : Ura M} (𝓛 : Logic 𝓤) (𝓜 : Model 𝓤 𝓛.H) (𝓡 : Running 𝓤 𝓛.H 𝓜) where
  open 𝓛 use {H, A}

  abbrev pub Frees : Contract 𝓤
  Frees = triple_of 𝓛 Deallocate.signature (Deallocate.spec 𝓛 𝓜.mem 𝓡.returns)

  abbrev pub Asks : Contract 𝓤
  Asks = triple_of 𝓛 Allocate.signature (Allocate.spec 𝓛 𝓜.mem 𝓡.returns)

  module _ (κ : Lft) (q : Share) (h : (Handle κ).Denot) (size align : ℕ) (τ : Ty) where
    abbrev pub asking : Asks.Ghost
    asking = (((κ, tt), (q, tt), tt, (h, (size, (align, tt))), (shr_vals h, (vint w64 size ∷ [], (vint w64 align ∷ [], tt)))), τ)

    abbrev pub freeing : Ptr → Frees.Ghost
    freeing p = (((κ, tt), (q, tt), tt, (h, (p, (size, (align, tt)))), (shr_vals h, (ptr_val p ∷ [], (vint w64 size ∷ [], (vint w64 align ∷ [], tt))))), τ)

    abbrev pub sizes : Fml
    sizes = fsep (usize.own_val size (vint w64 size ∷ [])) (fsep (usize.own_val align (vint w64 align ∷ [])) ftrue)

    abbrev pub holds : SProp 𝓤
    holds = fact 𝓤 (HasLayout τ size align)

    abbrev pub request : Fml
    request = fsep ((Handle κ).own_val h (shr_vals h)) sizes

    pub may_ask : HasLayout τ size align → ent 𝓤 (sep 𝓤 (sem 𝓛 request) (A.lft κ q)) (Asks.pre asking)
    may_ask fits = qed 𝓛 (‵ request ∷ ‵ (flft κ q) ∷ []) ∵ use0 𝓛 (raw holds) (fact_i 𝓤 (HasLayout τ size align) (emp 𝓤) fits) $
        move ! (1 ∷ []) $ nothing ! $ move ! (3 ∷ 0 ∷ []) $ join ! $ join ! $ join ! $ done !

    pub may_free : HasLayout τ size align → (p : Ptr) → ent 𝓤 (sep 𝓤 (sem 𝓛 request) (sep 𝓤 (A.lft κ q) (sem 𝓛 (owned_block heap_token τ p)))) (Frees.pre (freeing p))
    may_free fits p = qed 𝓛 (‵ request ∷ ‵ (flft κ q) ∷ ‵ (owned_block heap_token τ p) ∷ []) ∵ move ! (2 ∷ []) $
        use0 𝓛 (raw holds) (fact_i 𝓤 (HasLayout τ size align) (emp 𝓤) fits) $ join ! $ move ! (1 ∷ []) $ fsplit ! $ move ! (1 ∷ []) $ feq_i ! (List Val) (ptr_val p ∷ []) (ptr_val p ∷ []) refl $ fjoin ! $
        move ! (1 ∷ 0 ∷ []) $ fjoin ! $ nothing ! $ move ! (3 ∷ 0 ∷ []) $ join ! $ join ! $ join ! $ done !

    pub was_freed : (p : Ptr) (v : Val) → ent 𝓤 (Frees.post (freeing p) v) (H.⇛ (guard 𝓤 (v ≡ vunit) (A.lft κ q)))
    was_freed p v = qed 𝓛 (raw (Frees.post (freeing p) v) ∷ []) ∵ updating ! $
        use1 𝓛 (later (some (λ (r : Unit {0}). ((‵ (flft κ q) ⊛ ‵ ftrue) ⊛ ‵ (unit.own_val r (v ∷ []))) ⊛ some (λ (ws : Unit {0} × (Unit {0} × (Unit {0} × (Unit {0} × Unit {0})))). ‵ (fsep ftrue (fsep ftrue (fsep ftrue (fsep ftrue ftrue)))) ⊛ ‵ ftrue)))) (id⊢ 𝓤 _) $
        await ! tt $ pick ! (λ r. split ! $ split ! $ move ! (1 ∷ []) $ feq_l ! (λ e. split ! $ now ! $ check ! (ap only e) $ keep ! (0 ∷ []) $ done !))

    abbrev pub Outcome : Val → Answer.Denot → SProp 𝓤
    Outcome v r = sep 𝓤 (sem 𝓛 (Answer.own_val r (v ∷ []))) (sep 𝓤 (sem 𝓛 (block_if_ok heap_token τ r)) (A.lft κ q))

    pub was_answered : (v : Val) → ent 𝓤 (Asks.post asking v) (H.⇛ (ex 𝓤 (Outcome v)))
    was_answered v = qed 𝓛 (raw (Asks.post asking v) ∷ []) ∵ updating ! $
        use1 𝓛 (later (some (λ (r : Answer.Denot). ((‵ (flft κ q) ⊛ ‵ ftrue) ⊛ ‵ (Answer.own_val r (v ∷ []))) ⊛ some (λ (ws : Unit {0} × (Unit {0} × (Unit {0} × Unit {0}))). ‵ (fsep ftrue (fsep ftrue (fsep ftrue ftrue))) ⊛ ‵ (block_if_ok heap_token τ r))))) (id⊢ 𝓤 _) $
        await ! tt $ pick ! (λ r. split ! $ split ! $ move ! (2 ∷ []) $ pick ! (λ ws. split ! $ drop ! $ move ! (1 ∷ []) $ split ! $ keep ! (3 ∷ 2 ∷ 0 ∷ []) $ now ! $ show ! (Outcome v) r $ done !))

-- what the machine keeps of an answer
pub told_ok : (p : Ptr) (v : Val) → Is Answer (Ok p) (v ∷ []) → v ≡ live 0 (of_list (ptr_val p ∷ []))
told_ok p v is = ap only is.1.0 ∙ ap (λ (ws : List Val). live 0 (of_list ws)) (is.1.1.1.0 ∙ ap (λ (ws : List Val). ws ++ []) is.1.1.1.1.0)

pub told_err : (e : AllocError) (v : Val) → Is Answer (Err e) (v ∷ []) → v ≡ live 1 (of_list (vstruct vnil ∷ []))
told_err e v is = ap only is.1.0 ∙ ap (λ (ws : List Val). live 1 (of_list ws)) (is.1.1.1.0 ∙ ap (λ (ws : List Val). ws ++ []) is.1.1.1.1.0.1.0)

module _ {M : Type 1} {𝓤 : Ura M} {𝓛 : Logic 𝓤} {K : Type 0} {Γ : List (Item 𝓤)} {G : Goal 𝓤 𝓛.H} where
  -- a walk goes on with the memory, or with nothing
  pub answered : K → (τ : Ty) (v : Val) (r : Answer.Denot)
      → ((b o : ℕ) → v ≡ live 0 (of_list (vptr b o ∷ [])) → Seq K 𝓛 (‵ (owned_block heap_token τ (block_ptr b o)) ∷ Γ) G)
      → (v ≡ live 1 (of_list (vstruct vnil ∷ [])) → Seq K 𝓛 Γ G)
      → Seq K 𝓛 (‵ (Answer.own_val r (v ∷ [])) ∷ ‵ (block_if_ok heap_token τ r) ∷ Γ) G
  answered t τ v (Ok p) ok err = peeks t Answer (Is Answer) (shows 𝓛 Answer) (Ok p) (v ∷ []) (λ is. drop t $
      in_a_block t p (λ z. owned_block heap_token τ z) (fst∗ 𝓤 (never 𝓤) (sem 𝓛 (heap_token τ null_ptr))) (λ b o at. ok b o (told_ok p v is ∙ ap (λ (z : Ptr). live 0 (of_list (ptr_val z ∷ []))) at)))
  answered t τ v (Err e) ok err = peeks t Answer (Is Answer) (shows 𝓛 Answer) (Err e) (v ∷ []) (λ is. drop t $ drop t $ err (told_err e v is))
