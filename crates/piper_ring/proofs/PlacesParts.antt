-- Stretches of places are cut; their front is one piece of memory; and their bytes are given up.
-- Assumes `Logic`.
use Rattle.piper_ring.proofs.Kit.{◌≡◌, ℕ, zero, suc, ◌+◌, ◌<◌, ◌≤◌, List, [], ◌∷◌, length, take, sym, ap, ◌∙◌, subst, arith, Ura, ent, id⊢, Lft, Fml, Logic, sem, ‵, ◌$◌, ◌∵◌, !, qed, keep, done, u8, Ptr, block_of, count_of, shared_of, slot_of as offset_of, slot_small, mem, full_share, sep, via, emp, emp∗, move, split, fjoin, use1, ◌⊛◌, w8, ty_int, vint, run, span, run_lent, place, byte, unset, drop_list, elements_shared, slot_add, cells}
use base.Logic.{mono_r}
use denote.Plain.{uint_out}
use Rattle.rtrb.proofs.Spans.{run_span}

-- the next place, where the row does not wrap
pub next_place : (cap k s : ℕ) → s ≡ offset_of cap k → s + 1 < cap → suc s ≡ offset_of cap (suc k)
next_place cap k s e lt = let more : k + 1 ≡ suc k = omega arith in let up : s + 1 ≡ suc s = omega arith in
    sym up ∙ sym (slot_small cap (s + 1) lt) ∙ ap (λ (x : ℕ). offset_of cap (x + 1)) e ∙ slot_add cap k 1 ∙ ap (offset_of cap) more

module _ {M : Type 1} {𝓤 : Ura M} (𝓛 : Logic 𝓤) (at : Ptr) (cap : ℕ) (κ : Lft) where
  pub seen : (n k s o : ℕ) (xs : List ℕ) → n ≤ length xs → (0 < n → s ≡ offset_of cap k) → s + n ≤ cap → o ≡ s + count_of at
      → ent 𝓤 (sem 𝓛 (run_lent at cap k xs κ)) (sem 𝓛 (elements_shared u8 (take n xs) (block_of at) o κ))
  seen zero k s o xs le e near is = qed 𝓛 (‵ (run_lent at cap k xs κ) ∷ []) ∵ keep ! [] $ done !
  seen (suc n) k s o [] le e near is = absurd (omega arith)
  seen (suc n) k s o (x ∷ xs) le e near is =
      let here = e (omega arith) in let same : place at cap k ≡ o = ap (λ (m : ℕ). m + count_of at) (sym here) ∙ sym is in
      subst (λ (p : ℕ). ent 𝓤 (sem 𝓛 (run_lent at cap k (x ∷ xs) κ)) (sem 𝓛 (elements_shared u8 (x ∷ take n xs) (block_of at) p κ))) same
      (mono_r 𝓤 (sem 𝓛 (shared_of u8 x (block_of at) (place at cap k) κ))
      (seen n (suc k) (suc s) (place at cap k + 1) xs (omega arith) (λ pos. next_place cap k s here (omega arith)) (omega arith) (ap (λ (m : ℕ). m + 1) same ∙ ap (λ (m : ℕ). m + 1) is ∙ omega arith)))

module _ {M : Type 1} {𝓤 : Ura M} (𝓛 : Logic 𝓤) where
  pub run_cut : (F : ℕ → ℕ → Fml) (n k j : ℕ) (xs : List ℕ) → n ≤ length xs → j ≡ k + n → ent 𝓤 (sem 𝓛 (run F k xs)) (sep 𝓤 (sem 𝓛 (run F k (take n xs))) (sem 𝓛 (run F j (drop_list n xs))))
  run_cut F zero k j xs le e = let same : k ≡ j = omega arith in subst (λ (m : ℕ). ent 𝓤 (sem 𝓛 (run F k xs)) (sep 𝓤 (emp 𝓤) (sem 𝓛 (run F m xs)))) same (emp∗ 𝓤 (sem 𝓛 (run F k xs)))
  run_cut F (suc n) k j [] le e = absurd (omega arith)
  run_cut F (suc n) k j (x ∷ xs) le e = qed 𝓛 (‵ (F k x) ∷ ‵ (run F (suc k) xs) ∷ []) ∵ move ! (1 ∷ []) $
      use1 𝓛 (‵ (run F (suc k) (take n xs)) ⊛ ‵ (run F j (drop_list n xs))) (run_cut F n (suc k) j xs (omega arith) (omega arith)) $ split ! $ move ! (2 ∷ 0 ∷ []) $ fjoin ! $ done !

  module _ (at : Ptr) (cap : ℕ) where
    -- bytes side by side are the cells of an array
    pub to_cells : (xs : List ℕ) (k s o : ℕ) → (0 < length xs → s ≡ offset_of cap k) → s + length xs ≤ cap → o ≡ s + count_of at
        → ent 𝓤 (sem 𝓛 (run (byte at cap) k xs)) (sem 𝓛 (cells (mem u8) xs (block_of at) o))
    to_cells [] k s o e near is = id⊢ 𝓤 (emp 𝓤)
    to_cells (x ∷ xs) k s o e near is = let within : s + suc (length xs) ≤ cap = near in let here = e (omega arith) in let same : place at cap k ≡ o = ap (λ (m : ℕ). m + count_of at) (sym here) ∙ sym is in
        subst (λ (q : ℕ). ent 𝓤 (sem 𝓛 (run (byte at cap) k (x ∷ xs))) (sem 𝓛 (cells (mem u8) (x ∷ xs) (block_of at) q))) same
        (mono_r 𝓤 (sem 𝓛 (byte at cap k x)) (to_cells xs (suc k) (suc s) (place at cap k + 1) (λ pos. next_place cap k s here (omega arith)) (omega arith) (ap (λ (m : ℕ). m + 1) same ∙ ap (λ (m : ℕ). m + 1) is ∙ omega arith)))

    pub of_cells : (xs : List ℕ) (k s o : ℕ) → (0 < length xs → s ≡ offset_of cap k) → s + length xs ≤ cap → o ≡ s + count_of at
        → ent 𝓤 (sem 𝓛 (cells (mem u8) xs (block_of at) o)) (sem 𝓛 (run (byte at cap) k xs))
    of_cells [] k s o e near is = id⊢ 𝓤 (emp 𝓤)
    of_cells (x ∷ xs) k s o e near is = let within : s + suc (length xs) ≤ cap = near in let here = e (omega arith) in let same : place at cap k ≡ o = ap (λ (m : ℕ). m + count_of at) (sym here) ∙ sym is in
        subst (λ (q : ℕ). ent 𝓤 (sem 𝓛 (cells (mem u8) (x ∷ xs) (block_of at) q)) (sem 𝓛 (run (byte at cap) k (x ∷ xs)))) same
        (mono_r 𝓤 (sem 𝓛 (byte at cap k x)) (of_cells xs (suc k) (suc s) (place at cap k + 1) (λ pos. next_place cap k s here (omega arith)) (omega arith) (ap (λ (m : ℕ). m + 1) same ∙ ap (λ (m : ℕ). m + 1) is ∙ omega arith)))

    -- a byte that nobody speaks of any more is a place that need not be set
    pub unsets : (k x : ℕ) → ent 𝓤 (sem 𝓛 (byte at cap k x)) (sem 𝓛 (unset at cap k))
    unsets k x = via 𝓤 _ (uint_out 𝓛 full_share w8 x (block_of at) (place at cap k)) (via 𝓤 _ (𝓛.laws.at_room (ty_int w8) (block_of at) (place at cap k) (vint w8 x)) (𝓛.laws.room-raw (ty_int w8) (block_of at) (place at cap k)))

    pub forgets : (xs : List ℕ) (k : ℕ) → ent 𝓤 (sem 𝓛 (run (byte at cap) k xs)) (sem 𝓛 (span (unset at cap) k (length xs)))
    forgets = run_span 𝓛 (byte at cap) (unset at cap) unsets
