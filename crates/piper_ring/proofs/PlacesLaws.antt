-- A `&` to a stretch of places lends its bytes. Assumes `Logic`.
use Rattle.piper_ring.proofs.Kit.{ℕ, zero, suc, List, [], ◌∷◌, Ura, Lft, ftrue, full_share, Logic, u8, w8, Ptr, block_of, beside_shr_laws, nothing_shr_laws, said_shr_laws, IsSend, IsSync, Common, Lends, Lends-both, Lends-nothing, Lends-said, shared_of, run, span, place, byte, unset, run_lent, places_lent, part_keyless, Keyless, ShrLaws, said}
use denote.Plain.{uint_row_laws}
use denote.Copied.{uint_Copied}
use Rattle.piper_ring.specs.Places.{fact, Placed, blank_own, places_own}

module _ (at : Ptr) (cap : ℕ) where
  run_laws : (k : ℕ) (xs : List ℕ) → ShrLaws (run_lent at cap k xs)
  run_laws k [] = nothing_shr_laws
  run_laws k (x ∷ xs) = beside_shr_laws _ _ (uint_row_laws w8 x (block_of at) (place at cap k)) (run_laws (suc k) xs)

  pub places_laws : (k : ℕ) (xs : List ℕ) → ShrLaws (places_lent at cap k xs)
  places_laws k xs = beside_shr_laws _ _ (said_shr_laws (fact (Placed at cap)) (λ _. tt)) (run_laws k xs)

  module _ {M : Type 1} {𝓤 : Ura M} (𝓛 : Logic 𝓤) (l : Lft) where
    Lends-run : (k : ℕ) (xs : List ℕ) → Lends 𝓛 (run (byte at cap) k xs) (run_lent at cap k xs) l
    Lends-run k [] = Lends-nothing 𝓛 ftrue l
    Lends-run k (x ∷ xs) = Lends-both 𝓛 (byte at cap k x) (run (byte at cap) (suc k) xs) (shared_of u8 x (block_of at) (place at cap k)) (run_lent at cap (suc k) xs) l
        (λ κ ts. (uint_Copied 𝓛 w8).shares full_share l x κ ts (block_of at) (place at cap k)) (Lends-run (suc k) xs)

    pub Lends-places : (k : ℕ) (xs : List ℕ) → Lends 𝓛 (places_own at cap k xs) (places_lent at cap k xs) l
    Lends-places k xs = Lends-both 𝓛 (fact (Placed at cap)) (run (byte at cap) k xs) (said (fact (Placed at cap))) (run_lent at cap k xs) l (Lends-said 𝓛 (fact (Placed at cap)) (λ _. tt) l) (Lends-run k xs)

module _ (at : Ptr) (cap : ℕ) where
  pub run-Keyless : IsSend u8 → (k : ℕ) (xs : List ℕ) → Keyless (run (byte at cap) k xs)
  run-Keyless s k [] = tt
  run-Keyless s k (x ∷ xs) = (part_keyless u8 s full_share x _ _, run-Keyless s (suc k) xs)

  run-Common : IsSync u8 → (k : ℕ) (xs : List ℕ) → Common (run_lent at cap k xs)
  run-Common y k [] κ = tt
  run-Common y k (x ∷ xs) κ = (y.shared x _ _ κ, run-Common y (suc k) xs κ)

  pub places-Keyless : IsSend u8 → (k : ℕ) (xs : List ℕ) → Keyless (places_own at cap k xs)
  places-Keyless s k xs = ((λ _. tt), run-Keyless s k xs)

  pub places-Common : IsSync u8 → (k : ℕ) (xs : List ℕ) → Common (places_lent at cap k xs)
  places-Common y k xs κ = ((λ _. tt), run-Common y k xs κ)

  pub span-Keyless : (n k : ℕ) → Keyless (span (unset at cap) k n)
  span-Keyless zero k = tt
  span-Keyless (suc n) k = (tt, span-Keyless n (suc k))

  pub blank-Keyless : (k n : ℕ) → Keyless (blank_own at cap k n)
  blank-Keyless k n = ((λ _. tt), span-Keyless n k)
