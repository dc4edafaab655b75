-- What comes in two polls before a delimiter is in order.
use Rattle.std.proofs.Common.{◌≡◌, ◌≢◌, ◌∙◌, ◌+◌, ◌<◌, ◌≤◌, ◌⊎◌, vec_capacity, inl, inr, sym, ap, subst, ℕ, Bool, List, [], ◌∷◌, ◌++◌, take, length, get_or, append_assoc, length-take, arith, Result, Ok, Err, Vec}
use Rattle.std.proofs.lemmas.List.{take_more, get_or-take}
use Rattle.std.proofs.lemmas.List.Elements.{All-append, All-from_get_or}
use Rattle.std.specs.declared.alloc.Global.{Global}
use Rattle.futures.specs.declared.task.context.Context.{Context}
use Rattle.piper.specs.declared.error.PipeError.{PipeError}
use Rattle.piper_lines.specs.AtEnd.{AtEnd}
use Rattle.piper_lines.specs.Stays.{ReaderStays}
use Rattle.piper_lines.proofs.Staying.{reader_stays}
use Rattle.piper_futures.specs.Until.{GrowsBy, IsThrough, Lacks, ReadThrough}
use Rattle.piper_futures.specs.Writing.{FailsOnce}
use Rattle.piper_futures.proofs.ReadingOn.{less_space}
use Rattle.piper_futures.specs.declared.failed.Failed.{Failed}

-- more came, of which the whole has what its end has, where the front lacks the delimiter
pub grows_by_more : (t0 t1 t2 b0 b1 b2 : List ℕ) (P Q S : List ℕ → Type 0) → ((xs ys : List ℕ) → P xs → Q ys → S (xs ++ ys)) → GrowsBy t0 t1 b0 b1 P → GrowsBy t1 t2 b1 b2 Q
    → GrowsBy t0 t2 b0 b2 S
grows_by_more t0 t1 t2 b0 b1 b2 P Q S joins first second = (
  first.0 ++ second.0,
  second.1 ∙ ap (λ ws. ws ++ second.0) first.1 ∙ append_assoc t0 first.0 second.0,
  second.2 ∙ ap (λ ws. ws ++ second.0) first.2 ∙ append_assoc b0 first.0 second.0,
  joins first.0 second.0 first.3 second.3,
)

pub Lacks-append : (byte : ℕ) (xs ys : List ℕ) → Lacks byte xs → Lacks byte ys → Lacks byte (xs ++ ys)
Lacks-append byte xs ys front back = All-append (λ b. b ≢ byte) xs ys front back

pub IsThrough-append : (byte : ℕ) (xs ys : List ℕ) → Lacks byte xs → IsThrough byte ys → IsThrough byte (xs ++ ys)
IsThrough-append byte xs ys front back =
    (xs ++ back.0, Lacks-append byte xs back.0 front back.1, ap (λ ws. xs ++ ws) back.2 ∙ sym (append_assoc xs back.0 (byte ∷ [])))

-- none of the first n bytes is the delimiter
pub Lacks-take : (byte : ℕ) (xs : List ℕ) (n : ℕ) → ((k : ℕ) → k < n → get_or xs k 0 ≢ byte) → Lacks byte (take n xs)
Lacks-take byte xs n before =
    All-from_get_or (λ b. b ≢ byte) (take n xs) 0 (λ k within.
    let below : k < n = omega (arith, length-take n xs) in
    subst (λ b. b ≢ byte) (sym (get_or-take n xs k 0 below)) (before k below))

-- the first delimiter ends them
pub IsThrough-take : (byte : ℕ) (xs : List ℕ) (n : ℕ) → n < length xs → ((k : ℕ) → k < n → get_or xs k 0 ≢ byte) → get_or xs n 0 ≡ byte
    → IsThrough byte (take (n + 1) xs)
IsThrough-take byte xs n within before here =
    (take n xs, Lacks-take byte xs n before, take_more xs n 0 within ∙ ap (λ b. take n xs ++ b ∷ []) here)

joins : (byte : ℕ) (End : Type 0) (xs ys : List ℕ) → Lacks byte xs → IsThrough byte ys ⊎ (Lacks byte ys × End) → IsThrough byte (xs ++ ys) ⊎ (Lacks byte (xs ++ ys) × End)
joins byte End xs ys front (inl through) = inl (IsThrough-append byte xs ys front through)
joins byte End xs ys front (inr lacks) = inr (Lacks-append byte xs ys front lacks.0, lacks.1)

module _ {R : Type 0} (taken known : R → List ℕ) (saw knows_end : R → Bool) (woken : R → Type 0) (fails : R → Context → PipeError → Type 0) (byte : ℕ) where
  -- what may be given after a poll may be given before it
  pub read_through_then : (r0 r1 : R) (b0 b1 : Vec ℕ Global) → GrowsBy (taken r0) (taken r1) b0.items b1.items (Lacks byte) → vec_capacity b0 ≤ vec_capacity b1 → ReaderStays knows_end woken r0 r1 → (output : Result (R × Vec ℕ Global) (Failed (R × Vec ℕ Global)))
      → ReadThrough taken known saw knows_end woken fails byte r1 b1 output → ReadThrough taken known saw knows_end woken fails byte r0 b0 output
  read_through_then r0 r1 b0 b1 first room stays (Ok done) gave = (
    grows_by_more (taken r0) (taken r1) (taken done.0) b0.items b1.items done.1.items (Lacks byte) (λ more. IsThrough byte more ⊎ (Lacks byte more × AtEnd (known done.0) (saw done.0)))
        (λ more. IsThrough byte more ⊎ (Lacks byte more × AtEnd (known done.0) (saw done.0))) (joins byte (AtEnd (known done.0) (saw done.0))) first gave.0,
    reader_stays knows_end woken r0 r1 done.0 stays gave.1,
  )
  read_through_then r0 r1 b0 b1 first room stays (Err failed) gave = (
    grows_by_more (taken r0) (taken r1) (taken failed.left.0) b0.items b1.items failed.left.1.items (Lacks byte) (Lacks byte) (Lacks byte) (Lacks-append byte) first gave.0,
    less_space failed.error (FailsOnce fails failed.left.0) _ _ _ _ room gave.1,
    reader_stays knows_end woken r0 r1 failed.left.0 stays gave.2,
  )
