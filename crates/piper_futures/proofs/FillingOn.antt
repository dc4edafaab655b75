-- What is filled in two polls is filled in order.
use Rattle.std.proofs.Common.{◌≡◌, ◌∙◌, refl, sym, ap, subst, ℕ, Bool, true, false, List, [], ◌∷◌, ◌++◌, append_assoc, append-nil, Option, Result, Ok, Err}
use Rattle.std.specs.Io.KnownBytes.{Consumes}
use Rattle.std.proofs.KnownBytes.{Consumes-trans}
use Rattle.futures.specs.declared.task.context.Context.{Context}
use Rattle.piper.specs.declared.error.PipeError.{PipeError}
use Rattle.piper.specs.declared.io.copy.Copied.{Copied}
use Rattle.piper_futures.specs.Filling.{FillsOn, FilledAll}
use Rattle.piper_futures.specs.declared.failed.Failed.{Failed}

append_nil_front : (xs ys : List ℕ) → xs ++ ys ≡ [] → xs ≡ []
append_nil_front [] ys none = refl
append_nil_front (x ∷ xs) ys none = cc

fills_then : (l0 l1 l2 : Option (List ℕ)) (s0 s1 s2 : List ℕ) (saw0 saw1 saw2 : Bool) → FillsOn l0 l1 s0 s1 saw0 saw1 → FillsOn l1 l2 s1 s2 saw1 saw2
    → FillsOn l0 l2 s0 s2 saw0 saw2
fills_then l0 l1 l2 s0 s1 s2 saw0 true saw2 first second =
    let none : second.0 ++ second.1 ≡ [] = second.5 refl in
    let front : second.0 ≡ [] = append_nil_front second.0 second.1 none in (
      first.0,
      first.1,
      subst (λ ws. Consumes l0 l2 ws) (ap (λ ws. (first.0 ++ first.1) ++ ws) none ∙ append-nil (first.0 ++ first.1)) (Consumes-trans l0 l1 l2 (first.0 ++ first.1) (second.0 ++ second.1) first.2 second.2),
      second.3 ∙ ap (λ ws. s1 ++ ws) front ∙ append-nil s1 ∙ first.3,
      λ unseen. let seen = second.6 refl in cc,
      first.5,
      λ seen. second.6 (first.6 seen),
    )
fills_then l0 l1 l2 s0 s1 s2 saw0 false saw2 first second =
    let all : first.0 ++ first.1 ≡ first.0 = ap (λ ws. first.0 ++ ws) (first.4 refl) ∙ append-nil first.0 in
    let bytes : (first.0 ++ first.1) ++ (second.0 ++ second.1) ≡ (first.0 ++ second.0) ++ second.1 =
    ap (λ ws. ws ++ (second.0 ++ second.1)) all ∙ sym (append_assoc first.0 second.0 second.1) in (
      first.0 ++ second.0,
      second.1,
      subst (λ ws. Consumes l0 l2 ws) bytes (Consumes-trans l0 l1 l2 (first.0 ++ first.1) (second.0 ++ second.1) first.2 second.2),
      second.3 ∙ ap (λ ws. ws ++ second.0) first.3 ∙ append_assoc s0 first.0 second.0,
      second.4,
      λ seen. let later = first.6 seen in cc,
      λ seen. let later = first.6 seen in cc,
    )

module _ {W S : Type 0} (sent : W → List ℕ) (saw : W → Bool) (woken : W → Type 0) (fails : W → Context → PipeError → Type 0) (remaining : S → Option (List ℕ)) where
  -- what may be given after a poll may be given before it
  pub filled_then : (w0 w1 : W) (s0 s1 : S) → FillsOn (remaining s0) (remaining s1) (sent w0) (sent w1) (saw w0) (saw w1) → (woken w0 → woken w1) → (output : Result (W × S × Copied) (Failed (W × S)))
      → FilledAll sent saw woken fails remaining w1 s1 output → FilledAll sent saw woken fails remaining w0 s0 output
  filled_then w0 w1 s0 s1 first stays (Ok done) gave =
      (fills_then (remaining s0) (remaining s1) (remaining done.1) (sent w0) (sent w1) (sent done.0) (saw w0) (saw w1) (saw done.0) first gave.0, gave.1, λ before. gave.2 (stays before))
  filled_then w0 w1 s0 s1 first stays (Err failed) gave =
      (fills_then (remaining s0) (remaining s1) (remaining failed.left.1) (sent w0) (sent w1) (sent failed.left.0) (saw w0) (saw w1) (saw failed.left.0) first gave.0, gave.1, λ before. gave.2 (stays before))
