-- What is carried across in two polls is carried in order.
use Rattle.std.proofs.Common.{◌≡◌, ◌⊎◌, inl, inr, ◌∙◌, sym, ap, subst, refl, ℕ, Bool, true, false, List, ◌++◌, append_assoc, append-nil, Result, Ok, Err}
use Rattle.futures.specs.declared.task.context.Context.{Context}
use Rattle.piper.specs.Polls.{Carries}
use Rattle.piper.specs.declared.error.PipeError.{PipeError}
use Rattle.piper.specs.declared.io.copy.Copied.{Copied}
use Rattle.piper_lines.proofs.Staying.{reader_stays}
use Rattle.piper_futures.specs.Carrying.{CarriesOn, CopiedAll, CopiesOn}
use Rattle.piper_futures.specs.Writing.{FailsOnce}
use Rattle.piper_futures.specs.declared.failed.Failed.{Failed}

carries_then : (t0 t1 t2 s0 s1 s2 : List ℕ) (saw1 saw2 : Bool) → Carries t0 t1 s0 s1 saw1 → Carries t1 t2 s1 s2 saw2
    → (saw1 ≡ true → (t2 ≡ t1) × (s2 ≡ s1)) → (saw1 ≡ true → saw2 ≡ true) → Carries t0 t2 s0 s2 saw2
carries_then t0 t1 t2 s0 s1 s2 true saw2 first second over stays =
    (first.0, first.1, (over refl).0 ∙ first.2, (over refl).1 ∙ first.3, λ unseen. let seen = stays refl in cc)
carries_then t0 t1 t2 s0 s1 s2 false saw2 first second over stays =
    let carried : t1 ≡ t0 ++ first.0 = first.2 ∙ ap (λ ws. t0 ++ (first.0 ++ ws)) (first.4 refl) ∙ ap (λ ws. t0 ++ ws) (append-nil first.0) in (
      first.0 ++ second.0,
      second.1,
      second.2 ∙ ap (λ ws. ws ++ (second.0 ++ second.1)) carried ∙ append_assoc t0 first.0 (second.0 ++ second.1)
          ∙ ap (λ ws. t0 ++ ws) (sym (append_assoc first.0 second.0 second.1)),
      second.3 ∙ ap (λ ws. ws ++ second.0) first.3 ∙ append_assoc s0 first.0 second.0,
      second.4,
    )

carries_on : (t0 t1 t2 s0 s1 s2 : List ℕ) (saw0 saw1 saw2 : Bool) → CarriesOn t0 t1 s0 s1 saw0 saw1 → CarriesOn t1 t2 s1 s2 saw1 saw2
    → CarriesOn t0 t2 s0 s2 saw0 saw2
carries_on t0 t1 t2 s0 s1 s2 saw0 saw1 saw2 first second = (
  carries_then t0 t1 t2 s0 s1 s2 saw1 saw2 first.0 second.0 second.1 second.2,
  λ seen. ((second.1 (first.2 seen)).0 ∙ (first.1 seen).0, (second.1 (first.2 seen)).1 ∙ (first.1 seen).1),
  λ seen. second.2 (first.2 seen),
)

module _ {R W : Type 0} (taken known : R → List ℕ) (saw_end knows_end : R → Bool) (read_woken : R → Type 0) (read_fails : R → Context → PipeError → Type 0)
    (sent : W → List ℕ) (saw : W → Bool) (write_woken : W → Type 0) (write_fails : W → Context → PipeError → Type 0) where
  copies_then : (r0 r1 r2 : R) (w0 w1 w2 : W) → CopiesOn taken known saw_end knows_end read_woken read_fails sent saw write_woken write_fails r0 w0 r1 w1
      → CopiesOn taken known saw_end knows_end read_woken read_fails sent saw write_woken write_fails r1 w1 r2 w2 → CopiesOn taken known saw_end knows_end read_woken read_fails sent saw write_woken write_fails r0 w0 r2 w2
  copies_then r0 r1 r2 w0 w1 w2 first second = (
    carries_on (taken r0) (taken r1) (taken r2) (sent w0) (sent w1) (sent w2) (saw w0) (saw w1) (saw w2) first.0 second.0,
    reader_stays knows_end read_woken r0 r1 r2 first.1 second.1,
    λ woken. second.2 (first.2 woken),
  )

  -- what may be given after a poll may be given before it
  pub copied_then : (r0 r1 : R) (w0 w1 : W) → CopiesOn taken known saw_end knows_end read_woken read_fails sent saw write_woken write_fails r0 w0 r1 w1 → (output : Result (R × W × Copied) (Failed (R × W)))
      → CopiedAll taken known saw_end knows_end read_woken read_fails sent saw write_woken write_fails r1 w1 output → CopiedAll taken known saw_end knows_end read_woken read_fails sent saw write_woken write_fails r0 w0 output
  copied_then r0 r1 w0 w1 first (Ok done) gave = (copies_then r0 r1 done.0 w0 w1 done.1 first gave.0, gave.1)
  copied_then r0 r1 w0 w1 first (Err failed) gave = (copies_then r0 r1 failed.left.0 w0 w1 failed.left.1 first gave.0, gave.1)

-- the error of this poll is the reader's own, or the writer's
pub fails_either : {R W : Type 0} (read_fails : R → Context → PipeError → Type 0) (write_fails : W → Context → PipeError → Type 0) (r0 r1 : R) (w0 w1 : W) (cx : Context) (e : PipeError)
    → r0 ≡ r1 → w0 ≡ w1 → read_fails r0 cx e ⊎ write_fails w0 cx e → FailsOnce read_fails r1 e ⊎ FailsOnce write_fails w1 e
fails_either read_fails write_fails r0 r1 w0 w1 cx e read written (inl own) = inl (cx, subst (λ r. read_fails r cx e) read own)
fails_either read_fails write_fails r0 r1 w0 w1 cx e read written (inr own) = inr (cx, subst (λ w. write_fails w cx e) written own)
