-- Rounds of a copy are never pending, and want no memory.
use Rattle.std.proofs.Common.{◌≡◌, ◌↔◌, ℕ, Bool, true, false, true≢false, Result, Ok, Err, sym, ◌∙◌}
use Rattle.futures.specs.Poll.{OnPending}
use Rattle.futures.specs.declared.task.Poll.{Poll}
use Rattle.futures.specs.declared.task.Poll.TheVariants.{Ready, Pending}
use Rattle.rand_pcg.specs.Lcg.{Lcg}
use Rattle.piper.specs.CopyAnswers.{IsAtOnce, OnMemory}
use Rattle.piper.specs.Draws.{Draws, DrawsYield, IsPending, drawn_from}
use Rattle.piper.specs.declared.error.CopyError.{CopyError}
use Rattle.piper.specs.declared.error.CopyError.TheVariants.{Memory, Like}

never_pending : {E : Type 0} (r : Poll (Result ℕ (CopyError E))) → IsAtOnce r → IsPending r → ⊥
never_pending (Ready x) once never = never
never_pending Pending once never = once

pub once_pending : {E : Type 0} (P : Type 0) (r : Poll (Result ℕ (CopyError E))) → IsAtOnce r → OnPending r P
once_pending P (Ready x) once = tt
once_pending P Pending once = absurd once

pub once_granted : {E : Type 0} (P : Type 0) (r : Poll (Result ℕ (CopyError E))) → IsAtOnce r → OnMemory r P
once_granted P (Ready (Ok n)) once = tt
once_granted P (Ready (Err Memory)) once = absurd once
once_granted P (Ready (Err (Like e))) once = tt
once_granted P Pending once = absurd once

-- they come after a draw that is no yield
pub once_drawn : {E : Type 0} (r : Poll (Result ℕ (CopyError E))) (found : Type 0) (is_drawn : Bool) (old mid new : Lcg)
    → IsAtOnce r → found → mid ≡ old → new ≡ drawn_from mid → (is_drawn ≡ true ↔ DrawsYield mid) → is_drawn ≡ false
    → Draws found r old new
once_drawn r found is_drawn old mid new once some same drawn yields undrawn = record {
  word = λ _. rw same at drawn;
  yields = λ _. (λ pending. absurd (never_pending r once pending), λ yield. absurd (true≢false (sym ((rw same at yields).1 yield) ∙ undrawn)));
  none = λ never. absurd (never some);
}
