-- Errors of one poll.
use Rattle.std.proofs.Common.{◌≡◌, ◌<◌, ◌⊎◌, inl, inr, subst, List, ℕ, length}
use Rattle.futures.specs.declared.task.context.Context.{Context}
use Rattle.piper.specs.declared.error.PipeError.{PipeError}
use Rattle.piper_futures.specs.Moving.{IsIo, IsOfWrite}
use Rattle.piper_futures.specs.Writing.{FailsOnce}

-- the error of this poll is the end's own, or came from std, for bytes that were there
pub fails_while : {E : Type 0} (fails : E → Context → PipeError → Type 0) (known : E → List ℕ) (e0 e1 : E) (cx : Context) (e : PipeError) → e0 ≡ e1
    → fails e0 cx e ⊎ (IsOfWrite e × (0 < length (known e0))) → FailsOnce fails e1 e ⊎ (IsOfWrite e × (0 < length (known e1)))
fails_while fails known e0 e1 cx e same (inl own) = inl (cx, subst (λ end. fails end cx e) same own)
fails_while fails known e0 e1 cx e same (inr io) = inr (io.0, subst (λ end. 0 < length (known end)) same io.1)

-- the same of a reader
pub fails_once : {E : Type 0} (fails : E → Context → PipeError → Type 0) (e0 e1 : E) (cx : Context) (e : PipeError) → e0 ≡ e1 → fails e0 cx e ⊎ IsIo e
    → FailsOnce fails e1 e ⊎ IsIo e
fails_once fails e0 e1 cx e same (inl own) = inl (cx, subst (λ end. fails end cx e) same own)
fails_once fails e0 e1 cx e same (inr io) = inr io
