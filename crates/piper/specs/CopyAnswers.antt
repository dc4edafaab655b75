-- What a copy of the handles returns.
use Rattle.std.specs.Prelude.{◌≡◌, ℕ, ◌+◌, ◌%◌, ◌^◌, List, [], length, Result, Ok, Err, ⊤}
use Rattle.futures.specs.declared.task.Poll.{Poll}
use Rattle.futures.specs.declared.task.Poll.TheVariants.{Ready, Pending}
use Rattle.piper.specs.Like.{Passes}
use Rattle.std.specs.declared.convert.Infallible.{Infallible}
use Rattle.std.specs.declared.io.Error.{Error}
use Rattle.piper_protocol.specs.declared.memory.OutOfMemory.{OutOfMemory}
use Rattle.piper.specs.declared.error.PipeError.{PipeError}
use Rattle.piper.specs.declared.error.PipeError.TheVariants as pipe
use Rattle.piper.specs.declared.error.CopyError.{CopyError}
use Rattle.piper.specs.declared.error.CopyError.TheVariants.{Memory, Like}

-- what a copy over a reader or a writer of std returns, as one over any source or destination
abbrev pub of_std : Poll (Result ℕ PipeError) → Poll (Result ℕ (CopyError Error))
of_std (Ready (Ok n)) = Ready (Ok n)
of_std (Ready (Err pipe.Memory)) = Ready (Err Memory)
of_std (Ready (Err (pipe.Io e))) = Ready (Err (Like e))
of_std Pending = Pending

-- and of a copy over a slice, which does not fail
abbrev pub of_bytes : Poll (Result ℕ OutOfMemory) → Poll (Result ℕ (CopyError Infallible))
of_bytes (Ready (Ok n)) = Ready (Ok n)
of_bytes (Ready (Err e)) = Ready (Err Memory)
of_bytes Pending = Pending

-- P holds if the copy was refused memory
abbrev pub OnMemory : {E : Type 0} → Poll (Result ℕ (CopyError E)) → Type 0 → Type 0
OnMemory (Ready (Ok n)) P = ⊤
OnMemory (Ready (Err Memory)) P = P
OnMemory (Ready (Err (Like e))) P = ⊤
OnMemory Pending P = ⊤

-- the copy did not wait: it returns a count, or that its source or destination failed
abbrev pub IsAtOnce : {E : Type 0} → Poll (Result ℕ (CopyError E)) → Type 0
IsAtOnce (Ready (Ok n)) = ⊤
IsAtOnce (Ready (Err Memory)) = ⊥
IsAtOnce (Ready (Err (Like e))) = ⊤
IsAtOnce Pending = ⊥

-- xs passed between two states of a source or destination. A count is that of xs; pending and want
-- of memory leave it as it was; and a failure is one of its own, after the bytes that passed
abbrev pub Copies : {S E : Type 0} → Passes S → (S → E → S → Type 0)
    → Poll (Result ℕ (CopyError E)) → S → S → List ℕ → Type 0
Copies passes fails (Ready (Ok n)) s t xs = passes s xs t × (length xs ≡ n)
Copies passes fails (Ready (Err Memory)) s t xs = (t ≡ s) × (xs ≡ [])
Copies {S} passes fails (Ready (Err (Like e))) s t xs =
    passes s xs t × ((u : S) × passes s xs u × fails u e t)
Copies passes fails Pending s t xs = (t ≡ s) × (xs ≡ [])

-- the count of failures differs exactly if a failure is returned
abbrev pub CountsFailure : {E : Type 0} → Poll (Result ℕ (CopyError E)) → ℕ → ℕ → Type 0
CountsFailure (Ready (Ok n)) old new = new ≡ old
CountsFailure (Ready (Err Memory)) old new = new ≡ old
CountsFailure (Ready (Err (Like e))) old new = new ≡ (old + 1) % 2 ^ 64
CountsFailure Pending old new = new ≡ old
