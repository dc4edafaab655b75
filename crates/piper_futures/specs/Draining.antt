-- What a drain into a writer of std gives.
use Rattle.std.specs.Prelude.{◌≡◌, ◌<◌, ◌⊎◌, ℕ, Bool, List, ◌++◌, length, Option, Some, IsSomeAnd, Result, Ok, Err}
use Rattle.std.specs.Io.KnownBytes.{Appends}
use Rattle.futures.specs.declared.task.context.Context.{Context}
use Rattle.piper.specs.declared.error.PipeError.{PipeError}
use Rattle.piper_lines.specs.AtEnd.{AtEnd}
use Rattle.piper_lines.specs.Stays.{ReaderStays}
use Rattle.piper_futures.specs.Moving.{IsOfWrite}
use Rattle.piper_futures.specs.Writing.{FailsOnce}
use Rattle.piper_futures.specs.declared.failed.Failed.{Failed}
use Rattle.piper_futures.specs.declared.drain.Draining.{Draining}

-- it is about to move from the reader to the writer of std
abbrev pub StartsDraining : {R D : Type 0} → Draining R D → R → D → Type 0
StartsDraining future reader dest = future.state ≡ Some (reader, dest)

-- the reader and the writer of std that the future holds
abbrev pub drain_ends : {R D : Type 0} → Draining R D → Option (R × D)
drain_ends future = future.state

-- what was taken since was written, in order
abbrev pub DrainsOn : List ℕ → List ℕ → Option (List ℕ) → Option (List ℕ) → Type 0
DrainsOn taken_before taken_after held_before held_after =
    (moved : List ℕ) × (taken_after ≡ taken_before ++ moved) × Appends held_before held_after moved

module _ {R D : Type 0} (taken known : R → List ℕ) (saw knows_end : R → Bool) (woken : R → Type 0)
    (fails : R → Context → PipeError → Type 0) (contents : D → Option (List ℕ)) where
  -- all was moved, up to the end; or the reader failed, or the writer of std, of bytes that were
  -- there to write
  abbrev pub DrainedAll : R → D → Result (R × D) (Failed (R × D)) → Type 0
  DrainedAll r d (Ok done) =
      DrainsOn (taken r) (taken done.0) (contents d) (contents done.1)
      × AtEnd (known done.0) (saw done.0) × ReaderStays knows_end woken r done.0
  DrainedAll r d (Err failed) =
      DrainsOn (taken r) (taken failed.left.0) (contents d) (contents failed.left.1)
      × (FailsOnce fails failed.left.0 failed.error
      ⊎ (IsOfWrite failed.error × (0 < length (known failed.left.0))))
      × ReaderStays knows_end woken r failed.left.0

  -- what the future may give, of the ends that it holds
  abbrev pub GivesDrained : Draining R D → Result (R × D) (Failed (R × D)) → Type 0
  GivesDrained future output = IsSomeAnd future.state (λ state. DrainedAll state.0 state.1 output)
