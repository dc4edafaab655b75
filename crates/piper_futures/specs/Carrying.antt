-- What a copy gives.
use Rattle.std.specs.Prelude.{◌≡◌, ℕ, ◌⊎◌, Bool, true, List, Option, Some, IsSomeAnd, Result, Ok, Err}
use Rattle.futures.specs.declared.task.context.Context.{Context}
use Rattle.piper.specs.Polls.{Carries, CopyPends}
use Rattle.piper.specs.declared.error.PipeError.{PipeError}
use Rattle.piper.specs.declared.io.copy.Copied.{Copied}
use Rattle.piper.specs.declared.io.copy.Copied.TheVariants.{ToTheEnd, UntilClosed}
use Rattle.piper_lines.specs.AtEnd.{AtEnd}
use Rattle.piper_lines.specs.Stays.{ReaderStays}
use Rattle.piper_futures.specs.Writing.{FailsOnce}
use Rattle.piper_futures.specs.declared.failed.Failed.{Failed}
use Rattle.piper_futures.specs.declared.copy_across.Copying.{Copying}

-- it is about to copy from the reader to the writer
abbrev pub StartsCopy : {R W : Type 0} → Copying R W → R → W → Type 0
StartsCopy future reader writer = future.state ≡ Some (reader, writer)

-- bytes that were carried across: of a pipe that was seen closed before, none
abbrev pub CarriesOn : List ℕ → List ℕ → List ℕ → List ℕ → Bool → Bool → Type 0
CarriesOn taken_before taken_after sent_before sent_after saw_before saw_after =
    Carries taken_before taken_after sent_before sent_after saw_after
    × (saw_before ≡ true → (taken_after ≡ taken_before) × (sent_after ≡ sent_before))
    × (saw_before ≡ true → saw_after ≡ true)

-- the reader and the writer that the future holds
abbrev pub copy_ends : {R W : Type 0} → Copying R W → Option (R × W)
copy_ends future = future.state

-- why a copy is pending, of the ends that the future holds: one of them is, or 64 pieces were
-- carried
abbrev pub CopyWaits : {R W : Type 0} → (R → List ℕ) → (R → Context → Type 0)
    → (W → Context → Type 0) → Option (R × W) → Option (R × W) → Context → Type 0
CopyWaits taken read_waits write_waits old new cx =
    IsSomeAnd old (λ a. IsSomeAnd new (λ b.
    CopyPends (read_waits b.0 cx) (write_waits b.1 cx) (taken a.0) (taken b.0) cx))

module _ {R W : Type 0} (taken known : R → List ℕ) (saw_end knows_end : R → Bool)
    (read_woken : R → Type 0) (read_fails : R → Context → PipeError → Type 0)
    (sent : W → List ℕ) (saw : W → Bool) (write_woken : W → Type 0)
    (write_fails : W → Context → PipeError → Type 0) where
  -- why it ended holds of the ends that come back
  abbrev pub Ended : R → W → Copied → Type 0
  Ended r w ToTheEnd = AtEnd (known r) (saw_end r)
  Ended r w UntilClosed = saw w ≡ true

  -- from some ends to others: bytes were carried across, the reader was told of no more, and
  -- whoever was woken stays so
  abbrev pub CopiesOn : R → W → R → W → Type 0
  CopiesOn r w s v =
      CarriesOn (taken r) (taken s) (sent w) (sent v) (saw w) (saw v)
      × ReaderStays knows_end read_woken r s × (write_woken w → write_woken v)

  -- all was carried across; or the reader failed, or the writer
  abbrev pub CopiedAll : R → W → Result (R × W × Copied) (Failed (R × W)) → Type 0
  CopiedAll r w (Ok done) = CopiesOn r w done.0 done.1 × Ended done.0 done.1 done.2
  CopiedAll r w (Err failed) =
      CopiesOn r w failed.left.0 failed.left.1
      × (FailsOnce read_fails failed.left.0 failed.error
      ⊎ FailsOnce write_fails failed.left.1 failed.error)

  -- what the future may give, of the ends that it holds
  abbrev pub GivesCopied : Copying R W → Result (R × W × Copied) (Failed (R × W)) → Type 0
  GivesCopied future output = IsSomeAnd future.state (λ state. CopiedAll state.0 state.1 output)
