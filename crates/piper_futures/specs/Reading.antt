-- What a future that reads gives.
use Rattle.std.specs.Prelude.{◌≡◌, ℕ, ◌+◌, ◌<◌, ◌≤◌, vec_capacity, Bool, List, length, Option, Some, IsSomeAnd, Result, Ok, Err, Vec}
use Rattle.std.specs.declared.alloc.Global.{Global}
use Rattle.futures.specs.declared.task.context.Context.{Context}
use Rattle.piper.specs.declared.error.PipeError.{PipeError}
use Rattle.futures.specs.declared.task.Poll.TheVariants.{Ready}
use Rattle.piper.specs.Polls.{Reads}
use Rattle.piper_lines.specs.AtEnd.{AtEnd}
use Rattle.piper_lines.specs.Moves.{Grows}
use Rattle.piper_lines.specs.Refusals.{IsReported, LacksRoom}
use Rattle.piper_lines.specs.Stays.{ReaderStays}
use Rattle.piper_futures.specs.Writing.{FailsOnce}
use Rattle.piper_futures.specs.declared.failed.Failed.{Failed}
use Rattle.piper_futures.specs.declared.read_all.ReadToEnd.{ReadToEnd}
use Rattle.piper_futures.specs.declared.read_some.ReadOnce.{ReadOnce}
use Rattle.piper_futures.specs.declared.read_up_to.ReadExact.{ReadExact}

-- it is about to read from the reader to these places
abbrev pub StartsReading : {R : Type 0} → ReadOnce R → R → Vec ℕ Global → Type 0
StartsReading future reader places = future.state ≡ Some (reader, places)

-- it is about to read from the reader to the end of these bytes, until there are `size` of them
abbrev pub StartsReadingUpTo : {R : Type 0} → ReadExact R → R → Vec ℕ Global → ℕ → Type 0
StartsReadingUpTo future reader bytes size =
    (future.state ≡ Some (reader, bytes)) × (future.size ≡ size)

-- it is about to read from the reader to the end of these bytes, up to the reader's end
abbrev pub StartsReadingAll : {R : Type 0} → ReadToEnd R → R → Vec ℕ Global → Type 0
StartsReadingAll future reader bytes = future.state ≡ Some (reader, bytes)

-- more bytes are known than there are in what came, and the memory that there was at first has no
-- room for all of them
abbrev pub LacksSpace : ℕ → List ℕ → List ℕ → Type 0
LacksSpace room came known = (0 < length known) × (room < length came + length known)

module _ {R : Type 0} (taken known : R → List ℕ) (saw knows_end : R → Bool) (woken : R → Type 0) where
  -- what the reader gave between two of its states is at the end of the bytes, and what it has told
  -- and whom it has woken stays so
  abbrev pub ReadsOn : R → List ℕ → R → List ℕ → Type 0
  ReadsOn r0 b0 r1 b1 = Grows (taken r0) (taken r1) b0 b1 × ReaderStays knows_end woken r0 r1

  -- all came, up to the end; or the reader failed, or memory was refused for what is known
  abbrev pub ReadAll : (R → Context → PipeError → Type 0) → R → Vec ℕ Global
      → Result (R × Vec ℕ Global) (Failed (R × Vec ℕ Global)) → Type 0
  ReadAll fails r bytes (Ok done) =
      ReadsOn r bytes.items done.0 done.1.items × AtEnd (known done.0) (saw done.0)
  ReadAll fails r bytes (Err failed) =
      ReadsOn r bytes.items failed.left.0 failed.left.1.items
      × IsReported failed.error (FailsOnce fails failed.left.0)
      (LacksSpace (vec_capacity bytes) failed.left.1.items (known failed.left.0))

  -- as many came as were asked for, or all up to the end; or it failed as above
  abbrev pub ReadUpTo : ℕ → (R → Context → PipeError → Type 0) → R → Vec ℕ Global
      → Result (R × Vec ℕ Global) (Failed (R × Vec ℕ Global)) → Type 0
  ReadUpTo size fails r bytes (Ok done) =
      ReadsOn r bytes.items done.0 done.1.items × (length done.1.items ≤ size)
      × (length done.1.items < size → AtEnd (known done.0) (saw done.0))
  ReadUpTo size fails r bytes (Err failed) =
      ReadsOn r bytes.items failed.left.0 failed.left.1.items
      × (length failed.left.1.items ≤ size)
      × IsReported failed.error (FailsOnce fails failed.left.0)
      (LacksRoom size (vec_capacity bytes) failed.left.1.items (known failed.left.0))

-- the reader that a future holds, with the bytes that came
abbrev pub once_ends : {R : Type 0} → ReadOnce R → Option (R × Vec ℕ Global)
once_ends future = future.state

abbrev pub exact_ends : {R : Type 0} → ReadExact R → Option (R × Vec ℕ Global)
exact_ends future = future.state

abbrev pub all_ends : {R : Type 0} → ReadToEnd R → Option (R × Vec ℕ Global)
all_ends future = future.state

-- no more bytes came than are wanted
abbrev pub WantsMore : {R : Type 0} → ReadExact R → Type 0
WantsMore future = IsSomeAnd future.state (λ state. length state.1.items ≤ future.size)

-- and some of those that are wanted are lacking
abbrev pub LacksSome : {R : Type 0} → ReadExact R → Type 0
LacksSome future = IsSomeAnd future.state (λ state. length state.1.items < future.size)

-- what a future may give, of the reader that it holds
module _ {R : Type 0} (taken known : R → List ℕ) (saw knows_end : R → Bool) (woken : R → Type 0)
    (fails : R → Context → PipeError → Type 0) where
  abbrev pub GivesAll : ReadToEnd R → Result (R × Vec ℕ Global) (Failed (R × Vec ℕ Global)) → Type 0
  GivesAll future output = IsSomeAnd future.state (λ state.
      ReadAll taken known saw knows_end woken fails state.0 state.1 output)

  abbrev pub GivesExact : ReadExact R → Result (R × Vec ℕ Global) (Failed (R × Vec ℕ Global))
      → Type 0
  GivesExact future output = IsSomeAnd future.state (λ state.
      ReadUpTo taken known saw knows_end woken future.size fails state.0 state.1 output)

-- what was read at once is at the front of the places, and the rest of them stays; or the reader
-- failed, and gave nothing
module _ {R : Type 0} (taken : R → List ℕ) (saw knows_end : R → Bool) (woken : R → Type 0)
    (fails : R → Context → PipeError → Type 0) where
  abbrev pub ReadSome : R → List ℕ → Result (R × Vec ℕ Global × ℕ) (Failed (R × Vec ℕ Global))
      → Type 0
  ReadSome r places (Ok done) =
      Reads {E = PipeError} (Ready (Ok done.2)) places done.1.items
      (taken r) (taken done.0) (saw done.0)
      × ReaderStays knows_end woken r done.0
  ReadSome r places (Err failed) =
      (taken failed.left.0 ≡ taken r) × (failed.left.1.items ≡ places)
      × FailsOnce fails failed.left.0 failed.error × ReaderStays knows_end woken r failed.left.0

  abbrev pub GivesOnce : ReadOnce R → Result (R × Vec ℕ Global × ℕ) (Failed (R × Vec ℕ Global))
      → Type 0
  GivesOnce future output = IsSomeAnd future.state (λ state. ReadSome state.0 state.1.items output)
