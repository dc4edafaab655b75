-- What a read through a delimiter gives.
use Rattle.std.specs.Prelude.{◌≡◌, ◌≢◌, ◌⊎◌, ℕ, Bool, true, false, vec_capacity, List, [], ◌∷◌, ◌++◌, All, Option, Some, IsSomeAnd, Result, Ok, Err, Vec}
use Rattle.std.specs.declared.alloc.Global.{Global}
use Rattle.futures.specs.declared.task.context.Context.{Context}
use Rattle.futures.specs.declared.task.Poll.{Poll}
use Rattle.futures.specs.declared.task.Poll.TheVariants.{Ready, Pending}
use Rattle.piper.specs.declared.error.PipeError.{PipeError}
use Rattle.piper_lines.specs.AtEnd.{AtEnd}
use Rattle.piper_lines.specs.Refusals.{IsReported}
use Rattle.piper_lines.specs.Stays.{ReaderStays}
use Rattle.piper_futures.specs.Reading.{LacksSpace}
use Rattle.piper_futures.specs.Writing.{FailsOnce}
use Rattle.piper_futures.specs.declared.failed.Failed.{Failed}
use Rattle.piper_futures.specs.declared.read_through.ReadUntil.{ReadUntil}

-- it is about to read from the reader to the end of these bytes, through the delimiter
abbrev pub StartsReadingThrough : {R : Type 0} → ReadUntil R → R → ℕ → Vec ℕ Global → Type 0
StartsReadingThrough future reader byte bytes =
    (future.state ≡ Some (reader, bytes)) × (future.byte ≡ byte)

-- the reader that the future holds, with the bytes that came
abbrev pub until_ends : {R : Type 0} → ReadUntil R → Option (R × Vec ℕ Global)
until_ends future = future.state

-- none of the bytes is the delimiter
abbrev pub Lacks : ℕ → List ℕ → Type 0
Lacks byte bytes = All (λ b. b ≢ byte) bytes

-- the last of the bytes is the delimiter, and no other is
abbrev pub IsThrough : ℕ → List ℕ → Type 0
IsThrough byte bytes = (front : List ℕ) × Lacks byte front × (bytes ≡ front ++ byte ∷ [])

-- what was taken since is at the end of the bytes, and P holds of it
abbrev pub GrowsBy : List ℕ → List ℕ → List ℕ → List ℕ → (List ℕ → Type 0) → Type 0
GrowsBy taken_before taken_after before after P =
    (more : List ℕ) × (taken_after ≡ taken_before ++ more) × (after ≡ before ++ more) × P more

-- by the answer: what was taken since
abbrev pub Reached : {E : Type 0} → Poll (Result Bool E) → ℕ → List ℕ → Bool → List ℕ → Type 0
Reached (Ready (Ok true)) byte known saw more = IsThrough byte more
Reached (Ready (Ok false)) byte known saw more = Lacks byte more × AtEnd known saw
Reached (Ready (Err e)) byte known saw more = Lacks byte more
Reached Pending byte known saw more = Lacks byte more

abbrev pub Reaches : {E : Type 0} → Poll (Result Bool E) → ℕ
    → List ℕ → List ℕ → List ℕ → List ℕ → List ℕ → Bool → Type 0
Reaches answer byte taken_before taken_after before after known saw =
    GrowsBy taken_before taken_after before after (Reached answer byte known saw)

-- the bytes that came are those through the first delimiter, or all up to the end;
-- or the reader failed, or memory was refused for what is known
module _ {R : Type 0} (taken known : R → List ℕ) (saw knows_end : R → Bool) (woken : R → Type 0)
    (fails : R → Context → PipeError → Type 0) where
  abbrev pub ReadThrough : ℕ → R → Vec ℕ Global
      → Result (R × Vec ℕ Global) (Failed (R × Vec ℕ Global)) → Type 0
  ReadThrough byte r bytes (Ok done) =
      GrowsBy (taken r) (taken done.0) bytes.items done.1.items (λ more.
      IsThrough byte more ⊎ (Lacks byte more × AtEnd (known done.0) (saw done.0)))
      × ReaderStays knows_end woken r done.0
  ReadThrough byte r bytes (Err failed) =
      GrowsBy (taken r) (taken failed.left.0) bytes.items failed.left.1.items (Lacks byte)
      × IsReported failed.error (FailsOnce fails failed.left.0)
      (LacksSpace (vec_capacity bytes) failed.left.1.items (known failed.left.0))
      × ReaderStays knows_end woken r failed.left.0

  -- what the future may give, of the reader that it holds
  abbrev pub GivesThrough : ReadUntil R → Result (R × Vec ℕ Global) (Failed (R × Vec ℕ Global))
      → Type 0
  GivesThrough future output = IsSomeAnd future.state (λ state.
      ReadThrough future.byte state.0 state.1 output)
