-- The client of an echo: what it sends of its input, and what it prints of what comes back.
use Rattle.std.specs.Prelude.{◌≡◌, ◌⊎◌, ◌+◌, ℕ, Bool, true, false, List, [], ◌++◌, length, Option, Result, IfOk}
use Rattle.std.specs.Io.KnownBytes.{Appends, Consumes, IsAtEnd}
use Rattle.std.specs.IoError.{error_kind}
use Rattle.std.specs.declared.io.Error.{Error}
use Rattle.std.specs.declared.io.ErrorKind.TheVariants.{Interrupted}
use Rattle.futures.specs.declared.task.context.Context.{Context}
use Rattle.piper.specs.Contexts.{AsksAgain}
use Rattle.piper_lines.specs.Stays.{WentOn}
use Rattle.piper_lines.specs.Line.{IsLine, Lacks, line_feed}
use Rattle.piper_lines.specs.Sends.{Sends}

-- the next bytes of a line: through the first LF, or up to where the line is full, and then the
-- line is whole; or before either
abbrev pub IsOfLine : Bool → Type 0 → List ℕ → Type 0
IsOfLine true IsFull bytes = IsLine line_feed bytes ⊎ (Lacks line_feed bytes × IsFull)
IsOfLine false IsFull bytes = Lacks line_feed bytes

-- what was printed is what was taken, in order
pub record Prints (taken_before taken_after : List ℕ)
    (output_before output_after : Option (List ℕ)) : Type 0 where
  pub bytes : List ℕ
  pub taken : taken_after ≡ taken_before ++ bytes
  pub printed : Appends output_before output_after bytes

-- what was sent is what the input gave, in order, but for what is left, and all of it unless the
-- pipe was seen closed; an answer `Ok n` says that none is left, and that all but n bytes came back
pub record SendsOn {E : Type 0} (answer : Result ℕ E) (input_before input_after : Option (List ℕ))
    (sent_before sent_after : List ℕ) (saw_before saw_after : Bool)
    (taken_before taken_after : List ℕ) : Type 0 where
  pub given : List ℕ
  pub left : List ℕ
  pub read : Consumes input_before input_after given
  pub sent : Sends given left sent_before sent_after saw_before saw_after
  pub all : IfOk answer (λ n. (left ≡ [])
      × (length taken_before + length given ≡ length taken_after + n))

-- the input gave all that it had, and as many bytes were printed
pub record CameBack (input_before input_after output_before output_after : Option (List ℕ))
    : Type 0 where
  pub given : List ℕ
  pub printed : List ℕ
  pub read : Consumes input_before input_after given
  pub ended : IsAtEnd input_after
  pub written : Appends output_before output_after printed
  pub all : length printed ≡ length given

-- a write was interrupted, and left this so
abbrev pub WasInterrupted : {S : Type 0} → (S → Error → S → Type 0) → S → Type 0
WasInterrupted {S} fails after =
    (before : S) × (e : Error) × fails before e after × (error_kind e ≡ Interrupted)

-- why a turn is pending that prints: its reader is; or bytes were printed or a write was interrupted,
-- and it asked for another turn itself
abbrev pub PrintPends : Type 0 → Type 0 → ℕ → ℕ → Context → Type 0
PrintPends reader_waits interrupted before after cx =
    reader_waits ⊎ ((WentOn before after ⊎ interrupted) × AsksAgain cx)
