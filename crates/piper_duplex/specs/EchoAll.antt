-- What the echo of all lines gives.
use Rattle.std.specs.Prelude.{◌≡◌, ℕ, ◌<◌, ◌⊎◌, Bool, true, List, [], ◌++◌, length, Result, Ok, Err}
use Rattle.futures.specs.declared.task.context.Context.{Context}
use Rattle.piper.specs.declared.error.PipeError.{PipeError}
use Rattle.piper_lines.specs.AtEnd.{AtEnd}
use Rattle.piper_lines.specs.LineReader.{LinesAreSpent, kept_of, reader_of}
use Rattle.piper_lines.specs.Moves.{Moves}
use Rattle.piper_lines.specs.Refusals.{IsReported, LacksRoom}
use Rattle.piper_lines.specs.Sends.{Sends}
use Rattle.piper_lines.specs.declared.line_reader.Lines.{Lines}
use Rattle.piper_duplex.specs.Echoes.{left_of}
use Rattle.piper_duplex.specs.declared.engine.echoing.Echoed.{Echoed}
use Rattle.piper_duplex.specs.declared.engine.echoing.Echoed.TheVariants.{ToTheEnd, UntilClosed}
use Rattle.piper_duplex.specs.declared.engine.waiting.EchoAll.{EchoAll}

-- what was left before was sent, and then what was taken since, in order, but for what is left now
-- and for what is kept of a line that has not come to its end
pub record Returns (taken_before taken_after kept_before kept_after left_before left_after : List ℕ)
    (sent_before sent_after : List ℕ) (saw_before saw_after : Bool) : Type 0 where
  pub bytes : List ℕ
  pub moved : Moves taken_before taken_after kept_before bytes kept_after
  pub sent : Sends (left_before ++ bytes) left_after sent_before sent_after saw_before saw_after
  pub stays : saw_before ≡ true → saw_after ≡ true

module _ {R W : Type 0} (taken known : R → List ℕ) (saw_end : R → Bool) (ended : R → Type 0)
    (read_fails : R → Context → PipeError → Type 0)
    (sent : W → List ℕ) (saw : W → Bool) (write_fails : W → Context → PipeError → Type 0) where
  -- why it ended, with these lines, this writer, and these bytes left
  abbrev pub EndsEcho : Result Echoed PipeError → Lines R → W → List ℕ → Type 0
  EndsEcho (Ok ToTheEnd) lines writer left =
      (left ≡ []) × AtEnd (known (reader_of lines)) (saw_end (reader_of lines))
      × LinesAreSpent ended lines
  EndsEcho (Ok UntilClosed) lines writer left = (saw writer ≡ true) × (0 < length left)
  EndsEcho (Err e) lines writer left =
      (cx : Context) × (write_fails writer cx e
      ⊎ IsReported e (read_fails (reader_of lines) cx)
      (LacksRoom 65_536 0 (kept_of lines) (known (reader_of lines))))

  -- what the echo may give: by then it had returned what it took, and ended so
  pub record EchoesAll (echo : EchoAll R W) (answer : Result Echoed PipeError) : Type 0 where
    pub lines : Lines R
    pub writer : W
    pub left : List ℕ
    pub returns : Returns (taken (reader_of echo.lines)) (taken (reader_of lines))
        (kept_of echo.lines) (kept_of lines) (left_of echo.echo) left
        (sent echo.writer) (sent writer) (saw echo.writer) (saw writer)
    pub ends : EndsEcho answer lines writer left
