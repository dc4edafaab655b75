-- What a stream of lines has.
use Rattle.std.specs.Prelude.{◌≡◌, ℕ, ◌<◌, Bool, false, List, [], length, Option, Some, None, Ok, Err, ⊤}
use Rattle.futures.specs.Runs.{EndsIf}
use Rattle.futures.specs.declared.task.Poll.{Poll}
use Rattle.futures.specs.declared.task.Poll.TheVariants.{Ready, Pending}
use Rattle.futures.specs.declared.task.context.Context.{Context}
use Rattle.piper.specs.declared.error.PipeError.{PipeError}
use Rattle.piper_lines.specs.LineReader.{reader_of, end_of, kept_of, room_of}
use Rattle.piper_lines.specs.Refusals.{IsReported, LacksRoom}
use Rattle.piper_lines.specs.Stays.{WaitsForBytes}
use Rattle.piper_lines.specs.declared.line_reader.Lines.{Lines}
use Rattle.piper_lines.specs.AtEnd.{AtEnd}
use Rattle.piper_lines.specs.Line.{Lacks}
use Rattle.piper_lines.specs.Split.{IsPiece}
use Rattle.piper_futures.specs.PieceRuns.{Item, PieceRuns}
use Rattle.piper_futures.specs.Told.{IsOfReader}
use Rattle.piper_futures.specs.declared.line_stream.LineStream.{LineStream}

-- the lines below
abbrev pub lines_of : {R : Type 0} → LineStream R → Lines R
lines_of stream = stream.lines

-- the most bytes of a piece
abbrev pub limit_of : {R : Type 0} → LineStream R → ℕ
limit_of stream = stream.limit

-- the end was reported
abbrev pub ended_of : {R : Type 0} → LineStream R → Bool
ended_of stream = stream.is_ended

-- an item after which more may come: a piece, or an error of the reader's
abbrev pub LineGoes : {R : Type 0} → (R → Context → PipeError → Type 0) → ℕ → ℕ → Item → Type 0
LineGoes fails end limit (Ok line) = IsPiece end limit line.items
LineGoes fails end limit (Err e) = IsOfReader fails e

-- the last one: what follows the last line
abbrev pub LineCloses : ℕ → List ℕ → List ℕ → Bool → Item → Type 0
LineCloses end left known saw (Ok line) =
    Lacks end line.items × (0 < length line.items) × (left ≡ []) × AtEnd known saw
LineCloses end left known saw (Err e) = ⊥

-- what may come from it
abbrev pub YieldsLines : {R : Type 0} → (R → List ℕ) → (R → List ℕ) → (R → Bool)
    → (R → Context → PipeError → Type 0) → LineStream R → List Item → Option Item → Type 0
YieldsLines taken known saw fails stream =
    EndsIf stream.is_ended (PieceRuns (LineGoes fails (end_of stream.lines) stream.limit)
    (LineCloses (end_of stream.lines)) taken known saw (λ line. line)
    (reader_of stream.lines) (kept_of stream.lines))

-- why a poll failed: the reader did, or memory was refused, and the stream goes on; and why one is
-- pending: the reader has nothing to give yet
module _ {R : Type 0} (known : R → List ℕ) (knows_end : R → Bool)
    (fails : R → Context → PipeError → Type 0) (waits : R → Context → Type 0) where
  abbrev pub TellsLine : Poll (Option Item) → LineStream R → LineStream R → Context → Type 0
  TellsLine (Ready None) a b cx = ⊤
  TellsLine (Ready (Some (Ok line))) a b cx = ⊤
  TellsLine (Ready (Some (Err e))) a b cx =
      (ended_of b ≡ false) × IsReported e (fails (reader_of (lines_of b)) cx)
      (LacksRoom (limit_of a) (room_of (lines_of a)) (kept_of (lines_of b))
      (known (reader_of (lines_of b))))
  TellsLine Pending a b cx =
      WaitsForBytes known knows_end waits (reader_of (lines_of b)) cx
