-- What clauses see of a reader and a writer: their handles, and what a reader shows between two
-- calls of `tokio`.
use Rattle.std.specs.Prelude.{◌≡◌, ℕ, ◌==◌, List, [], length, take, not, Result, Ok, Err}
use Rattle.futures.specs.Poll.{OnPending}
use Rattle.futures.specs.declared.task.context.Context.{Context}
use Rattle.futures.specs.declared.task.Poll.{Poll}
use Rattle.futures.specs.declared.task.Poll.TheVariants.{Ready, Pending}
use Rattle.piper_protocol.specs.declared.answer.Answer.{Answer}
use Rattle.piper_protocol.specs.declared.answer.Answer.TheVariants as answers
use Rattle.piper_protocol.specs.declared.answer.Polled.TheVariants as polled
use Rattle.piper_protocol.specs.declared.table.Purpose.TheVariants as purpose
use Rattle.piper.specs.Handles.{SameReader}
use Rattle.piper.specs.Looks.{OnRefused}
use Rattle.piper.specs.OfReader.{front, known}
use Rattle.piper.specs.Polls.{OnReadyOk}
use Rattle.piper.specs.ReaderCalls.{AtEnd, Looks, PollsEnd}
use Rattle.piper.specs.Runs.{ReaderRan, reader_looks}
use Rattle.piper.specs.SlotsView.{OnlyWaits}
use Rattle.piper.specs.Waits.{ReaderIsRefused, ReaderPends}
use Rattle.piper.specs.declared.handles.Reader.{Reader}
use Rattle.piper.specs.declared.handles.Writer.{Writer}
use Rattle.piper_tokio.specs.declared.halves.CompatReader.{CompatReader}
use Rattle.piper_tokio.specs.declared.halves.CompatWriter.{CompatWriter}

-- the handles
abbrev pub handle_of : CompatReader → Reader
handle_of compat = compat.reader

abbrev pub writing : CompatWriter → Writer
writing compat = compat.writer

-- the front of the known bytes, as much of it as `buffer` shows
abbrev pub shown_by : CompatReader → List ℕ
shown_by compat = take compat.shown (known compat.reader)

-- it shows all known bytes that are contiguous; and none only at the end
pub record ShowsFront (compat : CompatReader) : Type 0 where
  pub all : shown_by compat ≡ take (front compat.reader) (known compat.reader)
  pub end : length (shown_by compat) ≡ 0 → AtEnd compat.reader

-- what a poll returns that shows so many bytes: none only at the end
abbrev pub shown_answer : {A E : Type 0} → Poll (Result A E) → ℕ → Answer
shown_answer (Ready (Ok x)) n = answers.Poll (polled.Ready (not (n == 0)))
shown_answer (Ready (Err e)) n = answers.Poll polled.Memory
shown_answer Pending n = answers.Poll polled.Pending

-- a poll that shows is one poll of the handle: one that is pending waits, and one that is refused
-- memory was so only for its waker
pub record PollsShown {A E : Type 0} (r : Poll (Result A E)) (a b : CompatReader)
    (old left : Context) : Type 0 where
  pub looked : Looks a.reader b.reader
  pub shown : OnReadyOk r (ShowsFront b)
  pub end : PollsEnd r a.reader b.reader
  pub pending : OnPending r (ReaderPends a.reader b.reader old left)
  pub memory : OnRefused r (ReaderIsRefused b.reader old left × (known b.reader ≡ []))
  pub rest : SameReader OnlyWaits a.reader b.reader
  pub ran : ReaderRan (reader_looks a.reader purpose.Poll)
      (shown_answer r (length (shown_by b))) a.reader b.reader
