-- What the calls of the traits say of a handle, besides what the traits say. A `&mut` to the handle
-- and an end of two pipes say the same, by their rows.
use Rattle.std.specs.Prelude.{◌≡◌, ℕ, false, Result, Ok, Err}
use Rattle.futures.specs.declared.task.context.Context.{Context}
use Rattle.futures.specs.declared.task.Poll.{Poll}
use Rattle.futures.specs.declared.task.Poll.TheVariants.{Ready, Pending}
use Rattle.piper_ring.specs.SlotsView.{WaitsAsBefore}
use Rattle.piper.specs.Called.{CallsTaken, TakesOwn, WasCalled}
use Rattle.piper.specs.Handles.{NotifiesReader, NotifiesWriter, SameReader}
use Rattle.piper.specs.ReaderCalls.{AtEnd}
use Rattle.piper.specs.Polls.{Done}
use Rattle.piper.specs.Runs.{CloseRan, ConsumeRan}
use Rattle.piper.specs.Waits.{WriterLeavesNone}
use Rattle.piper.specs.WriterCalls.{SameWriterButShut}
use Rattle.piper.specs.declared.error.PipeError.{PipeError}
use Rattle.piper.specs.declared.error.PipeError.TheVariants.{Memory}
use Rattle.piper.specs.declared.handles.Reader.{Reader}
use Rattle.piper.specs.declared.handles.Writer.{Writer}

-- what a poll of a handle returns, as the traits do: want of memory is one of their errors
abbrev pub as_pipe : {A E : Type 0} → Poll (Result A E) → Poll (Result A PipeError)
as_pipe (Ready (Ok x)) = Ready (Ok x)
as_pipe (Ready (Err e)) = Ready (Err Memory)
as_pipe Pending = Pending

-- the reader, which has given the places of what it consumed back: it checked the writer's slot
-- after that, and called each waker that it took
pub record Consumes (a b : Reader) (n : ℕ) : Type 0 where
  pub woken : NotifiesWriter b
  pub called : CallsTaken a.side.slots b.side.slots
  pub handle : SameReader WaitsAsBefore a b
  pub stays : AtEnd a → AtEnd b
  pub end : b.side.end
      ≡ record a.side.end { taken = b.side.end.taken; known = b.side.end.known }
  pub ran : ConsumeRan n a b

-- a flush is ready at once, doesn't fail, and asks nothing of the context: what was written is
-- published
pub record Flushes (a b : Writer) (r : Done) (old left : Context) : Type 0 where
  pub answer : r ≡ Ready (Ok (record {}))
  pub rest : b ≡ a
  pub context : left ≡ old

-- a close is ready at once, doesn't fail, and asks nothing of the context: it checked the reader's
-- slot, called each waker that it took, and its own, if that was registered, and leaves none
pub record Closes {E : Type 0} (a b : Writer) (r : Poll (Result (Unit {0}) E)) (old left : Context)
    : Type 0 where
  pub answer : r ≡ Ready (Ok (record {}))
  pub woken : NotifiesReader b
  pub called : CallsTaken a.side.slots b.side.slots
  pub leaves : WriterLeavesNone b
  pub own : TakesOwn WasCalled false a.side.slots b.side.log
  pub context : left ≡ old
  pub rest : SameWriterButShut a b
  pub ran : CloseRan a b
