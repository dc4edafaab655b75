-- What the calls of a writer do: each definition is shared by all forms of a call.
use Rattle.std.specs.Prelude.{◌≡◌, ℕ, ◌<◌, ◌≤◌, ◌++◌, true, false, Bool, List, [], length, max, take, IsTrue, Option, Result, Ok}
use Rattle.std.specs.Io.KnownBytes.{IsAtEnd}
use Rattle.futures.specs.Task.{Covers, Keeps}
use Rattle.futures.specs.Poll.{OnPending}
use Rattle.futures.specs.declared.task.context.Context.{Context}
use Rattle.futures.specs.declared.task.Poll.{Poll}
use Rattle.futures.specs.declared.task.Poll.TheVariants.{Ready}
use Rattle.piper_protocol.specs.declared.table.Form.TheVariants.{Polling}
use Rattle.piper_ring.specs.Loads.{FoundClosed}
use Rattle.piper_ring.specs.SlotsView.{IsWriterPending, OnlyWaits, WaitsAsBefore}
use Rattle.piper_ring.specs.WriteView.{Lendable, WriteEndMayHave}
use Rattle.piper.specs.Called.{CallsTaken, EmptiesOwn}
use Rattle.piper.specs.Contexts.{AsksAgain}
use Rattle.piper.specs.Copies.{IsReplaced, WriterCopied}
use Rattle.piper.specs.CopyAnswers.{CountsFailure, OnMemory, of_std}
use Rattle.piper.specs.Draws.{Draws, Undrawn}
use Rattle.piper.specs.Fills.{Fills, FoundRoom, LosesOneRound, OnNoCount}
use Rattle.piper.specs.Handles.{NotifiesReader, SameWriter, write_source}
use Rattle.piper.specs.Like.{Passes, consumes_of}
use Rattle.piper_ring.specs.Looks.{WriterIsUpToDate, WriterLooked}
use Rattle.piper.specs.Looks.{OnRefused, WriterFound}
use Rattle.piper.specs.Polls.{Count, IfReadyErr, IfReadyOk}
use Rattle.piper.specs.Runs.{FillRan}
use Rattle.piper.specs.Waits.{WriterIsRefused, WriterLeavesNone, WriterPends, WriterWaits}
use Rattle.piper.specs.declared.error.CopyError.{CopyError}
use Rattle.piper_ring.specs.declared.ends.finished.FinishedReader.{FinishedReader}
use Rattle.piper.specs.declared.handles.Writer.{Writer}

-- n bytes may be unread: the room that the writer knows of is free, and the bytes that it was told
-- of are consumed
abbrev pub WriterMayHave : Writer → ℕ → Type 0
WriterMayHave writer n = WriteEndMayHave writer.side.end n

-- a call for at most `max` bytes may lend n: none once the writer closed the pipe, and else all that
-- is asked for and fits, or as much of it as one call may set to zero: twice what was published and
-- is lent, and 4,096 more
abbrev pub MayLend : Writer → ℕ → ℕ → Type 0
MayLend writer max n = Lendable writer.side.end max n

-- there is room, some is asked for, and the writer didn't close the pipe
abbrev pub MustLend : Writer → ℕ → Type 0
MustLend writer max = (writer.side.end.shut ≡ false) × (0 < writer.side.end.room) × (0 < max)

-- the writer observed a mark of so many consumed bytes, and counts the pipe as seen closed or not.
-- Nothing else of the writer changed
pub record WriterObserves (count : ℕ) (saw : Bool) (a b : Writer) : Type 0 where
  pub end : b.side.end
      ≡ record a.side.end { observed = max a.side.end.observed count; saw = saw }
  pub rest : SameWriter (λ s t. t ≡ s) a b × (b.side.log ≡ a.side.log)

-- if the writer was pending in its slot, the reader took its last waker and woke it as it left
abbrev pub WriterWasWoken : Writer → FinishedReader → Type 0
WriterWasWoken writer left =
    IsWriterPending writer.side.end writer.side.slots
    → left.slots.taken ≡ writer.side.slots.tickets

-- a query whether the pipe is closed loaded closed; once the writer saw that, it says so
pub record WriterFindsClosed (writer : Writer) (answer : Bool) : Type 0 where
  pub saw : writer.side.end.saw ≡ true → IsTrue answer
  pub found : FoundClosed writer.side.end.ring.names answer

-- a poll looked, which publishes nothing, and returns what it found; if that is room, it leaves no
-- waker in its slot. One that is pending waits, and one that is refused memory was so only for its
-- waker. Else the handle stays as it was, and what was asked of the context before
pub record WriterPolled {E : Type 0} (r : Poll (Result Bool E))
    (a b : Writer) (old left : Context) : Type 0 where
  pub found : WriterFound r b.side.end
  pub looked : WriterLooked a.side.end b.side.end
  pub leaves : IfReadyOk r (λ some. some ≡ true → WriterLeavesNone b)
  pub emptied : IfReadyOk r (λ some. some ≡ true →
      EmptiesOwn false a.side.slots b.side.slots b.side.log)
  pub pending : OnPending r (WriterPends a b old left)
  pub memory : OnRefused r (WriterIsRefused b old left)
  pub context : Keeps old left
  pub rest : SameWriter OnlyWaits a b

-- the writer published: it checked the reader's slot after that, and called each waker that it took
pub record Produces (a b : Writer) : Type 0 where
  pub woken : NotifiesReader b
  pub called : CallsTaken a.side.slots b.side.slots
  pub handle : SameWriter WaitsAsBefore a b

-- n bytes were taken from the front of a slice, and published: all of them unless the pipe was seen
-- closed, and else all but those of one round. They are as many as there is room for, which is
-- looked for if none was known
pub record Filled (n : ℕ) (a b : Writer) (bytes : List ℕ) : Type 0 where
  pub count : n ≤ length bytes
  pub front : (m : ℕ) × (m ≤ n) × (b.side.end.sent ≡ a.side.end.sent ++ take m bytes)
  pub all : b.side.end.saw ≡ false → b.side.end.sent ≡ a.side.end.sent ++ take n bytes
  pub last : LosesOneRound n a.side.end b.side.end
  pub room : 0 < a.side.end.room → IsReplaced a.side.end b.side.end
  pub fresh : a.side.end.room ≡ 0 → b.side.end.saw ≡ false → WriterIsUpToDate b.side.end
  pub most : n < length bytes → b.side.end.saw ≡ false → b.side.end.room ≡ 0

-- nothing was published, and the room is as it was; if there was none, the writer looked for some
pub record WriterOnlyLooked (a b : Writer) : Type 0 where
  pub sent : b.side.end.sent ≡ a.side.end.sent
  pub room : 0 < a.side.end.room → IsReplaced a.side.end b.side.end
  pub fresh : a.side.end.room ≡ 0 → b.side.end.saw ≡ false → WriterIsUpToDate b.side.end

-- a fill from a slice published as many bytes as it returns, and returns 0 only if there are none
-- or the pipe is closed; else it looked, and moved nothing
abbrev pub FillsSlice : {E : Type 0} → Poll (Result ℕ E) → Writer → Writer → List ℕ → Type 0
FillsSlice (Ready (Ok n)) a b bytes =
    Filled n a b bytes × (n ≡ 0 → 0 < length bytes → b.side.end.saw ≡ true)
FillsSlice other a b bytes = WriterOnlyLooked a b

-- a fill from any source, whose count of failures differs exactly if one is returned; and one from a
-- reader of std
abbrev pub FillsLike : {S E : Type 0} → Passes S → (S → Type 0) → (S → E → S → Type 0) → (S → ℕ)
    → Poll (Result ℕ (CopyError E)) → Writer → Writer → S → S → Type 0
FillsLike gives is_dry fails failures r a b s t =
    Fills gives is_dry fails r a.side.end b.side.end s t
    × CountsFailure r (failures s) (failures t)

abbrev pub FillsStd : {S E : Type 0} → (S → Option (List ℕ)) → (S → E → S → Type 0)
    → Poll (Result ℕ (CopyError E)) → Writer → Writer → S → S → Type 0
FillsStd remaining fails r a b s t =
    Fills (consumes_of remaining) (λ u. IsAtEnd (remaining u)) fails r a.side.end b.side.end s t

-- once the pipe was seen closed a fill returns 0, and a call that returns no count saw it open
pub record FillsEnd {E : Type 0} (r : Poll (Result ℕ E)) (a b : Writer) : Type 0 where
  pub over : a.side.end.saw ≡ true → r ≡ Ready (Ok 0)
  pub unseen : OnNoCount r (b.side.end.saw ≡ false)

-- a fill that is pending: it waits as a poll does; or there is room, and it asked for another poll
-- itself
pub record FillPends (a b : Writer) (old left : Context) : Type 0 where
  pub yields : 0 < b.side.end.room → AsksAgain left
  pub covered : Covers left (λ s. s ≡ write_source a)
  pub waits : b.side.end.room ≡ 0 → WriterWaits a.side.slots b.side.end b.side.slots old left

-- a fill draws from the writer's generator exactly if it found room, and yields by that draw
abbrev pub FillDraws : {E : Type 0} → Poll (Result ℕ (CopyError E)) → Writer → Writer → Type 0
FillDraws r a b = Draws (FoundRoom r b.side.end) r a.rng b.rng

-- with a context a fill draws, waits, and is refused memory only for its waker, and only if there is
-- no room
pub record FillsWaiting {E : Type 0} (r : Poll (Result ℕ (CopyError E)))
    (a b : Writer) (old left : Context) : Type 0 where
  pub draws : FillDraws r a b
  pub pending : OnPending r (FillPends a b old left)
  pub memory : OnMemory r (WriterIsRefused b old left × (b.side.end.room ≡ 0))
  pub context : Keeps old left

-- without one it doesn't draw, is pending only if it found no room, is refused no memory, and
-- waits as it did
pub record FillsAtOnce {E : Type 0} (r : Poll (Result ℕ (CopyError E))) (a b : Writer) : Type 0 where
  pub undrawn : Undrawn (FoundRoom r b.side.end) r a.rng b.rng
  pub memory : OnMemory r ⊥
  pub place : WaitsAsBefore a.side.slots b.side.slots

-- each waker of the reader's that was taken was called; and if the reader's slot had been checked
-- after all that was published, it was so after all that was published since
pub record WakesReader (a b : Writer) : Type 0 where
  pub called : CallsTaken a.side.slots b.side.slots
  pub notifies : NotifiesReader a → NotifiesReader b

-- the same writer of the same pipe, but for bytes that it published and its room, for how it waits,
-- and for what its generator draws next: it may have seen closed now, and lends nothing
pub record SameWriterButMoved (a b : Writer) : Type 0 where
  pub cells : b.side.cells ≡ a.side.cells
  pub source : b.source ≡ a.source
  pub end : WriterCopied a.side.end b.side.end

-- what else a fill says: what holds once the pipe was seen closed, whom it woke, and what stays of the
-- writer
pub record FillRest {E : Type 0} (r : Poll (Result ℕ E)) (a b : Writer) : Type 0 where
  pub end : FillsEnd r a b
  pub woken : WakesReader a b
  pub same : SameWriterButMoved a b

-- a fill from a slice whose count doesn't tell the close: it draws nothing, and the writer waits as it
-- did
pub record WriterTried (n : ℕ) (a b : Writer) (bytes : List ℕ) : Type 0 where
  pub filled : Filled n a b bytes
  pub over : a.side.end.saw ≡ true → n ≡ 0
  pub woken : WakesReader a b
  pub copied : WriterCopied a.side.end b.side.end
  pub same : SameWriter WaitsAsBefore a b

-- all that a write says of a handle, its answer, the slice and its context: it is one fill. A `&mut`
-- to the handle says the same
pub record WritesAsFill (a b : Writer) (r : Count) (bytes : List ℕ)
    (old left : Context) : Type 0 where
  pub filled : FillsSlice r a b bytes
  pub end : FillsEnd r a b
  pub draws : FillDraws (of_std r) a b
  pub pending : OnPending r (FillPends a b old left)
  pub refused : IfReadyErr r (λ _. WriterIsRefused b old left × (b.side.end.room ≡ 0))
  pub woken : WakesReader a b
  pub rest : SameWriterButMoved a b
  pub ran : FillRan (Polling false) (of_std r) a b

-- the writer, which has closed the pipe for good: it lends nothing any more
pub record SameWriterButShut (a b : Writer) : Type 0 where
  pub handle : SameWriter (λ s t. t ≡ record s
      { waits = false; taken = t.taken; stored = t.stored }) a b
  pub end : b.side.end ≡ record a.side.end { shut = true; saw = true; lent = [] }
