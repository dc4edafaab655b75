-- What the calls of a reader do: each definition is shared by all forms of a call.
use Rattle.std.specs.Prelude.{◌≡◌, ℕ, ◌+◌, ◌<◌, ◌≤◌, ◌++◌, ◌⊎◌, true, false, Bool, List, [], length, max, take, drop, IsTrue, Option, Result, Ok}
use Rattle.futures.specs.Task.{Covers, Keeps}
use Rattle.futures.specs.Poll.{OnPending}
use Rattle.futures.specs.declared.task.context.Context.{Context}
use Rattle.futures.specs.declared.task.Poll.{Poll}
use Rattle.futures.specs.declared.task.Poll.TheVariants.{Ready}
use denote.Ref.{Bor}
use Rattle.piper_protocol.specs.Lines.{Line}
use Rattle.piper_protocol.specs.Told.{AreTrueLogs}
use Rattle.piper_protocol.specs.declared.table.Form.TheVariants.{Polling}
use Rattle.piper_protocol.specs.declared.table.Purpose.TheVariants as purpose
use Rattle.piper_ring.specs.Loads.{FoundClosed}
use Rattle.piper_ring.specs.Log.{has_met}
use Rattle.piper_ring.specs.ReadView.{Agree, KeepsAll, KnowsEnd, ReadEndMayHave}
use Rattle.piper_ring.specs.SlotsView.{IsReaderPending, IsWriterPending, OnlyWaits, WaitsAsBefore}
use Rattle.piper.specs.Called.{CallsTaken, EmptiesOwn}
use Rattle.piper.specs.Contexts.{AsksAgain}
use Rattle.piper.specs.Copies.{ReaderCopied}
use Rattle.piper.specs.CopyAnswers.{CountsFailure, OnMemory, of_std}
use Rattle.piper.specs.Drains.{Drains, EndIsTrue, EndIsUnseen, found_len}
use Rattle.piper.specs.Draws.{Draws, Undrawn}
use Rattle.piper.specs.Handles.{NotifiesReader, NotifiesWriter, SameReader, SameWriter, read_source}
use Rattle.piper.specs.Like.{Passes, appends_to}
use Rattle.piper_ring.specs.Looks.{IsEnded, ReaderIsUpToDate, ReaderLooked}
use Rattle.piper.specs.Looks.{OnRefused, ReaderFound}
use Rattle.piper.specs.Polls.{After, Count, IfReadyErr, IfReadyOk, TakesNone}
use Rattle.piper.specs.Runs.{DrainRan, ReaderRan, piece_answer, reader_looks}
use Rattle.piper.specs.Waits.{ReaderIsRefused, ReaderIsRemembered, ReaderPends, WriterIsRemembered, ReaderLeavesNone, ReaderWaits}
use Rattle.piper.specs.declared.error.CopyError.{CopyError}
use Rattle.piper.specs.declared.error.PipeError.{PipeError}
use Rattle.piper_ring.specs.Streams.{either}
use Rattle.piper_ring.specs.declared.ends.finished.FinishedWriter.{FinishedWriter}
use Rattle.piper_ring.specs.declared.ring.marks.WriteMark.{WriteMark}
use Rattle.piper.specs.declared.handles.Reader.{Reader}
use Rattle.piper.specs.declared.handles.Writer.{Writer}

-- the reader found the end, which is final: it saw the pipe closed, and all that was ever published
-- has been taken
abbrev pub AtEnd : Reader → Type 0
AtEnd reader = IsEnded reader.side.end

-- n bytes may be unread: all that the reader knows of, all that it was told of, and no more than
-- fit; and just those up to the end if that is known
abbrev pub ReaderMayHave : Reader → ℕ → Type 0
ReaderMayHave reader n = ReadEndMayHave reader.side.end n

-- the reader looked, which takes no byte
abbrev pub Looks : Reader → Reader → Type 0
Looks a b = ReaderLooked a.side.end b.side.end

-- a query whether the pipe is closed loaded closed; once the reader knows that, it says so
pub record ReaderFindsClosed (reader : Reader) (answer : Bool) : Type 0 where
  pub saw : reader.side.end.saw ≡ true → IsTrue answer
  pub observed : reader.side.end.observed_shut ≡ true → IsTrue answer
  pub found : FoundClosed reader.side.end.ring.names answer

-- once the end was reported a poll reports it again, or is refused memory; and what the reader knows
-- to be all is all
pub record PollsEnd {A E : Type 0} (r : Poll (Result A E)) (a b : Reader) : Type 0 where
  pub after : AtEnd a → After r (AtEnd b) b.side.end.known
  pub all : KeepsAll a.side.end b.side.end

-- a poll looked, which takes no byte, and returns what it found; if that is a byte, it leaves no
-- waker in its slot. One that is pending waits, and one that is refused memory was so only for its
-- waker. Else the handle stays as it was, and what was asked of the context before
pub record ReaderPolled {E : Type 0} (r : Poll (Result Bool E))
    (a b : Reader) (old left : Context) : Type 0 where
  pub found : ReaderFound r b.side.end
  pub looked : ReaderLooked a.side.end b.side.end
  pub leaves : IfReadyOk r (λ some. some ≡ true → ReaderLeavesNone b)
  pub emptied : IfReadyOk r (λ some. some ≡ true →
      EmptiesOwn true a.side.slots b.side.slots b.side.log)
  pub end : PollsEnd r a b
  pub pending : OnPending r (ReaderPends a b old left)
  pub memory : OnRefused r (ReaderIsRefused b old left)
  pub context : Keeps old left
  pub rest : SameReader OnlyWaits a b

-- a poll that lends is one as `poll`, and no other call
pub record PollsPiece (r : Poll (Result (Bor (List ℕ)) PipeError)) (a b : Reader)
    (old left : Context) : Type 0 where
  pub looked : ReaderLooked a.side.end b.side.end
  pub leaves : IfReadyOk r (λ lent. 0 < length lent.now → ReaderLeavesNone b)
  pub emptied : IfReadyOk r (λ lent. 0 < length lent.now →
      EmptiesOwn true a.side.slots b.side.slots b.side.log)
  pub pending : OnPending r (ReaderPends a b old left)
  pub memory : OnRefused r (ReaderIsRefused b old left)
  pub all : KeepsAll a.side.end b.side.end
  pub rest : SameReader OnlyWaits a b
  pub ran : ReaderRan (reader_looks a purpose.Poll) (piece_answer r) a b

-- n bytes were drained into a slice: they are at its front, and the rest of it stays. They are the
-- first that were known, or that were found if none was known; and as many as fit
pub record Drained (n : ℕ) (a b : Reader) (old new : List ℕ) : Type 0 where
  pub count : n ≤ length old
  pub rest : drop n new ≡ drop n old
  pub taken : b.side.end.taken ≡ a.side.end.taken ++ take n new
  pub known : 0 < length a.side.end.known → take n new ++ b.side.end.known ≡ a.side.end.known
  pub fresh : a.side.end.known ≡ [] → ReaderIsUpToDate b.side.end
  pub most : n < length old → b.side.end.known ≡ []

-- nothing was taken, and what was known is known; if none was, the reader looked for more
pub record ReaderOnlyLooked (a b : Reader) : Type 0 where
  pub taken : b.side.end.taken ≡ a.side.end.taken
  pub known : 0 < length a.side.end.known → b.side.end.known ≡ a.side.end.known
  pub fresh : a.side.end.known ≡ [] → ReaderIsUpToDate b.side.end

-- a drain into a slice drained as many bytes as it returns; else it looked, and moved nothing
abbrev pub DrainsSlice : {E : Type 0} → Poll (Result ℕ E) → Reader → Reader
    → List ℕ → List ℕ → Type 0
DrainsSlice (Ready (Ok n)) a b old new = Drained n a b old new
DrainsSlice other a b old new = ReaderOnlyLooked a b × (new ≡ old)

-- a drain into any destination, whose count of failures differs exactly if one is returned; and one
-- into a writer of std
abbrev pub DrainsLike : {S E : Type 0} → Passes S → (S → Type 0) → (S → E → S → Type 0) → (S → ℕ)
    → Poll (Result ℕ (CopyError E)) → Reader → Reader → S → S → Type 0
DrainsLike takes is_full fails failures r a b s t =
    Drains takes is_full fails r a.side.end b.side.end s t
    × CountsFailure r (failures s) (failures t)

abbrev pub DrainsStd : {S E : Type 0} → (S → Option (List ℕ)) → (S → Type 0)
    → (S → E → S → Type 0) → Poll (Result ℕ (CopyError E)) → Reader → Reader → S → S → Type 0
DrainsStd contents is_full fails r a b s t =
    Drains (appends_to contents) is_full fails r a.side.end b.side.end s t

-- a drain that returns a count found a byte, or the end; and once the end was reported it takes
-- nothing and doesn't wait. What the reader knows to be all is all
pub record DrainsEnd {E : Type 0} (r : Poll (Result ℕ E)) (a b : Reader) : Type 0 where
  pub end : EndIsTrue r a.side.end b.side.end
  pub after : AtEnd a → TakesNone r (AtEnd b) a.side.end.taken b.side.end.taken
  pub all : KeepsAll a.side.end b.side.end

-- a drain that is pending: it found no byte, neither saw the pipe closed nor was told so, and waits
-- as a poll does; or it found one and asked for another poll itself
pub record DrainPends (a b : Reader) (old left : Context) : Type 0 where
  pub unseen : found_len a.side.end b.side.end ≡ 0
      → (b.side.end.saw ≡ false) × (b.side.end.observed_shut ≡ false)
  pub yields : 0 < found_len a.side.end b.side.end → AsksAgain left
  pub covered : Covers left (λ s. s ≡ read_source a)
  pub waits : found_len a.side.end b.side.end ≡ 0 → ReaderWaits a.side.slots b.side.end b.side.slots old left

-- a drain draws from the reader's generator exactly if it found a byte, and yields by that draw
abbrev pub DrainDraws : {E : Type 0} → Poll (Result ℕ E) → Reader → Reader → Type 0
DrainDraws r a b = Draws (0 < found_len a.side.end b.side.end) r a.rng b.rng

-- with a context a drain draws, waits, and is refused memory only for its waker, and only if no byte
-- is known
pub record DrainsWaiting {E : Type 0} (r : Poll (Result ℕ (CopyError E)))
    (a b : Reader) (old left : Context) : Type 0 where
  pub draws : DrainDraws r a b
  pub pending : OnPending r (DrainPends a b old left)
  pub memory : OnMemory r (ReaderIsRefused b old left × (b.side.end.known ≡ []))
  pub context : Keeps old left

-- without one it doesn't draw, is pending only if it found no byte and the pipe open, is refused
-- no memory, and waits as it did
pub record DrainsAtOnce {E : Type 0} (r : Poll (Result ℕ (CopyError E))) (a b : Reader) : Type 0 where
  pub undrawn : Undrawn (0 < found_len a.side.end b.side.end) r a.rng b.rng
  pub unseen : EndIsUnseen r a.side.end b.side.end
  pub memory : OnMemory r ⊥
  pub place : WaitsAsBefore a.side.slots b.side.slots

-- each waker of the writer's that was taken was called; and if the writer's slot had been checked
-- after all that was consumed, it was so after all that was consumed since
pub record WakesWriter (a b : Reader) : Type 0 where
  pub called : CallsTaken a.side.slots b.side.slots
  pub notifies : NotifiesWriter a → NotifiesWriter b

-- the same reader of the same pipe, but for bytes that it took and knows of, for how it waits, and
-- for what its generator draws next: it may have seen closed now
pub record SameReaderButMoved (a b : Reader) : Type 0 where
  pub cells : b.side.cells ≡ a.side.cells
  pub source : b.source ≡ a.source
  pub end : ReaderCopied a.side.end b.side.end

-- what else a drain says: what holds at the end, whom it woke, and what stays of the reader
pub record DrainRest {E : Type 0} (r : Poll (Result ℕ E)) (a b : Reader) : Type 0 where
  pub end : DrainsEnd r a b
  pub woken : WakesWriter a b
  pub same : SameReaderButMoved a b

-- a drain into a slice whose count doesn't tell the end: what the reader knows of the end stays. It
-- draws nothing, and the reader waits as it did
pub record ReaderTried (n : ℕ) (a b : Reader) (old new : List ℕ) : Type 0 where
  pub drained : Drained n a b old new
  pub stays : AtEnd a → AtEnd b
  pub all : KeepsAll a.side.end b.side.end
  pub woken : WakesWriter a b
  pub copied : ReaderCopied a.side.end b.side.end
  pub same : SameReader WaitsAsBefore a b

-- all that a read says of a handle, its answer, the slice and its context: it is one drain. A `&mut`
-- to the handle says the same
pub record ReadsAsDrain (a b : Reader) (r : Count) (before after : List ℕ)
    (old left : Context) : Type 0 where
  pub drained : DrainsSlice r a b before after
  pub end : DrainsEnd r a b
  pub draws : DrainDraws r a b
  pub pending : OnPending r (DrainPends a b old left)
  pub refused : IfReadyErr r (λ _. ReaderIsRefused b old left × (b.side.end.known ≡ []))
  pub woken : WakesWriter a b
  pub rest : SameReaderButMoved a b
  pub ran : DrainRan (Polling false) (of_std r) a b

-- the reader learned that these bytes are all that was ever published: what it took and knows of is
-- their front
pub record KnowsAll (r : Reader) (bytes : List ℕ) : Type 0 where
  pub all : r.side.end.all ≡ bytes
  pub rest : (xs : List ℕ) × ((r.side.end.taken ++ r.side.end.known) ++ xs ≡ bytes)

-- the reader observed this mark of the writer: from now on a look finds at least its bytes. These, and
-- those that the reader took and knows of, begin alike; if the mark says closed, they are all bytes.
-- Nothing else of the reader changed
pub record ReaderObserves (mark : WriteMark) (a b : Reader) : Type 0 where
  pub observed : b.side.end.observed ≡ max a.side.end.observed (length mark.bytes)
  pub shut : b.side.end.observed_shut ≡ either a.side.end.observed_shut mark.shut
  pub agree : Agree (b.side.end.taken ++ b.side.end.known) mark.bytes
  pub last : mark.shut ≡ true → KnowsAll b mark.bytes
  pub all : KeepsAll a.side.end b.side.end
  pub end : b.side.end ≡ record a.side.end {
    observed = b.side.end.observed;
    observed_shut = b.side.end.observed_shut;
    all = b.side.end.all;
  }
  pub rest : SameReader (λ s t. t ≡ s) a b × (b.side.log ≡ a.side.log)

-- if the reader was pending in its slot, the writer took its last waker and woke it as it left
abbrev pub ReaderWasWoken : Reader → FinishedWriter → Type 0
ReaderWasWoken reader left =
    IsReaderPending reader.side.end reader.side.slots
    → left.slots.taken ≡ reader.side.slots.tickets

-- the log of the reader and these lines of the writer, which published these bytes, are both true, and
-- their accesses are one list. No search of a client looks into it, nor into the next
unfoldable pub HaveTrueLogs : Reader → List Line → List ℕ → Type 0
HaveTrueLogs r written sent =
    AreTrueLogs r.side.end.capacity r.side.log.lines written r.side.end.taken sent

-- so it is of both handles before they met; after that each log has one line more, of the meet
unfoldable pub LogsMeet : Reader → Reader → Writer → Writer → Type 0
LogsMeet a b c d = HaveTrueLogs a c.side.log.lines c.side.end.sent
    × (b.side.log ≡ has_met (length d.side.end.sent) a.side.log)
    × (d.side.log ≡ has_met (length b.side.end.taken) c.side.log)

-- two handles met: the reader knows of all that was published, and the writer of all the free room.
-- If one of them saw the pipe closed, the writer closed it, and all bytes are what it published. Both
-- are else as they were
pub record Meets (a b : Reader) (c d : Writer) : Type 0 where
  pub fifo : b.side.end.taken ++ b.side.end.known ≡ d.side.end.sent
  pub room : d.side.end.room + length b.side.end.known ≡ b.side.end.capacity
  pub known : (xs : List ℕ) × (b.side.end.known ≡ a.side.end.known ++ xs)
  pub more_room : c.side.end.room ≤ d.side.end.room
  pub reader_saw : b.side.end.saw ≡ true → d.side.end.shut ≡ true
  pub writer_saw : d.side.end.saw ≡ true → d.side.end.shut ≡ true
  pub kept : KeepsAll a.side.end b.side.end
  pub all : KnowsEnd b.side.end → b.side.end.all ≡ d.side.end.sent
  pub reader : b.side.end
      ≡ record a.side.end { known = b.side.end.known; all = b.side.end.all }
  pub writer : d.side.end ≡ record c.side.end { room = d.side.end.room }
  pub handles : SameReader (λ s t. t ≡ s) a b × SameWriter (λ s t. t ≡ s) c d

-- and the reader is not forgotten: if it was pending, and the writer checked its slot after
-- its last store, the writer took and woke its waker since, or the reader has nothing to do
abbrev pub MeetReader : Reader → Reader → Writer → Type 0
MeetReader a b writer =
    IsReaderPending a.side.end a.side.slots → NotifiesReader writer → ReaderIsRemembered a b writer

-- nor the writer
abbrev pub MeetWriter : Writer → Writer → Reader → Type 0
MeetWriter a b reader =
    IsWriterPending a.side.end a.side.slots → NotifiesWriter reader → WriterIsRemembered a b reader

-- nor do both sleep: if both were pending, and each had checked the other's slot after its last
-- store, then one took and called the other's waker since
abbrev pub MeetAwake : Reader → Writer → Type 0
MeetAwake a c =
    IsReaderPending a.side.end a.side.slots → NotifiesWriter a
    → IsWriterPending c.side.end c.side.slots → NotifiesReader c
    → (c.side.slots.taken ≡ a.side.slots.tickets) ⊎ (a.side.slots.taken ≡ c.side.slots.tickets)

-- two handles met: nobody who waits is forgotten
pub record MeetWoken (a b : Reader) (c d : Writer) : Type 0 where
  pub reader : MeetReader a b c
  pub writer : MeetWriter c d a
  pub awake : MeetAwake a c
