-- What a handle is that waits in its slot, and that it is not forgotten there.
use Rattle.std.specs.Prelude.{◌≡◌, ℕ, ◌+◌, ◌⊎◌, true, false, [], length}
use Rattle.futures.specs.Task.{Covers}
use Rattle.futures.specs.declared.task.context.Context.{Context}
use Rattle.piper_protocol.specs.declared.table.AfterWrite.TheVariants.{Drop}
use Rattle.piper_protocol.specs.declared.table.Point.TheVariants as of
use Rattle.piper_protocol.specs.declared.table.ReadPoint.TheVariants as reads
use Rattle.piper_protocol.specs.declared.table.WritePoint.TheVariants as writes
use Rattle.piper_ring.specs.ReadView.{ReadView}
use Rattle.piper_ring.specs.SlotsView.{IsReaderPending, IsWriterPending, SlotsView}
use Rattle.piper_ring.specs.WriteView.{WriteView}
use Rattle.piper.specs.Called.{CallsTaken, HasDropped, RegistersTask}
use Rattle.piper.specs.Contexts.{AsksAgain, LacksWaker}
use Rattle.piper.specs.Handles.{read_source, write_source}
use Rattle.piper_ring.specs.Looks.{NothingYet}
use Rattle.piper.specs.declared.handles.Reader.{Reader}
use Rattle.piper.specs.declared.handles.Writer.{Writer}
use Rattle.piper_ring.specs.declared.ends.finished.FinishedReader.{FinishedReader}
use Rattle.piper_ring.specs.declared.ends.finished.FinishedWriter.{FinishedWriter}

-- the reader waits: since a it has registered in its slot, under a new ticket, and its look after
-- that found nothing to do; the call asked for a waker of its task, and not for another poll
pub record ReaderWaits (a : SlotsView) (r : ReadView) (b : SlotsView) (old left : Context)
    : Type 0 where
  pub ticket : b.tickets ≡ a.tickets + 1
  pub pending : IsReaderPending r b
  pub task : RegistersTask a b old left

-- the writer waits
pub record WriterWaits (a : SlotsView) (w : WriteView) (b : SlotsView) (old left : Context)
    : Type 0 where
  pub ticket : b.tickets ≡ a.tickets + 1
  pub pending : IsWriterPending w b
  pub task : RegistersTask a b old left

-- no waker of the side's is left in its slot: none was registered, or it was taken back, or found to
-- be gone
abbrev pub ReaderLeavesNone : Reader → Type 0
ReaderLeavesNone reader = reader.side.slots.waits ≡ false

abbrev pub WriterLeavesNone : Writer → Type 0
WriterLeavesNone writer = writer.side.slots.waits ≡ false

-- the call was refused a waker for the reader, and none of its own is left in its slot
abbrev pub ReaderIsRefused : Reader → Context → Context → Type 0
ReaderIsRefused reader old left = LacksWaker old left × ReaderLeavesNone reader

abbrev pub WriterIsRefused : Writer → Context → Context → Type 0
WriterIsRefused writer old left = LacksWaker old left × WriterLeavesNone writer

-- a reader whose poll is pending: there is nothing to do yet, and its task is armed at the reader's
-- source, and is registered there
pub record ReaderPendsAt (source : ℕ) (a : SlotsView) (r : ReadView) (b : SlotsView)
    (old left : Context) : Type 0 where
  pub nothing : NothingYet r
  pub covered : Covers left (λ s. s ≡ source)
  pub waits : ReaderWaits a r b old left

pub record WriterPendsAt (source : ℕ) (a : SlotsView) (w : WriteView) (b : SlotsView)
    (old left : Context) : Type 0 where
  pub covered : Covers left (λ s. s ≡ source)
  pub waits : WriterWaits a w b old left

abbrev pub ReaderPends : Reader → Reader → Context → Context → Type 0
ReaderPends a b = ReaderPendsAt (read_source a) a.side.slots b.side.end b.side.slots

abbrev pub WriterPends : Writer → Writer → Context → Context → Type 0
WriterPends a b = WriterPendsAt (write_source a) a.side.slots b.side.end b.side.slots

-- why a call of a trait is pending: the reader is registered and has nothing to do, or its task asked
-- for another poll itself
abbrev pub ReaderIsWaiting : Reader → Context → Type 0
ReaderIsWaiting r cx = IsReaderPending r.side.end r.side.slots ⊎ AsksAgain cx

abbrev pub WriterIsWaiting : Writer → Context → Type 0
WriterIsWaiting w cx = IsWriterPending w.side.end w.side.slots ⊎ AsksAgain cx

-- once a reader met its writer as b: the writer took its last ticket,
-- or the reader has nothing to do, since no byte is unread and the pipe is open
abbrev pub ReaderIsRemembered : Reader → Reader → Writer → Type 0
ReaderIsRemembered a b writer =
    (writer.side.slots.taken ≡ a.side.slots.tickets)
    ⊎ ((b.side.end.known ≡ []) × (writer.side.end.shut ≡ false))

-- once a writer met its reader as b: the reader took its last ticket,
-- or the writer has nothing to do, since there is no room and the pipe is open
abbrev pub WriterIsRemembered : Writer → Writer → Reader → Type 0
WriterIsRemembered a b reader =
    (reader.side.slots.taken ≡ a.side.slots.tickets)
    ⊎ ((b.side.end.room ≡ 0) × (b.side.end.shut ≡ false))

-- the reader left: its last call was its drop. No search of a client looks into it
unfoldable pub ReaderHasDropped : Reader → Type 0
ReaderHasDropped reader =
    HasDropped reader.side.end.ring.names (of.Reader reads.StoreClosed) reader.side.log

-- the writer left. No search of a client looks into it
unfoldable pub WriterHasDropped : Writer → Type 0
WriterHasDropped writer =
    HasDropped writer.side.end.ring.names (of.Writer (writes.StoreClosed Drop)) writer.side.log

-- after the close by which it left, the reader checked the writer's slot, and called whom it took; and
-- it dropped what lay in the slots, if the writer had left before
pub record ReaderWokeLast (reader : Reader) (left : FinishedReader) : Type 0 where
  pub count : left.slots.stored.count ≡ length reader.side.end.taken
  pub over : left.slots.stored.closed ≡ true
  pub called : CallsTaken reader.side.slots left.slots
  pub dropped : ReaderHasDropped reader

-- the same of a writer that left, and of the reader's slot
pub record WriterWokeLast (writer : Writer) (left : FinishedWriter) : Type 0 where
  pub bytes : left.slots.stored.bytes ≡ writer.side.end.sent
  pub shut : left.slots.stored.closed ≡ true
  pub called : CallsTaken writer.side.slots left.slots
  pub dropped : WriterHasDropped writer
