-- Which calls the handles made: what they return, in the words of the call table, and where their
-- looks lead.
use Rattle.std.specs.Prelude.{ℕ, ◌==◌, Bool, not, List, length, Result, Ok, Err}
use denote.Ref.{Bor}
use Rattle.futures.specs.declared.task.Poll.{Poll}
use Rattle.futures.specs.declared.task.Poll.TheVariants.{Ready, Pending}
use Rattle.piper_protocol.specs.Table.{Next, count_answer, ends, failed_answer, look_answer}
use Rattle.piper_protocol.specs.declared.answer.Answer.TheVariants.{Done}
use Rattle.piper_protocol.specs.declared.answer.Answer.{Answer}
use Rattle.piper_protocol.specs.declared.answer.Polled.TheVariants as polled
use Rattle.piper_protocol.specs.declared.answer.Answer.TheVariants as answers
use Rattle.piper_protocol.specs.declared.table.Form.{Form}
use Rattle.piper_protocol.specs.declared.table.Point.{Point}
use Rattle.piper_protocol.specs.declared.table.Point.TheVariants as of
use Rattle.piper_protocol.specs.declared.table.AfterRead.TheVariants as after_read
use Rattle.piper_protocol.specs.declared.table.AfterWrite.TheVariants as after_write
use Rattle.piper_protocol.specs.declared.table.ReadPoint.TheVariants as reads
use Rattle.piper_protocol.specs.declared.table.WritePoint.TheVariants as writes
use Rattle.piper_protocol.specs.declared.table.Purpose.{Purpose}
use Rattle.piper_protocol.specs.declared.table.Purpose.TheVariants.{Copy}
use Rattle.piper_ring.specs.Log.{Opened, Ran, idle}
use Rattle.piper_ring.specs.Looks.{look_next, looks_at}
use Rattle.piper.specs.declared.error.CopyError.{CopyError}
use Rattle.piper.specs.declared.error.CopyError.TheVariants.{Memory, Like}
use Rattle.piper.specs.declared.handles.Reader.{Reader}
use Rattle.piper.specs.declared.handles.Writer.{Writer}
use Rattle.piper_ring.specs.declared.ends.finished.FinishedReader.{FinishedReader}
use Rattle.piper_ring.specs.declared.ends.finished.FinishedWriter.{FinishedWriter}
use Rattle.piper_ring.specs.declared.ends.slots.looks.Look.{Look}

-- what a poll returns
abbrev pub poll_answer : {E : Type 0} → Poll (Result Bool E) → Answer
poll_answer (Ready (Ok some)) = answers.Poll (polled.Ready some)
poll_answer (Ready (Err e)) = answers.Poll polled.Memory
poll_answer Pending = answers.Poll polled.Pending

-- what a poll returns that lends a piece: it is empty at the end alone
abbrev pub piece_answer : {E : Type 0} → Poll (Result (Bor (List ℕ)) E) → Answer
piece_answer (Ready (Ok lent)) = answers.Poll (polled.Ready (not (length lent.now == 0)))
piece_answer (Ready (Err e)) = answers.Poll polled.Memory
piece_answer Pending = answers.Poll polled.Pending

-- what a copy returns
abbrev pub copy_answer : {E : Type 0} → Form → Poll (Result ℕ (CopyError E)) → Answer
copy_answer form (Ready (Ok n)) = count_answer form n
copy_answer form (Ready (Err Memory)) = look_answer (Copy form) polled.Memory
copy_answer form (Ready (Err (Like e))) = failed_answer
copy_answer form Pending = look_answer (Copy form) polled.Pending

-- where a look leads by what it found that may be refused a waker: there, if it is something to do
abbrev pub wait_next : {E : Type 0} → Result Look E → Purpose → Point → Next Point
wait_next (Ok found) purpose there = look_next found purpose there
wait_next (Err e) purpose there = ends (idle there) (look_answer purpose polled.Memory)

-- since a the reader made one call: it began at this point, and the lines of its log are a run of the
-- call table to this answer
abbrev pub ReaderRan : Point → Answer → Reader → Reader → Type 0
ReaderRan start answer a b = Ran start answer a.side.log b.side.log

abbrev pub WriterRan : Point → Answer → Writer → Writer → Type 0
WriterRan start answer a b = Ran start answer a.side.log b.side.log

-- the point at which a look of the reader begins
abbrev pub reader_looks : Reader → Purpose → Point
reader_looks reader purpose = looks_at reader.side.end purpose

-- and one of the writer
abbrev pub writer_looks : Purpose → Point
writer_looks purpose = of.Writer (writes.LookClosed purpose)

-- the call was a copy of this form, which returned r
abbrev pub DrainRan : {E : Type 0} → Form → Poll (Result ℕ (CopyError E)) → Reader → Reader → Type 0
DrainRan form r a b = ReaderRan (reader_looks a (Copy form)) (copy_answer form r) a b

abbrev pub FillRan : {E : Type 0} → Form → Poll (Result ℕ (CopyError E)) → Writer → Writer → Type 0
FillRan form r a b = WriterRan (writer_looks (Copy form)) (copy_answer form r) a b

-- the call gave the places of n bytes back
abbrev pub ConsumeRan : ℕ → Reader → Reader → Type 0
ConsumeRan n a b = ReaderRan (of.Reader (reads.StoreHead n after_read.Answer)) Done a b

-- the call closed the pipe
abbrev pub CloseRan : Writer → Writer → Type 0
CloseRan a b = WriterRan (of.Writer (writes.StoreClosed after_write.WakeWriter)) Done a b

-- the call was the drop, by which the side left
abbrev pub ReaderRanLast : Reader → FinishedReader → Type 0
ReaderRanLast a left =
    Opened (of.Reader reads.StoreClosed) (ends (of.Reader reads.Dropped) Done) a.side.log left.log

abbrev pub WriterRanLast : Writer → FinishedWriter → Type 0
WriterRanLast a left =
    Opened (of.Writer (writes.StoreClosed after_write.Drop)) (ends (of.Writer writes.Dropped) Done)
    a.side.log left.log
