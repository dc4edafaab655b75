-- A step of a side leaves what remains of its call, and it brings the answer nearer.
use Rattle.std.proofs.Common.{◌≡◌, ℕ, ◌+◌, ◌-◌, ◌<◌, ◌≤◌, length, false, Option, None, Some, if◌then◌else◌, ◌==◌, arith}
use Rattle.std.proofs.lemmas.Grind.{common_steps}
use Rattle.piper_machine.specs.Types.{Answer, ReadPoint, WritePoint, Reader, Writer, Busy, Go}
use Rattle.piper_machine.specs.Pipe.{Pipe}
use Rattle.piper_machine.specs.Refusal.{reader_state, writer_state}
use Rattle.piper_protocol.specs.Table.{Next, read_action, write_action}
use Rattle.piper_machine.specs.Step.{Stepped, went, call_after, source_after, destination_after, stepped}
use Rattle.piper_machine.specs.Alone.{Ended, heard, reader_alone, read_steps, read_wakes, is_draining, is_filling, writer_alone, write_steps, write_wakes}

-- what remains after a step of the reader: all that is left, or the answer that the step gave
abbrev pub reader_rest : Option Answer → Pipe → Ended
reader_rest None p = reader_alone p.reader p
reader_rest (Some answer) p = record { answer = answer; pipe = p }

-- the reader's step from a point
abbrev pub read_step : ReadPoint → Pipe → Stepped
read_step point p = let q = record p { reader = point } in went Reader (heard Reader (read_action point) q)

-- the reader comes to a point, or returns
abbrev pub reader_settled : Next ReadPoint → Pipe → Pipe
reader_settled next p = record p { reader = next.point; reader_call = call_after next.answer p.reader_call; destination = destination_after next.answer p.destination }

abbrev pub reader_rest_at : Next ReadPoint → Pipe → Ended
reader_rest_at next p = reader_rest next.answer (reader_settled next p)

pub reader-rest : (point : ReadPoint) (p : Pipe) → reader_state point ≡ Busy → is_draining point ≡ false → let s = read_step point p in reader_alone point p ≡ reader_rest s.answer s.pipe
reader-rest point p busy plain = grind arith

-- the most steps that remain, if the other side makes none: a look finds what there is
abbrev pub reads_left : ReadPoint → Pipe → ℕ
reads_left point p = read_steps (length p.unread) p.known point

-- and the writer, where so many places are free, checks for them only where it knows of no room
abbrev pub write_found : WritePoint → ℕ → ℕ → ℕ
write_found (WritePoint.LookClosed l) room free = if room == 0 then free else room
write_found point room free = free

abbrev pub writes_left : WritePoint → Pipe → ℕ
writes_left point p = write_steps (write_found point p.room (p.capacity - length p.unread)) p.room point

-- a step that gives no answer brings it nearer
pub record Nearer (steps_before steps_after wakes_before wakes_after woken_before woken_after : ℕ) : Type 0 where
  pub steps : steps_after < steps_before
  pub wakes : woken_after + wakes_after ≤ woken_before + wakes_before

pub reader-nearer : (point : ReadPoint) (p : Pipe) → reader_state point ≡ Busy → is_draining point ≡ false → let s = read_step point p in s.answer ≡ None → (reader_state s.pipe.reader ≡ Busy) × (is_draining s.pipe.reader ≡ false) × Nearer (reads_left point p) (reads_left s.pipe.reader s.pipe) (read_wakes point) (read_wakes s.pipe.reader) (length p.woken) (length s.pipe.woken)
reader-nearer point p busy plain goes = grind arith

-- the writer

abbrev pub writer_rest : Option Answer → Pipe → Ended
writer_rest None p = writer_alone p.writer p
writer_rest (Some answer) p = record { answer = answer; pipe = p }

abbrev pub write_step : WritePoint → Pipe → Stepped
write_step point p = let q = record p { writer = point } in went Writer (heard Writer (write_action point) q)

abbrev pub writer_settled : Next WritePoint → Pipe → Pipe
writer_settled next p = record p { writer = next.point; writer_call = call_after next.answer p.writer_call; source = source_after next.answer p.source }

abbrev pub writer_rest_at : Next WritePoint → Pipe → Ended
writer_rest_at next p = writer_rest next.answer (writer_settled next p)

pub writer-rest : (point : WritePoint) (p : Pipe) → writer_state point ≡ Busy → is_filling point ≡ false → let s = write_step point p in writer_alone point p ≡ writer_rest s.answer s.pipe
writer-rest point p busy plain = grind arith

-- the waker that it calls is heard, and then it goes
pub writer-went : (p h r : Pipe) (answer : Option Answer) → is_filling p.writer ≡ false → h ≡ heard Writer (write_action p.writer) p → answer ≡ (stepped r.lent (Go Writer) h).answer → r ≡ (stepped r.lent (Go Writer) h).pipe
    → (answer ≡ (write_step p.writer p).answer) × (r ≡ (write_step p.writer p).pipe)
writer-went p h r answer plain hears answers after = grind arith

pub writer-nearer : (point : WritePoint) (p : Pipe) → writer_state point ≡ Busy → is_filling point ≡ false → let s = write_step point p in s.answer ≡ None → (writer_state s.pipe.writer ≡ Busy) × (is_filling s.pipe.writer ≡ false) × Nearer (writes_left point p) (writes_left s.pipe.writer s.pipe) (write_wakes point) (write_wakes s.pipe.writer) (length p.woken) (length s.pipe.woken)
writer-nearer point p busy plain goes = grind (arith, common_steps)
