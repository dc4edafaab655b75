-- The machine's pipe, where each side is at this point of its log and both share these words. What
-- the open calls will still draw, be granted, take and give is free: the machine is handed it as a
-- call begins, and a log has it only later.
use Rattle.std.proofs.Common.{◌≡◌, ℕ, ◌+◌, ◌-◌, ◌≤◌, ◌<◌, List, ◌∷◌, ◌++◌, length, take, drop, min, replicate, Bool, true, false, Option, None, Some, []}
use Rattle.piper_machine.specs.Types.{Purpose, ReadPoint, WritePoint, OpenCall, Context, Luck, DestAct, SourceAct, Destination, Try, Polling, Slice, Acts}
use Rattle.piper_protocol.specs.declared.table.Purpose.TheVariants.{Poll, Copy}
use Rattle.piper_protocol.specs.Index.{offset_of}
use Rattle.piper_protocol.specs.Table.{head_store, tail_store}
use Rattle.piper_machine.specs.Pipe.{Pipe}
use Rattle.piper_machine.specs.logs.Calling.{Calling}
use Rattle.piper_machine.specs.logs.OneList.{Words}
use Rattle.piper_machine.specs.logs.Reading.{ReaderAt, known_to, shown}
use Rattle.piper_machine.specs.logs.Writing.{Source, own, these, nothing, WriterAt, room_to, contiguous}

-- what an open call will draw and be granted, if it has not yet
pub record Chance : Type 0 where
  pub draws : Bool
  pub registers : Bool

abbrev pub settled : Option Bool → Bool → Bool
settled None chance = chance
settled (Some fact) chance = fact

abbrev pub number_of : Bool → ℕ
number_of true = 0
number_of false = 1

abbrev pub luck_of : Calling → Chance → Luck
luck_of c k = record {
  draw = number_of (settled c.draw k.draws);
  register_granted = settled c.granted k.registers;
  yield_granted = true;
}

abbrev pub context_with : Option ℕ → Luck → Option Context
context_with None luck = None
context_with (Some waker) luck = Some (record { waker = waker; luck = luck })

abbrev pub call_at : Calling → Chance → OpenCall
call_at c k = record { context = context_with c.handed (luck_of c k); taken = c.taken }

-- a point of a copy that has still to draw, as the machine has it
abbrev pub with_draw : Bool → Purpose → Purpose
with_draw b Poll = Poll
with_draw b (Copy Try) = Copy Try
with_draw b (Copy (Polling is_drawn)) = Copy (Polling b)

abbrev pub reader_drawn : Bool → ReadPoint → ReadPoint
reader_drawn b (ReadPoint.LookTail l) = ReadPoint.LookTail (with_draw b l)
reader_drawn b (ReadPoint.LookRegister l) = ReadPoint.LookRegister (with_draw b l)
reader_drawn b (ReadPoint.LookClosed l) = ReadPoint.LookClosed (with_draw b l)
reader_drawn b (ReadPoint.LookTailAgain l was_closed) = ReadPoint.LookTailAgain (with_draw b l) was_closed
reader_drawn b (ReadPoint.LookTake l) = ReadPoint.LookTake (with_draw b l)
reader_drawn b point = point

abbrev pub writer_drawn : Bool → WritePoint → WritePoint
writer_drawn b (WritePoint.LookClosed l) = WritePoint.LookClosed (with_draw b l)
writer_drawn b (WritePoint.LookHead l) = WritePoint.LookHead (with_draw b l)
writer_drawn b (WritePoint.LookRegister l) = WritePoint.LookRegister (with_draw b l)
writer_drawn b (WritePoint.LookHeadAgain l) = WritePoint.LookHeadAgain (with_draw b l)
writer_drawn b (WritePoint.LookClosedAgain l) = WritePoint.LookClosedAgain (with_draw b l)
writer_drawn b (WritePoint.LookTake l) = WritePoint.LookTake (with_draw b l)
writer_drawn b point = point

abbrev pub reader_point : Option Bool → Bool → ReadPoint → ReadPoint
reader_point None b point = reader_drawn b point
reader_point (Some fact) b point = point

abbrev pub writer_point : Option Bool → Bool → WritePoint → WritePoint
writer_point None b point = writer_drawn b point
writer_point (Some fact) b point = point

abbrev pub destination_at : Option ℕ → List DestAct → Destination
destination_at None acts = Acts acts
destination_at (Some size) acts = Slice size

abbrev pub source_at : Source → List SourceAct → List SourceAct
source_at own acts = acts
source_at (these bytes) acts = SourceAct.Bytes bytes ∷ []
source_at nothing acts = []

abbrev pub lent_at : WriterAt → List ℕ
lent_at w = w.given ++ replicate w.spare 0

abbrev pub pipe_at : ℕ → ReaderAt → WriterAt → Words → Chance → List DestAct → Chance → List SourceAct → Pipe
pipe_at capacity r w s k acts l sources = record {
  capacity = capacity;
  unread = drop s.head s.sent;
  start = r.start;
  known = known_to r;
  room = room_to capacity w;
  lent = lent_at w;
  is_closed = s.is_closed;
  is_shut = w.is_shut;
  reader_waker = s.reader_slot;
  writer_waker = s.writer_slot;
  woken = [];
  reader = reader_point r.calling.draw k.draws r.point;
  reader_call = call_at r.calling k;
  writer = writer_point w.calling.draw l.draws w.point;
  writer_call = call_at w.calling l;
  destination = destination_at r.size acts;
  source = source_at w.source sources;
}

-- so many places may be lent where `most` are asked for
pub record MayLend (capacity most : ℕ) (w : WriterAt) (count : ℕ) : Type 0 where
  pub at_most : count ≤ min most (contiguous capacity w)
  pub at_least : w.is_shut ≡ false → min 4096 (min most (contiguous capacity w)) ≤ count
  pub shut : w.is_shut ≡ true → count ≡ 0

-- a source that is lent as many places gives these bytes
abbrev pub Gives : ℕ → Source → List ℕ → Type 0
Gives lent own given = length given ≤ lent
Gives lent nothing given = (given ≡ [])
Gives lent (these bytes) given = (length given ≡ min lent (length bytes)) × (given ≡ take (length given) bytes)

-- what the reader counts and what the writer counts, beside the true counts
pub record Counts (capacity head tail start : ℕ) (own seen end : ℕ) (published consumed : ℕ) : Type 0 where
  pub some : 1 ≤ capacity
  pub reads : head ≡ consumed
  pub writes : own ≡ published
  pub reader_head : head ≤ tail
  pub reader_tail : tail ≤ published
  pub writer_head : seen ≤ consumed
  pub writer_tail : own ≤ seen + capacity
  pub first : start < capacity
  pub last : end ≡ offset_of capacity (start + (published - consumed))

-- what the open call of the reader is about to do stays within what the reader knows, and its
-- point says nothing of a draw before that is made
pub record Reads (capacity : ℕ) (r : ReaderAt) : Type 0 where
  pub shown : head_store r.point ≤ shown capacity r
  pub draws : reader_point r.calling.draw false r.point ≡ r.point

-- the same of the writer
pub record Writes (capacity : ℕ) (w : WriterAt) : Type 0 where
  pub lent : length w.given + w.spare ≤ contiguous capacity w
  pub stores : tail_store w.point ≤ length w.given
  pub shut : w.is_shut ≡ true → length w.given + w.spare ≡ 0
  pub draws : writer_point w.calling.draw false w.point ≡ w.point

-- a pipe that the writer shut is closed, and a side that knows of no waker of its own is right
pub record Shares (is_shut is_closed reader_waits writer_waits : Bool) (reader_slot writer_slot : Option ℕ) : Type 0 where
  pub closed : is_shut ≡ true → is_closed ≡ true
  pub reader_rests : reader_waits ≡ false → reader_slot ≡ None
  pub writer_rests : writer_waits ≡ false → writer_slot ≡ None

-- what holds of both sides and the words at every moment
pub record Fits (capacity : ℕ) (r : ReaderAt) (w : WriterAt) (s : Words) : Type 0 where
  pub counts : Counts capacity r.head r.tail r.start w.tail w.head w.end (length s.sent) s.head
  pub reads : Reads capacity r
  pub writes : Writes capacity w
  pub shares : Shares w.is_shut s.is_closed r.may_wait w.may_wait s.reader_slot s.writer_slot
