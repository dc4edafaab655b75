-- Where the writer is after the lines of its log, and which line may come next.
use Rattle.std.specs.Prelude.{◌≡◌, ◌⊎◌, ℕ, ◌+◌, ◌-◌, ◌<◌, ◌≤◌, min, List, [], ◌∷◌, length, take, drop, Bool, true, false, Option, None, Some, IsSome, ◌==◌, if◌then◌else◌, ⊤}
use Rattle.piper_machine.specs.Types.{AfterWrite, Answer, Side, Action, Found, Purpose, WritePoint, Writer, Try, Polling, MOST_A_ROUND}
use Rattle.piper_protocol.specs.declared.table.Purpose.TheVariants.{Poll, Copy}
use Rattle.piper_protocol.specs.Index.{offset_of}
use Rattle.piper_protocol.specs.Table.{ends_fill, write_action, write_after}
use Rattle.piper_machine.specs.logs.Line.{Opening, Line, polls, try_fills, try_fills_with, poll_fills_bytes, poll_fills, produces, closes, drops, began, loaded_head, loaded_closed, stored_tail, stored_closed, loaded_slot, swapped, met_head, knew_empty, gave, failed, drew, refused, yielded, woke}
use Rattle.piper_machine.specs.logs.Calling.{Calling, no_calling, handed_over, calling_after, may_wait_after, told_by}

-- what the open fill takes bytes from: a source of the caller's own, these bytes, or nothing that
-- is left
pub data Source : Type 0 where
  own : Source
  these : List ℕ → Source
  nothing : Source

abbrev pub source_of : List ℕ → Source
source_of [] = nothing
source_of (byte ∷ bytes) = these (byte ∷ bytes)

-- after it gave n bytes
abbrev pub source_after : ℕ → Source → Source
source_after n own = own
source_after n nothing = nothing
source_after n (these bytes) = source_of (drop n bytes)

pub record WriterAt : Type 0 where
  pub point : WritePoint
  pub calling : Calling
  -- its waker may be in its own slot
  pub may_wait : Bool
  -- how many bytes it has published, and had found consumed when it loaded the head last
  pub tail : ℕ
  pub head : ℕ
  -- the place in the buffer of the next byte
  pub end : ℕ
  pub is_shut : Bool
  pub source : Source
  -- the bytes that its next store of the tail publishes, and how many more places are lent
  pub given : List ℕ
  pub spare : ℕ

abbrev pub fresh_writer : WriterAt
fresh_writer = record {
  point = WritePoint.Idle;
  calling = no_calling;
  may_wait = false;
  tail = 0;
  head = 0;
  end = 0;
  is_shut = false;
  source = nothing;
  given = [];
  spare = 0;
}

abbrev pub room_to : ℕ → WriterAt → ℕ
room_to capacity w = capacity - (w.tail - w.head)

-- how many free places it knows of in one piece
abbrev pub contiguous : ℕ → WriterAt → ℕ
contiguous capacity w = min (room_to capacity w) (capacity - w.end)

abbrev pub unless : Bool → ℕ → ℕ
unless true n = 0
unless false n = n

-- how many of them it may be lent, and a source in one round: of a pipe that it shut none
abbrev pub lendable : ℕ → WriterAt → ℕ
lendable capacity w = unless w.is_shut (contiguous capacity w)

abbrev pub most_lent : ℕ → WriterAt → ℕ
most_lent capacity w = min MOST_A_ROUND (lendable capacity w)

-- where a call begins

abbrev pub writer_looks : Purpose → Option ℕ → Source → WriterAt → WriterAt
writer_looks purpose waker source w = record w {
  point = WritePoint.LookClosed purpose;
  calling = handed_over waker;
  source = source;
}

abbrev pub writer_begun : Opening → WriterAt → WriterAt
writer_begun (polls waker) w = writer_looks Poll (Some waker) w.source w
writer_begun (try_fills bytes) w =
    writer_looks (Copy Try) None (these bytes) w
writer_begun try_fills_with w = writer_looks (Copy Try) None own w
writer_begun (poll_fills_bytes waker bytes) w =
    writer_looks (Copy (Polling false)) (Some waker) (these bytes) w
writer_begun (poll_fills waker) w = writer_looks (Copy (Polling false)) (Some waker) own w
writer_begun (produces bytes) w = record w {
  point = WritePoint.StoreTail (length bytes) AfterWrite.Answer;
  given = bytes;
  spare = 0;
}
writer_begun closes w = record w { point = WritePoint.StoreClosed AfterWrite.WakeWriter }
writer_begun drops w = record w { point = WritePoint.StoreClosed AfterWrite.Drop }
writer_begun opening w = w

-- where a line leads

abbrev pub writer_told : ℕ → Line → WriterAt → Found
writer_told capacity (loaded_head count) w =
    Found.IndexLoaded (capacity - (w.tail - count) == 0)
writer_told capacity (gave bytes) w = Found.Moved (length bytes)
writer_told capacity line w = told_by line

-- how many places a source is lent that gives n bytes: the most, or just these, if more were left
-- that it was to give
abbrev pub lent_for : ℕ → Source → ℕ → ℕ
lent_for most own n = most
lent_for most nothing n = most
lent_for most (these bytes) n = if n == length bytes then most else n

-- a close by the writer's own call shuts the pipe, and leaves nothing lent
abbrev pub shut_at : WritePoint → WriterAt → WriterAt
shut_at (WritePoint.StoreClosed AfterWrite.WakeWriter) w =
    record w { is_shut = true; given = []; spare = 0 }
shut_at point w = w

-- what it changes apart from the point and the call
abbrev pub writer_changed : ℕ → Line → WriterAt → WriterAt
writer_changed capacity (loaded_head count) w = record w { head = count }
writer_changed capacity (stored_tail bytes) w = record w {
  tail = w.tail + length bytes;
  end = offset_of capacity (w.end + length bytes);
  given = [];
}
writer_changed capacity stored_closed w = shut_at w.point w
writer_changed capacity (gave bytes) w = record w {
  source = source_after (length bytes) w.source;
  given = bytes;
  spare = lent_for (most_lent capacity w) w.source (length bytes) - length bytes;
}
writer_changed capacity line w = w

-- a fill that has returned leaves nothing lent
abbrev pub unlent_if : Bool → WriterAt → WriterAt
unlent_if true w = record w { given = []; spare = 0 }
unlent_if false w = w

-- a call that has returned holds nothing; `is_fill` is whether it was a fill that returned
abbrev pub writer_answered : Bool → Option Answer → WriterAt → WriterAt
writer_answered is_fill None w = w
writer_answered is_fill (Some answer) w =
    unlent_if is_fill (record w { calling = no_calling; source = nothing })

-- a line that is a step of the table
abbrev pub writer_stepped : ℕ → Line → WriterAt → WriterAt
writer_stepped capacity line w =
    let next = write_after capacity (room_to capacity w) w.point (writer_told capacity line w) in
    writer_answered (ends_fill w.point) next.answer (record (writer_changed capacity line w) {
      point = next.point;
      calling = calling_after line w.calling;
      may_wait = may_wait_after Writer line w.may_wait;
    })

-- a line by which a slot was found empty, or emptied: before the writer registers it is no step of
-- the table
abbrev pub writer_empties : ℕ → Action → Line → WriterAt → WriterAt
writer_empties capacity Action.Register line w =
    record w { may_wait = may_wait_after Writer line w.may_wait }
writer_empties capacity action line w = writer_stepped capacity line w

abbrev pub writer_after : ℕ → Line → WriterAt → WriterAt
writer_after capacity (began opening) w = writer_begun opening w
writer_after capacity (loaded_slot side true) w = w
writer_after capacity (loaded_slot side false) w =
    writer_empties capacity (write_action w.point) (loaded_slot side false) w
writer_after capacity (swapped side old None) w =
    writer_empties capacity (write_action w.point) (swapped side old None) w
writer_after capacity (drew is_drawn) w = record w {
  point = WritePoint.LookTake (Copy (Polling is_drawn));
  calling = calling_after (drew is_drawn) w.calling;
}
writer_after capacity (met_head count) w = record w { head = count }
writer_after capacity line w = writer_stepped capacity line w

-- what the call returns with this line, if it is its last
abbrev pub writer_answers : ℕ → Line → WriterAt → Option Answer
writer_answers capacity (began opening) w = None
writer_answers capacity (loaded_slot side true) w = None
writer_answers capacity (drew is_drawn) w = None
writer_answers capacity (met_head count) w = None
writer_answers capacity line w =
    (write_after capacity (room_to capacity w) w.point (writer_told capacity line w)).answer

-- which line may come next

abbrev pub MayWriterBegin : ℕ → Opening → WriterAt → Type 0
MayWriterBegin capacity (polls waker) w = ⊤
MayWriterBegin capacity (try_fills bytes) w = ⊤
MayWriterBegin capacity try_fills_with w = ⊤
MayWriterBegin capacity (poll_fills_bytes waker bytes) w = ⊤
MayWriterBegin capacity (poll_fills waker) w = ⊤
MayWriterBegin capacity (produces bytes) w = length bytes ≤ lendable capacity w
MayWriterBegin capacity closes w = ⊤
MayWriterBegin capacity drops w = ⊤
MayWriterBegin capacity opening w = ⊥

-- a source of the caller's own gives at most what it may be lent. Bytes that were handed over are
-- given from their front: all that are left, or at least as many as a lend has at least, which are
-- 4096 or the most that may be lent
abbrev pub MayGive : ℕ → Source → List ℕ → Type 0
MayGive most own given = length given ≤ most
MayGive most nothing given = (given ≡ [])
MayGive most (these bytes) given =
    (given ≡ take (length given) bytes) × (length given ≤ most)
    × (length given < length bytes → min 4096 most ≤ length given)

-- a copy draws before it empties its own slot
abbrev pub HasDrawn : WritePoint → Option Bool → Type 0
HasDrawn (WritePoint.LookTake (Copy (Polling is_drawn))) draw = IsSome draw
HasDrawn point draw = ⊤

-- the table has next that this slot is emptied
abbrev pub IsToEmpty : Side → WriterAt → Type 0
IsToEmpty side w = (write_action w.point ≡ Action.Take side) × HasDrawn w.point w.calling.draw

-- before it registers, the writer may look whether its waker is still in its slot, and take it out
abbrev pub MayWithdraw : Side → WriterAt → Type 0
MayWithdraw side w =
    (side ≡ Writer) × (write_action w.point ≡ Action.Register) × (w.may_wait ≡ true)

-- the line is the step that the table has next, or comes before it registers
abbrev pub IsWriterNext : ℕ → Line → WriterAt → Type 0
IsWriterNext capacity (began opening) w =
    (w.point ≡ WritePoint.Idle) × MayWriterBegin capacity opening w
IsWriterNext capacity (loaded_head count) w = (write_action w.point ≡ Action.LoadIndex)
IsWriterNext capacity (loaded_closed is_closed) w = (write_action w.point ≡ Action.LoadClosed)
IsWriterNext capacity (stored_tail bytes) w =
    (write_action w.point ≡ Action.StoreTail (length bytes)) × (bytes ≡ w.given)
IsWriterNext capacity stored_closed w =
    (write_action w.point ≡ Action.StoreClosed false) ⊎ (write_action w.point ≡ Action.StoreClosed true)
-- where the slot is found filled, the exchange is still to come
IsWriterNext capacity (loaded_slot side is_filled) w = IsToEmpty side w ⊎ MayWithdraw side w
IsWriterNext capacity (swapped side old None) w = IsToEmpty side w ⊎ MayWithdraw side w
IsWriterNext capacity (swapped side old (Some waker)) w =
    (side ≡ Writer) × (write_action w.point ≡ Action.Register) × (w.calling.handed ≡ Some waker)
    × (w.calling.granted ≡ None)
IsWriterNext capacity knew_empty w =
    (write_action w.point ≡ Action.Take Writer) × HasDrawn w.point w.calling.draw
    × (w.may_wait ≡ false)
IsWriterNext capacity (gave bytes) w =
    (write_action w.point ≡ Action.CallSource) × MayGive (most_lent capacity w) w.source bytes
IsWriterNext capacity failed w =
    (write_action w.point ≡ Action.CallSource) × (w.source ≡ own)
IsWriterNext capacity (drew is_drawn) w =
    (w.point ≡ WritePoint.LookTake (Copy (Polling false))) × (w.calling.draw ≡ None)
IsWriterNext capacity refused w =
    (write_action w.point ≡ Action.Register) × (w.calling.granted ≡ None)
IsWriterNext capacity (yielded waker) w =
    (write_action w.point ≡ Action.Yield) × (w.calling.handed ≡ Some waker)
IsWriterNext capacity (woke waker) w =
    (write_action w.point ≡ Action.Wake) × (w.calling.taken ≡ Some waker)
IsWriterNext capacity (met_head count) w = (w.point ≡ WritePoint.Idle)
IsWriterNext capacity line w = ⊥

-- the whole log, the last line first

abbrev pub writer_at : ℕ → List Line → WriterAt
writer_at capacity [] = fresh_writer
writer_at capacity (line ∷ before) = writer_after capacity line (writer_at capacity before)

-- each line is the step that the table has next: the log is a list of runs of the table, of which
-- the last may be open
abbrev pub AreWriterRuns : ℕ → List Line → Type 0
AreWriterRuns capacity [] = ⊤
AreWriterRuns capacity (line ∷ before) =
    IsWriterNext capacity line (writer_at capacity before) × AreWriterRuns capacity before
