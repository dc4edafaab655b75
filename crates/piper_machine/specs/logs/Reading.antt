-- Where the reader is after the lines of its log, and which line may come next.
use Rattle.std.specs.Prelude.{◌≡◌, ◌⊎◌, ℕ, ◌+◌, ◌-◌, ◌≤◌, min, List, [], ◌∷◌, length, Bool, true, false, Option, None, Some, IsSome, ◌==◌, ⊤}
use Rattle.piper_machine.specs.Types.{AfterRead, Answer, Side, Action, Found, Purpose, ReadPoint, Reader, Try, Polling, MOST_A_ROUND}
use Rattle.piper_protocol.specs.declared.table.Purpose.TheVariants.{Poll, Copy}
use Rattle.piper_protocol.specs.Index.{offset_of}
use Rattle.piper_protocol.specs.Table.{read_action, read_after, reader_looks_for}
use Rattle.piper_machine.specs.logs.Line.{Opening, Line, polls, try_drains, try_drains_with, poll_drains_bytes, poll_drains, consumes, drops, began, loaded_tail, loaded_closed, stored_head, stored_closed, loaded_slot, swapped, met_tail, knew_empty, took, failed, drew, refused, yielded, woke}
use Rattle.piper_machine.specs.logs.Calling.{Calling, no_calling, handed_over, calling_after, may_wait_after, told_by}

pub record ReaderAt : Type 0 where
  pub point : ReadPoint
  pub calling : Calling
  -- its waker may be in its own slot
  pub may_wait : Bool
  -- how many bytes it has consumed, and had found published when it loaded the tail last
  pub head : ℕ
  pub tail : ℕ
  -- the place in the buffer of the next byte
  pub start : ℕ
  -- how many places the open copy has still to fill, if its destination is a slice
  pub size : Option ℕ
  -- the bytes that its next store of the head gives up
  pub given : List ℕ

abbrev pub fresh_reader : ReaderAt
fresh_reader = record {
  point = ReadPoint.Idle;
  calling = no_calling;
  may_wait = false;
  head = 0;
  tail = 0;
  start = 0;
  size = Some 0;
  given = [];
}

abbrev pub known_to : ReaderAt → ℕ
known_to r = r.tail - r.head

-- how many bytes it can be shown in one piece
abbrev pub shown : ℕ → ReaderAt → ℕ
shown capacity r = min (known_to r) (capacity - r.start)

-- where a call begins

abbrev pub reader_looks : Purpose → Option ℕ → Option ℕ → ReaderAt → ReaderAt
reader_looks purpose waker size r = record r {
  point = reader_looks_for (known_to r == 0) purpose;
  calling = handed_over waker;
  size = size;
}

abbrev pub reader_begun : Opening → ReaderAt → ReaderAt
reader_begun (polls waker) r = reader_looks Poll (Some waker) r.size r
reader_begun (try_drains size) r = reader_looks (Copy Try) None (Some size) r
reader_begun try_drains_with r = reader_looks (Copy Try) None None r
reader_begun (poll_drains_bytes waker size) r =
    reader_looks (Copy (Polling false)) (Some waker) (Some size) r
reader_begun (poll_drains waker) r = reader_looks (Copy (Polling false)) (Some waker) None r
reader_begun (consumes bytes) r =
    record r { point = ReadPoint.StoreHead (length bytes) AfterRead.Answer; given = bytes }
reader_begun drops r = record r { point = ReadPoint.StoreClosed }
reader_begun opening r = r

-- where a line leads

abbrev pub reader_told : Line → ReaderAt → Found
reader_told (loaded_tail count) r = Found.IndexLoaded (count - r.head == 0)
reader_told (took bytes) r = Found.Moved (length bytes)
reader_told line r = told_by line

abbrev pub size_after : ℕ → Option ℕ → Option ℕ
size_after n None = None
size_after n (Some size) = Some (size - n)

-- what it changes apart from the point and the call
abbrev pub reader_changed : ℕ → Line → ReaderAt → ReaderAt
reader_changed capacity (loaded_tail count) r = record r { tail = count }
reader_changed capacity (stored_head bytes) r = record r {
  head = r.head + length bytes;
  start = offset_of capacity (r.start + length bytes);
}
reader_changed capacity (took bytes) r =
    record r { size = size_after (length bytes) r.size; given = bytes }
reader_changed capacity line r = r

-- a call that has returned holds nothing
abbrev pub reader_answered : Option Answer → ReaderAt → ReaderAt
reader_answered None r = r
reader_answered (Some answer) r = record r { calling = no_calling; size = Some 0 }

-- a line that is a step of the table
abbrev pub reader_stepped : ℕ → Line → ReaderAt → ReaderAt
reader_stepped capacity line r =
    let next = read_after capacity r.point (reader_told line r) in
    reader_answered next.answer (record (reader_changed capacity line r) {
      point = next.point;
      calling = calling_after line r.calling;
      may_wait = may_wait_after Reader line r.may_wait;
    })

-- a line by which a slot was found empty, or emptied: before the reader registers it is no step of
-- the table
abbrev pub reader_empties : ℕ → Action → Line → ReaderAt → ReaderAt
reader_empties capacity Action.Register line r =
    record r { may_wait = may_wait_after Reader line r.may_wait }
reader_empties capacity action line r = reader_stepped capacity line r

abbrev pub reader_after : ℕ → Line → ReaderAt → ReaderAt
reader_after capacity (began opening) r = reader_begun opening r
reader_after capacity (loaded_slot side true) r = r
reader_after capacity (loaded_slot side false) r =
    reader_empties capacity (read_action r.point) (loaded_slot side false) r
reader_after capacity (swapped side old None) r =
    reader_empties capacity (read_action r.point) (swapped side old None) r
reader_after capacity (drew is_drawn) r = record r {
  point = ReadPoint.LookTake (Copy (Polling is_drawn));
  calling = calling_after (drew is_drawn) r.calling;
}
reader_after capacity (met_tail count) r = record r { tail = count }
reader_after capacity line r = reader_stepped capacity line r

-- what the call returns with this line, if it is its last
abbrev pub reader_answers : ℕ → Line → ReaderAt → Option Answer
reader_answers capacity (began opening) r = None
reader_answers capacity (loaded_slot side true) r = None
reader_answers capacity (drew is_drawn) r = None
reader_answers capacity (met_tail count) r = None
reader_answers capacity line r = (read_after capacity r.point (reader_told line r)).answer

-- which line may come next

abbrev pub MayReaderBegin : ℕ → Opening → ReaderAt → Type 0
MayReaderBegin capacity (polls waker) r = ⊤
MayReaderBegin capacity (try_drains size) r = ⊤
MayReaderBegin capacity try_drains_with r = ⊤
MayReaderBegin capacity (poll_drains_bytes waker size) r = ⊤
MayReaderBegin capacity (poll_drains waker) r = ⊤
MayReaderBegin capacity (consumes bytes) r = length bytes ≤ shown capacity r
MayReaderBegin capacity drops r = ⊤
MayReaderBegin capacity opening r = ⊥

-- a slice takes what it is shown, as far as it has places; another destination takes what it likes
abbrev pub MayTake : ℕ → Option ℕ → ℕ → Type 0
MayTake shown None n = n ≤ shown
MayTake shown (Some size) n = (n ≡ min size shown)

-- a copy draws before it empties its own slot
abbrev pub HasDrawn : ReadPoint → Option Bool → Type 0
HasDrawn (ReadPoint.LookTake (Copy (Polling is_drawn))) draw = IsSome draw
HasDrawn point draw = ⊤

-- the table has next that this slot is emptied
abbrev pub IsToEmpty : Side → ReaderAt → Type 0
IsToEmpty side r = (read_action r.point ≡ Action.Take side) × HasDrawn r.point r.calling.draw

-- before it registers, the reader may look whether its waker is still in its slot, and take it out
abbrev pub MayWithdraw : Side → ReaderAt → Type 0
MayWithdraw side r =
    (side ≡ Reader) × (read_action r.point ≡ Action.Register) × (r.may_wait ≡ true)

-- the line is the step that the table has next, or comes before it registers
abbrev pub IsReaderNext : ℕ → Line → ReaderAt → Type 0
IsReaderNext capacity (began opening) r =
    (r.point ≡ ReadPoint.Idle) × MayReaderBegin capacity opening r
IsReaderNext capacity (loaded_tail count) r = (read_action r.point ≡ Action.LoadIndex)
IsReaderNext capacity (loaded_closed is_closed) r = (read_action r.point ≡ Action.LoadClosed)
IsReaderNext capacity (stored_head bytes) r =
    (read_action r.point ≡ Action.StoreHead (length bytes)) × (bytes ≡ r.given)
IsReaderNext capacity stored_closed r = (read_action r.point ≡ Action.StoreClosed false)
-- where the slot is found filled, the exchange is still to come
IsReaderNext capacity (loaded_slot side is_filled) r = IsToEmpty side r ⊎ MayWithdraw side r
IsReaderNext capacity (swapped side old None) r = IsToEmpty side r ⊎ MayWithdraw side r
IsReaderNext capacity (swapped side old (Some waker)) r =
    (side ≡ Reader) × (read_action r.point ≡ Action.Register) × (r.calling.handed ≡ Some waker)
    × (r.calling.granted ≡ None)
IsReaderNext capacity knew_empty r =
    (read_action r.point ≡ Action.Take Reader) × HasDrawn r.point r.calling.draw
    × (r.may_wait ≡ false)
IsReaderNext capacity (took bytes) r =
    (read_action r.point ≡ Action.CallDestination)
    × MayTake (min (shown capacity r) MOST_A_ROUND) r.size (length bytes)
IsReaderNext capacity failed r =
    (read_action r.point ≡ Action.CallDestination) × (r.size ≡ None)
IsReaderNext capacity (drew is_drawn) r =
    (r.point ≡ ReadPoint.LookTake (Copy (Polling false))) × (r.calling.draw ≡ None)
IsReaderNext capacity refused r =
    (read_action r.point ≡ Action.Register) × (r.calling.granted ≡ None)
IsReaderNext capacity (yielded waker) r =
    (read_action r.point ≡ Action.Yield) × (r.calling.handed ≡ Some waker)
IsReaderNext capacity (woke waker) r =
    (read_action r.point ≡ Action.Wake) × (r.calling.taken ≡ Some waker)
IsReaderNext capacity (met_tail count) r = (r.point ≡ ReadPoint.Idle)
IsReaderNext capacity line r = ⊥

-- the whole log, the last line first

abbrev pub reader_at : ℕ → List Line → ReaderAt
reader_at capacity [] = fresh_reader
reader_at capacity (line ∷ before) = reader_after capacity line (reader_at capacity before)

-- each line is the step that the table has next: the log is a list of runs of the table, of which
-- the last may be open
abbrev pub AreReaderRuns : ℕ → List Line → Type 0
AreReaderRuns capacity [] = ⊤
AreReaderRuns capacity (line ∷ before) =
    IsReaderNext capacity line (reader_at capacity before) × AreReaderRuns capacity before
