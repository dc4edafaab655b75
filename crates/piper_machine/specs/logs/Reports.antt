-- What the machine reports of each line.
use Rattle.std.specs.Prelude.{ℕ, ◌-◌, List, [], ◌∷◌, ◌++◌, length, Option, None, Some}
use Rattle.piper_machine.specs.Types.{Seen, Side, Kind, Event, Lent, Reader, Writer, Answered, Began, Closed, Consumed, Looked, Published, Registered, Woken}
use Rattle.piper_machine.specs.Log.{answer_event}
use Rattle.piper_machine.specs.logs.Line.{Opening, Line, polls, try_drains, try_drains_with, poll_drains_bytes, poll_drains, consumes, try_fills, try_fills_with, poll_fills_bytes, poll_fills, produces, closes, drops, began, loaded_head, loaded_tail, loaded_closed, stored_head, stored_tail, stored_closed, swapped, yielded, woke}
use Rattle.piper_machine.specs.logs.OneList.{By, by, did}
use Rattle.piper_machine.specs.logs.Reading.{ReaderAt, reader_answers, reader_at}
use Rattle.piper_machine.specs.logs.Writing.{WriterAt, writer_answers, writer_at}

abbrev pub kind_in : Opening → Kind
kind_in (polls waker) = Kind.Poll
kind_in (try_drains size) = Kind.TryDrain
kind_in try_drains_with = Kind.TryDrain
kind_in (poll_drains_bytes waker size) = Kind.PollDrainBytes
kind_in (poll_drains waker) = Kind.PollDrain
kind_in (consumes bytes) = Kind.Consume
kind_in (try_fills bytes) = Kind.TryFill
kind_in try_fills_with = Kind.TryFill
kind_in (poll_fills_bytes waker bytes) = Kind.PollFillBytes
kind_in (poll_fills waker) = Kind.PollFill
kind_in (produces bytes) = Kind.Produced
kind_in closes = Kind.Close
kind_in drops = Kind.Drop

abbrev pub waker_in : Opening → Option ℕ
waker_in (polls waker) = Some waker
waker_in (poll_drains_bytes waker size) = Some waker
waker_in (poll_drains waker) = Some waker
waker_in (poll_fills_bytes waker bytes) = Some waker
waker_in (poll_fills waker) = Some waker
waker_in opening = None

-- a lend has no line: it comes before the call that publishes
abbrev pub lend_in : Opening → List Event
lend_in (produces bytes) =
    Began Writer Kind.WriteBuf None ∷ Answered Writer (Lent (length bytes)) ∷ []
lend_in opening = []

-- the event of a line, if it has one

abbrev pub event_of : Side → Line → List Event
event_of side (began opening) =
    lend_in opening ++ Began side (kind_in opening) (waker_in opening) ∷ []
event_of side (loaded_closed is_closed) = Looked side (Seen.Closed is_closed) ∷ []
event_of side stored_closed = Closed side ∷ []
event_of side (swapped slot old (Some waker)) = Registered side waker ∷ []
event_of side (yielded waker) = Woken waker ∷ []
event_of side (woke waker) = Woken waker ∷ []
event_of side line = []

-- the machine counts the unread bytes, and a line all bytes
abbrev pub reader_event : Line → ReaderAt → List Event
reader_event (loaded_tail count) r = Looked Reader (Seen.Tail (count - r.head)) ∷ []
reader_event (stored_head bytes) r = Consumed bytes ∷ []
reader_event line r = event_of Reader line

abbrev pub writer_event : Line → WriterAt → List Event
writer_event (loaded_head count) w = Looked Writer (Seen.Head (w.tail - count)) ∷ []
writer_event (stored_tail bytes) w = Published bytes ∷ []
writer_event line w = event_of Writer line

-- and the call's answer, if it is its last line

abbrev pub reader_reports : ℕ → Line → ReaderAt → List Event
reader_reports capacity line r =
    reader_event line r ++ answer_event Reader (reader_answers capacity line r)

abbrev pub writer_reports : ℕ → Line → WriterAt → List Event
writer_reports capacity line w =
    writer_event line w ++ answer_event Writer (writer_answers capacity line w)

-- of what both sides did, oldest first
abbrev pub events_of : ℕ → List (By Line) → List Event
events_of capacity [] = []
events_of capacity (by Reader line ∷ before) =
    events_of capacity before
    ++ reader_reports capacity line (reader_at capacity (did Reader before))
events_of capacity (by Writer line ∷ before) =
    events_of capacity before
    ++ writer_reports capacity line (writer_at capacity (did Writer before))
