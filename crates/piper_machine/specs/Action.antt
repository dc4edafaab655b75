-- The atomic steps of a side, by their kinds:
-- what each changes, what it finds, and what is logged of it.
use Rattle.std.specs.Prelude.{ℕ, ◌-◌, min, List, [], ◌∷◌, ◌++◌, take, drop, length, Bool, true, false, Option, None, Some, ◌==◌, is_some}
use Rattle.piper_machine.specs.Types.{Seen, Side, OpenCall, Context, Action, Event, Found, Reader, Writer, Looked, Published, Consumed, Closed, Registered, Woken, MOST_A_ROUND, Nothing as nothing, Unread as unread, IndexLoaded as index_loaded, Granted as granted, Waker as waker}
use Rattle.piper_machine.specs.Open.{is_granted, is_yield_granted}
use Rattle.piper_machine.specs.Pipe.{Pipe}
use Rattle.piper_machine.specs.Places.{peeked_count}
use Rattle.piper_machine.specs.Move.{published, consumed}
use Rattle.piper_machine.specs.Source.{bytes_of}
use Rattle.piper_machine.specs.Round.{given, taken, left_of_source, left_of_destination, found_of, moved_by}
use Rattle.piper_protocol.specs.declared.table.Found.TheVariants.{Flag as flag}

-- what the open call of a side holds
abbrev pub call_of : Side → Pipe → OpenCall
call_of Reader p = p.reader_call
call_of Writer p = p.writer_call

abbrev pub with_call : Side → OpenCall → Pipe → Pipe
with_call Reader c p = record p { reader_call = c }
with_call Writer c p = record p { writer_call = c }

-- the slots, and the wakers in them
abbrev pub waker_in : Side → Pipe → Option ℕ
waker_in Reader p = p.reader_waker
waker_in Writer p = p.writer_waker

abbrev pub with_waker_in : Side → Option ℕ → Pipe → Pipe
with_waker_in Reader name p = record p { reader_waker = name }
with_waker_in Writer name p = record p { writer_waker = name }

-- a side takes in the other's index
abbrev pub index_loaded_by : Side → Pipe → Pipe
index_loaded_by Reader p = record p { known = length p.unread }
index_loaded_by Writer p = record p { room = p.capacity - length p.unread }

-- the waker of a context goes into a slot, if its clone is granted
abbrev pub registered_if : Bool → ℕ → Option ℕ → Option ℕ
registered_if false name slot = slot
registered_if true name slot = Some name

abbrev pub registered_in : Option Context → Option ℕ → Option ℕ
registered_in None slot = slot
registered_in (Some cx) slot = registered_if cx.luck.register_granted cx.waker slot

-- a slot is emptied, and the call holds what was there
abbrev pub taken_by : Side → Side → Pipe → Pipe
taken_by side slot p =
    with_call side (record (call_of side p) { taken = waker_in slot p }) (with_waker_in slot None p)

abbrev pub closed_by : Bool → Pipe → Pipe
closed_by false p = record p { is_closed = true }
closed_by true p = record p { is_closed = true; is_shut = true; lent = [] }

-- what a destination is lent at most
abbrev pub round_count : Pipe → ℕ
round_count p = min (peeked_count p) MOST_A_ROUND

abbrev pub destination_called : Pipe → Pipe
destination_called p = record p { destination = left_of_destination (round_count p) p.destination }

-- what the source gives is at the front of what it was lent
abbrev pub source_called : Pipe → Pipe
source_called p = let n = moved_by (given (length p.lent) p.source) in
    record p {
      lent = take n (bytes_of p.source) ++ drop n p.lent;
      source = left_of_source n p.source;
    }

-- the pipe after a step of this side
abbrev pub performed : Side → Action → Pipe → Pipe
performed side Action.Rest p = p
performed side Action.LoadHead p = p
performed side Action.LoadTail p = p
performed side Action.LoadIndex p = index_loaded_by side p
performed side Action.LoadClosed p = p
performed side Action.Register p =
    with_waker_in side (registered_in (call_of side p).context (waker_in side p)) p
performed side (Action.StoreHead n) p = consumed n p
performed side (Action.StoreTail n) p = published n p
performed side (Action.StoreClosed is_shut) p = closed_by is_shut p
performed side (Action.Take slot) p = taken_by side slot p
performed side Action.Wake p = with_call side (record (call_of side p) { taken = None }) p
performed side Action.Yield p = p
performed side Action.CallDestination p = destination_called p
performed side Action.CallSource p = source_called p

-- what the step finds: the reader's count of unread bytes is
-- that of its load of tail, the writer's that of its load of head
abbrev pub found_by : Side → Action → Pipe → Found
found_by Reader Action.LoadTail p = unread (length p.unread)
found_by Writer Action.LoadHead p = unread (length p.unread)
found_by Reader Action.LoadIndex p = index_loaded (length p.unread == 0)
found_by Writer Action.LoadIndex p = index_loaded (p.capacity - length p.unread == 0)
found_by side Action.LoadClosed p = flag p.is_closed
found_by side Action.Register p = granted (is_granted (call_of side p).context)
found_by side Action.Yield p = granted (is_yield_granted (call_of side p).context)
found_by Reader Action.CallDestination p = found_of (taken (round_count p) p.destination)
found_by Writer Action.CallSource p = found_of (given (length p.lent) p.source)
found_by Reader (Action.Take Writer) p = waker (is_some p.writer_waker)
found_by Writer (Action.Take slot) p = waker (is_some (waker_in slot p))
found_by side action p = nothing

-- what is logged of the step

abbrev pub registration : Side → Bool → ℕ → List Event
registration side false name = []
registration side true name = Registered side name ∷ []

abbrev pub registration_of : Side → Option Context → List Event
registration_of side None = []
registration_of side (Some cx) = registration side cx.luck.register_granted cx.waker

abbrev pub index_event : Side → ℕ → Event
index_event Reader count = Looked Reader (Seen.Tail count)
index_event Writer count = Looked Writer (Seen.Head count)

abbrev pub wake_of : Option ℕ → List Event
wake_of None = []
wake_of (Some name) = Woken name ∷ []

abbrev pub woken_if : Bool → ℕ → List Event
woken_if false name = []
woken_if true name = Woken name ∷ []

abbrev pub yield_of : Option Context → List Event
yield_of None = []
yield_of (Some cx) = woken_if cx.luck.yield_granted cx.waker

abbrev pub logged_of : Side → Action → Pipe → List Event
logged_of side Action.Rest p = []
logged_of side Action.LoadHead p = Looked side (Seen.Head (length p.unread)) ∷ []
logged_of side Action.LoadTail p = Looked side (Seen.Tail (length p.unread)) ∷ []
logged_of side Action.LoadIndex p = index_event side (length p.unread) ∷ []
logged_of side Action.LoadClosed p = Looked side (Seen.Closed p.is_closed) ∷ []
logged_of side Action.Register p = registration_of side (call_of side p).context
logged_of side (Action.StoreHead n) p = Consumed (take n p.unread) ∷ []
logged_of side (Action.StoreTail n) p = Published (take n p.lent) ∷ []
logged_of side (Action.StoreClosed is_shut) p = Closed side ∷ []
logged_of side (Action.Take slot) p = []
logged_of side Action.Wake p = wake_of (call_of side p).taken
logged_of side Action.Yield p = yield_of (call_of side p).context
logged_of side Action.CallDestination p = []
logged_of side Action.CallSource p = []
