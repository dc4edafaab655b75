-- What a call saw of the close, and where a call of the reader finds the end: it checks closed and
-- finds it, and after that it finds no byte.
use Rattle.std.specs.Prelude.{List, [], ◌∷◌, Bool, false}
use Rattle.piper_machine.specs.Types.{Side, Event, Reader, Writer, Began, Looked}
use Rattle.piper_machine.specs.declared.events.Seen.TheVariants.{Tail, Closed}

-- whether a side's last call checked closed and found it
abbrev pub saw_closed_after : Side → Bool → Event → Bool
saw_closed_after Reader saw (Began Reader kind waker) = false
saw_closed_after Writer saw (Began Writer kind waker) = false
saw_closed_after Reader saw (Looked Reader (Closed is_closed)) = is_closed
saw_closed_after Writer saw (Looked Writer (Closed is_closed)) = is_closed
saw_closed_after side saw event = saw

-- over a list of events
abbrev pub saw_closed_from : Side → Bool → List Event → Bool
saw_closed_from side saw [] = saw
saw_closed_from side saw (e ∷ es) = saw_closed_from side (saw_closed_after side saw e) es

abbrev pub saw_closed : Side → List Event → Bool
saw_closed side events = saw_closed_from side false events

-- the reader finds no byte
abbrev pub found_none : Event
found_none = Looked Reader (Tail 0)
