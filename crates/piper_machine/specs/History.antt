-- What a log tells the reader: whether the pipe was closed, and what its call saw last.
use Rattle.std.specs.Prelude.{ℕ, List, [], ◌∷◌, Bool, true, false, Option, None, Some}
use Rattle.piper_machine.specs.Types.{Event, Reader, Began, Looked, Closed}
use Rattle.piper_machine.specs.declared.events.Seen.TheVariants.{Tail}

-- a load of the tail by the reader
pub record TailLoad : Type 0 where
  -- how many unread bytes it found
  pub count : ℕ
  -- an event Closed comes before it
  pub is_after_close : Bool

pub record History : Type 0 where
  -- an event Closed is in the log
  pub is_closed : Bool
  -- the last look of the reader's last call
  pub last_look : Option TailLoad

abbrev pub unwritten : History
unwritten = record { is_closed = false; last_look = None }

abbrev pub history_after : History → Event → History
history_after h (Closed side) = record h { is_closed = true }
history_after h (Began Reader kind waker) = record h { last_look = None }
history_after h (Looked Reader (Tail count)) =
    record h { last_look = Some (record { count = count; is_after_close = h.is_closed }) }
history_after h event = h

-- over a list of events, from a history on
abbrev pub history_from : History → List Event → History
history_from h [] = h
history_from h (e ∷ es) = history_from (history_after h e) es
