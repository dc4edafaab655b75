-- When a side has to wait, and when the other side is about to wake it.
use Rattle.std.specs.Prelude.{◌≡◌, [], length, Bool, true, false}
use Rattle.piper_machine.specs.Types.{Side, ReadPoint, WritePoint, Reader, Writer}
use Rattle.piper_machine.specs.Pipe.{Pipe}

-- an open pipe with nothing to do for this side
abbrev pub IsBlocked : Side → Pipe → Type 0
IsBlocked Reader p = (p.unread ≡ []) × (p.is_closed ≡ false)
IsBlocked Writer p = (length p.unread ≡ p.capacity) × (p.is_closed ≡ false)

abbrev pub is_waking_writer : ReadPoint → Bool
is_waking_writer (ReadPoint.TakeWriter next) = true
is_waking_writer (ReadPoint.WakeWriter next) = true
is_waking_writer point = false

abbrev pub is_waking_reader : WritePoint → Bool
is_waking_reader (WritePoint.TakeReader next) = true
is_waking_reader (WritePoint.WakeReader next) = true
is_waking_reader point = false

-- for this side, the other is between a store and the end of the wake that belongs to it
abbrev pub is_between : Side → Pipe → Bool
is_between Reader p = is_waking_reader p.writer
is_between Writer p = is_waking_writer p.reader
