-- A side checks the other's index only where it knows nothing: no byte to read, or no room.
use Rattle.std.specs.Prelude.{◌-◌, length, if◌then◌else◌, ◌==◌}
use Rattle.piper_machine.specs.Pipe.{Pipe}

abbrev pub tail_loaded_if_empty : Pipe → Pipe
tail_loaded_if_empty p = record p { known = if p.known == 0 then length p.unread else p.known }

abbrev pub head_loaded_if_full : Pipe → Pipe
head_loaded_if_full p =
    record p { room = if p.room == 0 then p.capacity - length p.unread else p.room }
