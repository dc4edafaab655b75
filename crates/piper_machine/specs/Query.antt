-- What the queries of either side answer: what is there, and not what a side knows.
use Rattle.std.specs.Prelude.{ℕ, length, Bool, ◌==◌}
use Rattle.piper_machine.specs.Pipe.{Pipe}

abbrev pub unread_count : Pipe → ℕ
unread_count p = length p.unread

abbrev pub is_empty : Pipe → Bool
is_empty p = unread_count p == 0

abbrev pub is_full : Pipe → Bool
is_full p = unread_count p == p.capacity

abbrev pub is_closed : Pipe → Bool
is_closed p = p.is_closed
