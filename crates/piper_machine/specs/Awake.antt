-- No two sleepers: an empty pipe blocks the reader alone, and a full one the writer alone.
use Rattle.std.specs.Prelude.{◌≡◌, ◌⊎◌, List, true}
use Rattle.piper_machine.specs.Types.{Event, Reader, Writer}
use Rattle.piper_machine.specs.Pipe.{Pipe}
use Rattle.piper_machine.specs.Refusal.{IsIdle}
use Rattle.piper_machine.specs.Remembered.{WasCalled}
use Rattle.piper_machine.specs.Wait.{wait_of}

-- if both sides are outside any call, and the last polling call of each returned pending, one of
-- their wakers was called since
abbrev pub IsAwake : Pipe → List Event → Type 0
IsAwake p events =
    IsIdle Reader p → IsIdle Writer p
    → (wait_of Reader events).is_pending ≡ true → (wait_of Writer events).is_pending ≡ true
    → WasCalled (wait_of Reader events) ⊎ WasCalled (wait_of Writer events)
