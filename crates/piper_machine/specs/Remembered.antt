-- No forgotten waiter: a side that was left pending was called since, or has nothing to do and its
-- waker in its slot, or is about to be called.
use Rattle.std.specs.Prelude.{◌≡◌, ◌⊎◌, List, true, Some}
use Rattle.piper_machine.specs.Types.{Side, Event, Reader, Writer}
use Rattle.piper_machine.specs.Pipe.{Pipe}
use Rattle.piper_machine.specs.Action.{call_of, waker_in}
use Rattle.piper_machine.specs.Refusal.{IsIdle}
use Rattle.piper_machine.specs.Waiting.{IsBlocked, is_between}
use Rattle.piper_machine.specs.Wait.{Wait, wait_of}

abbrev pub other : Side → Side
other Reader = Writer
other Writer = Reader

abbrev pub WasCalled : Wait → Type 0
WasCalled w = (w.is_woken ≡ true)

-- there is nothing to do, and the waker is ready for the other side
abbrev pub WaitsRegistered : Side → Pipe → Wait → Type 0
WaitsRegistered side p w = (waker_in side p ≡ Some w.handed) × IsBlocked side p

-- the other side is between a store and its wake: the waker is in the slot that it empties, or
-- taken
abbrev pub IsAboutToBeCalled : Side → Pipe → Wait → Type 0
IsAboutToBeCalled side p w =
    (is_between side p ≡ true)
    × ((waker_in side p ≡ Some w.handed) ⊎ ((call_of (other side) p).taken ≡ Some w.handed))

abbrev pub IsRemembered : Side → Pipe → Wait → Type 0
IsRemembered side p w = WasCalled w ⊎ (WaitsRegistered side p w ⊎ IsAboutToBeCalled side p w)

-- each side outside any call whose last polling call returned pending
abbrev pub AreRemembered : Pipe → List Event → Type 0
AreRemembered p events = (side : Side) → IsIdle side p →
    let w = wait_of side events in w.is_pending ≡ true → IsRemembered side p w
