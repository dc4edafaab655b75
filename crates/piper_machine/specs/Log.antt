-- The events of a log.
use Rattle.std.specs.Prelude.{◌+◌, ◌≤◌, vec_len, vec_capacity, List, [], ◌∷◌, Option, None, Some}
use Rattle.piper_machine.specs.Types.{Side, Answer, Event, Answered}
use Rattle.piper_machine.specs.declared.events.Log.{Log}

abbrev pub events : Log → List Event
events log = log.items.items

-- an event, if there is one
abbrev pub listed : Option Event → List Event
listed None = []
listed (Some event) = event ∷ []

-- the event of an answer, if there is one
abbrev pub answer_event : Side → Option Answer → List Event
answer_event side None = []
answer_event side (Some answer) = Answered side answer ∷ []

-- room was made for the events of one step
abbrev pub HasRoom : Log → Type 0
HasRoom log = vec_len log.items + 2 ≤ vec_capacity log.items
