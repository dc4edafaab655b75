-- Conservation: the bytes consumed, followed by those unread, are those published.
use Rattle.std.specs.Prelude.{◌≡◌, ℕ, ◌%◌, List, [], ◌++◌, length}
use Rattle.std.specs.List.{flat_map}
use Rattle.piper_machine.specs.Types.{Event, Published, Consumed}
use Rattle.piper_machine.specs.Pipe.{Pipe}

abbrev pub consumed_in : Event → List ℕ
consumed_in (Consumed bytes) = bytes
consumed_in event = []

abbrev pub published_in : Event → List ℕ
published_in (Published bytes) = bytes
published_in event = []

-- the bytes of all these events, joined
abbrev pub consumed_of : List Event → List ℕ
consumed_of events = flat_map consumed_in events

abbrev pub published_of : List Event → List ℕ
published_of events = flat_map published_in events

pub record IsConserved (p : Pipe) (events : List Event) : Type 0 where
  -- first in, first out: nothing lost, doubled, changed or invented
  pub bytes : consumed_of events ++ p.unread ≡ published_of events
  -- the first unread byte is at the place that the count of consumed bytes says
  pub start : p.start ≡ length (consumed_of events) % p.capacity
