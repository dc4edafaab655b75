-- What the examples say.
use Rattle.std.specs.Prelude.{◌≡◌, ◌≢◌, ℕ, ◌≤◌, List, [], ◌∷◌, ◌++◌, length}
use Rattle.piper_machine.specs.Types.{Side, Answer, Event, Reader, Busy, Answered}
use Rattle.piper_machine.specs.Pipe.{Pipe}
use Rattle.piper_machine.specs.Refusal.{state_of}
use Rattle.piper_machine.specs.Conservation.{consumed_of, published_of}
use Rattle.piper_machine.specs.Final.{told_end}
use Rattle.piper_machine.specs.Places.{HeldByReader, HeldByWriter}

-- what becomes of the bytes, in whatever order the steps of both sides are made
pub record KeepsBytes (capacity : ℕ) (p : Pipe) (events : List Event) : Type 0 where
  pub first_in_first_out : consumed_of events ++ p.unread ≡ published_of events
  pub never_overfull : length p.unread ≤ capacity
  pub no_place_is_shared : (place : ℕ) → HeldByReader p place → HeldByWriter p place → ⊥
  pub nothing_is_left_at_the_end : (before after : List Event) →
      events ≡ before ++ told_end ∷ after → consumed_of events ≡ published_of events

-- a side that has no open call: it is idle, or was dropped
abbrev pub IsOutside : Side → Pipe → Type 0
IsOutside side p = state_of side p ≢ Busy

-- a call that has just answered so: the answer is what the log reports last
pub record IsReportedLast (answer : Answer) (before after : List Event) : Type 0 where
  pub log : List Event
  pub events : after ≡ before ++ (log ++ Answered Reader answer ∷ [])
