-- The first front of a run is the fresh pipe with an empty log, and the last is where the run led.
use Rattle.std.specs.Prelude.{◌≡◌, ℕ, List, [], ◌∷◌}
use Rattle.piper_machine.specs.Types.{Step, Event}
use Rattle.piper_machine.specs.Pipe.{Pipe, fresh}
use Rattle.piper_machine.specs.Front.{Front}

first_front : (capacity : ℕ) (steps : List Step) (p : Pipe) (events : List Event) (front : Front capacity steps 0 p events)
    → (front.pipe ≡ fresh capacity) × (front.log ≡ [])
first_front capacity steps p events front = (front.runs.0, front.runs.1)

last_front : (capacity : ℕ) (s t : Step) (p : Pipe) (events : List Event) (front : Front capacity (s ∷ t ∷ []) 2 p events)
    → (p ≡ front.pipe) × (events ≡ front.log)
last_front capacity s t p events front = (front.rest.0, front.rest.1)

-- a number past the last step names that front, too
past_the_last : (capacity : ℕ) (s : Step) (p : Pipe) (events : List Event) (front : Front capacity (s ∷ []) 5 p events) → p ≡ front.pipe
past_the_last capacity s p events front = front.rest.0
