-- What calls answer: over the log of a run, each side opens the
-- calls of the list of steps, and what they move and answer is right.
use Rattle.std.specs.Prelude.{◌≡◌, ℕ, List, [], ◌∷◌, ◌++◌, Option, IsSomeAnd, ⊤}
use Rattle.piper_machine.specs.Types.{Side, Call, Kind, Step, Event, Reader, Writer, Began, Published, Consumed, Answered}
use Rattle.piper_machine.specs.Call.{kind_of, waker_of}
use Rattle.piper_machine.specs.Noted.{Noted, unnoted, calls_of, noted_after}
use Rattle.piper_machine.specs.Outcome.{MayHaveMoved, IsAnswer}

-- the log reports the call that comes next in the list of steps
abbrev pub IsNext : List Call → Kind → Option ℕ → Type 0
IsNext [] kind waker = ⊥
IsNext (c ∷ cs) kind waker = (kind ≡ kind_of c) × (waker ≡ waker_of c)

-- what a side does next is right by what the log says of it
abbrev pub IsRight : ℕ → Side → Noted → Event → Type 0
IsRight capacity Reader t (Began Reader kind waker) = IsNext t.coming kind waker
IsRight capacity Writer t (Began Writer kind waker) = IsNext t.coming kind waker
IsRight capacity Reader t (Consumed bytes) =
    IsSomeAnd t.call (λ c. MayHaveMoved c (t.moved ++ bytes))
IsRight capacity Writer t (Published bytes) =
    IsSomeAnd t.call (λ c. MayHaveMoved c (t.moved ++ bytes))
IsRight capacity Reader t (Answered Reader answer) =
    IsSomeAnd t.call (λ c. IsAnswer capacity c t.looks t.moved answer)
IsRight capacity Writer t (Answered Writer answer) =
    IsSomeAnd t.call (λ c. IsAnswer capacity c t.looks t.moved answer)
IsRight capacity side t event = ⊤

abbrev pub AreRightFrom : ℕ → Side → Noted → List Event → Type 0
AreRightFrom capacity side t [] = ⊤
AreRightFrom capacity side t (e ∷ es) =
    IsRight capacity side t e × AreRightFrom capacity side (noted_after side t e) es

-- the events of a run of these steps: each side's calls move and answer what is right
abbrev pub AreAnswered : ℕ → List Step → List Event → Type 0
AreAnswered capacity steps events =
    (side : Side) → AreRightFrom capacity side (unnoted (calls_of side steps)) events
