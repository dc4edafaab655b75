-- How often a call calls its destination or its source.
use Rattle.std.specs.Prelude.{ℕ, ◌+◌, ◌≤◌, List, [], ◌∷◌, Bool, true, false}
use Rattle.piper_machine.specs.Types.{Side, Step, Event, Action, Begin, Go, Put}
use Rattle.piper_machine.specs.Call.{side_of}
use Rattle.piper_machine.specs.Pipe.{Pipe, fresh}
use Rattle.piper_machine.specs.Step.{action_of}
use Rattle.piper_machine.specs.Counts.{is_same}
use Rattle.piper_machine.specs.Run.{Runs}
use Rattle.piper_machine.specs.Known.{knowledge_of}

-- the calls that a step of this kind makes
abbrev pub calls_of : Action → ℕ
calls_of Action.CallDestination = 1
calls_of Action.CallSource = 1
calls_of action = 0

-- a call that is opened has made none
abbrev pub none_if : Bool → ℕ → ℕ
none_if true n = 0
none_if false n = n

abbrev pub more_if : Bool → ℕ → ℕ → ℕ
more_if true more n = n + more
more_if false more n = n

-- the calls that the side's last call has made, after a step
abbrev pub called : Side → Pipe → Step → ℕ → ℕ
called side p (Begin c) n = none_if (is_same side (side_of c)) n
called side p (Go other) n = more_if (is_same side other) (calls_of (action_of side p)) n
called side p (Put offset byte) n = n

-- along a run
abbrev pub calls_from : (side : Side) (n : ℕ) (ss : List Step)
    (p : Pipe) (before : List Event) (q : Pipe) (after : List Event)
    → Runs p before ss q after → ℕ
calls_from side n [] p before q after run = n
calls_from side n (s ∷ ss) p before q after run =
    calls_from side (called side p s n) ss run.0 run.1 q after run.3

-- in whichever way these steps lead to this pipe and log:
-- once for each byte that the look of the call found, or for each free place, and once more
abbrev pub AreCallsCounted : ℕ → List Step → Pipe → List Event → Type 0
AreCallsCounted capacity steps p events =
    (side : Side) (run : Runs (fresh capacity) [] steps p events)
    → calls_from side 0 steps (fresh capacity) [] p events run
    ≤ (knowledge_of capacity side events).found + 1
