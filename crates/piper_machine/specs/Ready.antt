-- A poll that returns true leaves its side something to do: a byte that the reader knows of, or
-- room that the writer knows of.
use Rattle.std.specs.Prelude.{ℕ, ◌≤◌, List, [], ◌∷◌, true, ⊤}
use Rattle.piper_machine.specs.Types.{Polled, Side, Event, Reader, Writer, Answered}
use Rattle.piper_protocol.specs.declared.answer.Answer.TheVariants.{Poll}
use Rattle.piper_machine.specs.Known.{Knowledge, knowledge_after, knowledge_first}

abbrev pub IsReadyAnswer : Side → Knowledge → Event → Type 0
IsReadyAnswer Reader k (Answered Reader (Poll (Polled.Ready true))) = 1 ≤ k.known
IsReadyAnswer Writer k (Answered Writer (Poll (Polled.Ready true))) = 1 ≤ k.known
IsReadyAnswer side k event = ⊤

abbrev pub IsReadyFrom : ℕ → Side → Knowledge → List Event → Type 0
IsReadyFrom capacity side k [] = ⊤
IsReadyFrom capacity side k (e ∷ es) =
    IsReadyAnswer side k e × IsReadyFrom capacity side (knowledge_after capacity side k e) es

-- at each such answer of the log, by what the log reports before it
abbrev pub IsReady : ℕ → List Event → Type 0
IsReady capacity events =
    (side : Side) → IsReadyFrom capacity side (knowledge_first capacity side) events
