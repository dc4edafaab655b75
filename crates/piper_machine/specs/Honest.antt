-- The honest end: a poll returns false to the reader only of a closed pipe with nothing unread.
use Rattle.std.specs.Prelude.{◌≡◌, List, [], ◌∷◌, true, false, Some, ⊤}
use Rattle.piper_machine.specs.Types.{Event, Reader, Answered, Ready}
use Rattle.piper_protocol.specs.declared.answer.Answer.TheVariants.{Poll}
use Rattle.piper_machine.specs.History.{History, unwritten, history_after}

-- where an answer is false, the last look of the call found nothing,
-- and the pipe was closed before it
abbrev pub IsHonestAnswer : History → Event → Type 0
IsHonestAnswer h (Answered Reader (Poll (Ready false))) =
    (h.last_look ≡ Some (record { count = 0; is_after_close = true }))
IsHonestAnswer h event = ⊤

abbrev pub IsHonestFrom : History → List Event → Type 0
IsHonestFrom h [] = ⊤
IsHonestFrom h (e ∷ es) = IsHonestAnswer h e × IsHonestFrom (history_after h e) es

abbrev pub IsHonest : List Event → Type 0
IsHonest events = IsHonestFrom unwritten events
