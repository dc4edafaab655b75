-- A reported end is final: after it no byte comes any more.
use Rattle.std.specs.Prelude.{◌≡◌, ◌⊎◌, List, [], ◌∷◌, ◌++◌, All, true, false, Ok, ⊤}
use Rattle.piper_machine.specs.Types.{Event, Answer, Reader, Looked, Published, Consumed, Answered, Count, Ready, Memory}
use Rattle.piper_machine.specs.declared.events.Seen.TheVariants.{Head, Tail, Closed}
use Rattle.piper_protocol.specs.declared.answer.Answer.TheVariants.{Poll, Copy}
use Rattle.piper_machine.specs.Pipe.{Pipe}
use Rattle.piper_machine.specs.End.{saw_closed, found_none}

-- a poll returns false to the reader
abbrev pub told_end : Event
told_end = Answered Reader (Poll (Ready false))

-- what the reader gets after an end: false, no byte, or want of memory
abbrev pub IsEndAnswer : Answer → Type 0
IsEndAnswer (Poll answer) = (answer ≡ Ready false) ⊎ (answer ≡ Memory)
IsEndAnswer (Copy answer) = (answer ≡ Ready (Ok 0)) ⊎ (answer ≡ Memory)
IsEndAnswer (Count number) = (number ≡ 0)
IsEndAnswer answer = ⊤

-- after it no byte is published or consumed, and each look of either side finds a closed pipe and
-- no byte
abbrev pub IsAfterEnd : Event → Type 0
IsAfterEnd (Published bytes) = (bytes ≡ [])
IsAfterEnd (Consumed bytes) = (bytes ≡ [])
IsAfterEnd (Looked side (Head unread)) = (unread ≡ 0)
IsAfterEnd (Looked side (Tail unread)) = (unread ≡ 0)
IsAfterEnd (Looked side (Closed is_closed)) = (is_closed ≡ true)
IsAfterEnd (Answered Reader answer) = IsEndAnswer answer
IsAfterEnd event = ⊤

-- nothing comes any more, and nothing is left
abbrev pub IsOver : Pipe → List Event → Type 0
IsOver p after = All IsAfterEnd after × (p.unread ≡ [])

pub record IsFinal (p : Pipe) (events : List Event) : Type 0 where
  -- wherever a call of the reader found the end, a poll or a drain
  pub found : (before after : List Event) → events ≡ before ++ found_none ∷ after →
      saw_closed Reader before ≡ true → IsOver p after
  -- and wherever a poll reported it
  pub noted : (before after : List Event) → events ≡ before ++ told_end ∷ after → IsOver p after
