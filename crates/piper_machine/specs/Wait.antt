-- What a log reports of a side's last polling call: which waker it was handed, whether that was
-- called since, and whether the side was left pending.
use Rattle.std.specs.Prelude.{ℕ, List, [], ◌∷◌, Bool, true, false, Option, None, Some, if◌then◌else◌, ◌==◌}
use Rattle.piper_machine.specs.Types.{Side, Answer, Event, Began, Registered, Woken, Answered, Pending}
use Rattle.piper_protocol.specs.declared.answer.Answer.TheVariants.{Poll, Copy}
use Rattle.piper_machine.specs.Counts.{is_same}

pub record Wait : Type 0 where
  -- the waker that was handed to the call
  pub handed : ℕ
  -- it was called since the call registered it, or, where the call did not, since the call began
  pub is_woken : Bool
  -- the call returned pending
  pub is_pending : Bool

-- no polling call was made yet
abbrev pub no_wait : Wait
no_wait = record { handed = 0; is_woken = false; is_pending = false }

-- a polling call is handed a waker; a call without one leaves what the last polling call was told
abbrev pub handed_over : Option ℕ → Wait → Wait
handed_over None w = w
handed_over (Some waker) w = record { handed = waker; is_woken = false; is_pending = false }

abbrev pub registered : Wait → Wait
registered w = record w { is_woken = false }

abbrev pub called : ℕ → Wait → Wait
called waker w = record w { is_woken = if waker == w.handed then true else w.is_woken }

abbrev pub noted : Answer → Wait → Wait
noted (Poll Pending) w = record w { is_pending = true }
noted (Copy Pending) w = record w { is_pending = true }
noted answer w = w

abbrev pub if_same : Side → Side → Wait → Wait → Wait
if_same side other own w = if is_same side other then own else w

abbrev pub wait_after : Side → Wait → Event → Wait
wait_after side w (Began other kind waker) = if_same side other (handed_over waker w) w
wait_after side w (Registered other waker) = if_same side other (registered w) w
wait_after side w (Woken waker) = called waker w
wait_after side w (Answered other answer) = if_same side other (noted answer w) w
wait_after side w event = w

-- over a list of events, from a wait on
abbrev pub wait_from : Side → Wait → List Event → Wait
wait_from side w [] = w
wait_from side w (e ∷ es) = wait_from side (wait_after side w e) es

abbrev pub wait_of : Side → List Event → Wait
wait_of side events = wait_from side no_wait events
