-- A side that was left pending, from point to point of the other side's wake, and what no run may
-- come to.
use Rattle.std.proofs.Common.{inl, inr, ◌≡◌, ◌⊎◌, ℕ, List, [], ◌∷◌, take, true, false, None, Some, Ok, refl}
use Rattle.piper_machine.specs.Types.{Answer, Call, Kind, Polled, WritePoint, Step, Event, Reader, Writer, Len, Begin, Go, Began, Published, Registered, Woken, Answered}
use Rattle.piper_machine.specs.Pipe.{Pipe, fresh}
use Rattle.piper_machine.specs.Wait.{Wait, wait_of}
use Rattle.piper_machine.specs.Awake.{IsAwake}
use Rattle.piper_machine.specs.Remembered.{IsRemembered, WasCalled}
use Rattle.piper_machine.proofs.worked.Gone.{by, gone}

-- The reader polls an empty pipe and is left pending; then the writer publishes no byte, which
-- wakes all the same.
abbrev waits_then_woken : List Step
waits_then_woken =
    Begin (Call.Poll Reader 1 (by 1).luck) ∷ Go Reader ∷ Go Reader ∷ Go Reader ∷ Go Reader
    ∷ Begin (Call.Produced 0) ∷ Go Writer ∷ Go Writer ∷ Go Writer
    ∷ Begin (Call.Query Reader Len) ∷ Go Reader ∷ Go Reader ∷ []

abbrev pipe_after : ℕ → Pipe
pipe_after n = (gone (take n waits_then_woken) (fresh 4)).pipe

abbrev reader_waits : ℕ → Wait
reader_waits n = wait_of Reader (gone (take n waits_then_woken) (fresh 4)).events

-- left pending at the fifth step, woken at the ninth; a query in between or after changes nothing
-- of it
told_and_woken :
    (reader_waits 4 ≡ record { handed = 1; is_woken = false; is_pending = false })
    × (reader_waits 5 ≡ record { handed = 1; is_woken = false; is_pending = true })
    × (reader_waits 9 ≡ record { handed = 1; is_woken = true; is_pending = true })
    × (reader_waits 12 ≡ record { handed = 1; is_woken = true; is_pending = true })
told_and_woken = (refl, refl, refl, refl)

-- it is ready; after the store the writer is to find its waker in the slot; then it has it taken;
-- then it has called it
always_remembered :
    IsRemembered Reader (pipe_after 5) (reader_waits 5)
    × IsRemembered Reader (pipe_after 7) (reader_waits 7)
    × IsRemembered Reader (pipe_after 8) (reader_waits 8)
    × IsRemembered Reader (pipe_after 9) (reader_waits 9)
always_remembered = (inr (inl (refl, (refl, refl))), inr (inr (refl, inl refl)), inr (inr (refl, inr refl)), inl refl)

-- a waker that was called counts until the side registers it again
abbrev pending : Event
pending = Answered Reader (Answer.Poll Polled.Pending)

registered_again : wait_of Reader (Began Reader Kind.Poll (Some 1) ∷ Registered Reader 1 ∷ Woken 1 ∷ pending ∷ Began Reader Kind.Poll (Some 1) ∷ Registered Reader 1 ∷ pending ∷ []) ≡ record { handed = 1; is_woken = false; is_pending = true }
registered_again = refl

-- another waker's call is none
another_waker : wait_of Reader (Began Reader Kind.Poll (Some 1) ∷ Registered Reader 1 ∷ pending ∷ Woken 2 ∷ []) ≡ record { handed = 1; is_woken = false; is_pending = true }
another_waker = refl

-- a copy that yields calls its own waker and registers none; one that waits is a wait of its own
yielded : wait_of Reader (Began Reader Kind.PollDrainBytes (Some 1) ∷ Woken 1 ∷ Answered Reader (Answer.Copy Polled.Pending) ∷ []) ≡ record { handed = 1; is_woken = true; is_pending = true }
yielded = refl

copied_after_a_wait :
    wait_of Reader (Began Reader Kind.Poll (Some 1) ∷ Registered Reader 1 ∷ pending ∷ Began Reader Kind.PollDrainBytes (Some 2) ∷ Answered Reader (Answer.Copy (Polled.Ready (Ok 3))) ∷ []) ≡ record { handed = 2; is_woken = false; is_pending = false }
copied_after_a_wait = refl

-- a try has no waker: who was left pending before still waits
tried_after_a_wait : wait_of Reader (Began Reader Kind.Poll (Some 1) ∷ Registered Reader 1 ∷ pending ∷ Began Reader Kind.TryDrain None ∷ Answered Reader (Answer.Count 0) ∷ []) ≡ record { handed = 1; is_woken = false; is_pending = true }
tried_after_a_wait = refl

-- To these pipes, with nobody about to call, a wrong order of steps would come. The reader was left
-- pending and is not called.
abbrev told_to_wait : Wait
told_to_wait = record { handed = 1; is_woken = false; is_pending = true }

-- a look that registers after its last load of tail, when a byte has come in between
abbrev byte_overlooked : Pipe
byte_overlooked = record (fresh 4) { unread = 7 ∷ []; reader_waker = Some 1 }

byte_overlooked_forgets : IsRemembered Reader byte_overlooked told_to_wait → ⊥
byte_overlooked_forgets (inl called) = absurd (cc)
byte_overlooked_forgets (inr (inl ready)) = let none = ready.1.0 in absurd (cc)
byte_overlooked_forgets (inr (inr about)) = let between = about.0 in absurd (cc)

-- a drop of the writer that empties its own slot in place of the reader's
abbrev end_untold : Pipe
end_untold = record (fresh 4) { is_closed = true; reader_waker = Some 1; writer = WritePoint.Dropped }

end_untold_forgets : IsRemembered Reader end_untold told_to_wait → ⊥
end_untold_forgets (inl called) = absurd (cc)
end_untold_forgets (inr (inl ready)) = let open_still = ready.1.1 in absurd (cc)
end_untold_forgets (inr (inr about)) = let between = about.0 in absurd (cc)

-- a try that takes the reader's waker out of its slot
abbrev waker_lost : Pipe
waker_lost = fresh 4

waker_lost_forgets : IsRemembered Reader waker_lost told_to_wait → ⊥
waker_lost_forgets (inl called) = absurd (cc)
waker_lost_forgets (inr (inl ready)) = let valid = ready.0 in absurd (cc)
waker_lost_forgets (inr (inr about)) = let between = about.0 in absurd (cc)

-- a close that wakes the reader alone
abbrev writer_untold : Pipe
writer_untold = record (fresh 1) { unread = 7 ∷ []; room = 0; is_closed = true; is_shut = true; writer_waker = Some 1 }

writer_untold_forgets : IsRemembered Writer writer_untold told_to_wait → ⊥
writer_untold_forgets (inl called) = absurd (cc)
writer_untold_forgets (inr (inl ready)) = let open_still = ready.1.1 in absurd (cc)
writer_untold_forgets (inr (inr about)) = let between = about.0 in absurd (cc)

-- a wake before its store: the reader, called too early, was left pending once more, and then the
-- byte came
abbrev called_too_early : List Event
called_too_early = Began Reader Kind.Poll (Some 1) ∷ Registered Reader 1 ∷ pending ∷ Woken 1 ∷ Began Reader Kind.Poll (Some 1) ∷ Registered Reader 1 ∷ pending ∷ Published (7 ∷ []) ∷ []

called_too_early_forgets : IsRemembered Reader byte_overlooked (wait_of Reader called_too_early) → ⊥
called_too_early_forgets = byte_overlooked_forgets

-- two sides that were left pending, neither of which was called
abbrev both_sleep : List Event
both_sleep =
    Began Reader Kind.Poll (Some 1) ∷ Registered Reader 1 ∷ pending
    ∷ Began Writer Kind.Poll (Some 2) ∷ Registered Writer 2
    ∷ Answered Writer (Answer.Poll Polled.Pending) ∷ []

sleeps_uncalled : WasCalled (wait_of Reader both_sleep) ⊎ WasCalled (wait_of Writer both_sleep) → ⊥
sleeps_uncalled (inl called) = absurd (cc)
sleeps_uncalled (inr called) = absurd (cc)

both_sleep_forgets : IsAwake (fresh 4) both_sleep → ⊥
both_sleep_forgets law = sleeps_uncalled (law refl refl refl refl)
