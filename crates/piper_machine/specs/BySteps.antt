-- A call made by steps, none of which is the other side's, is the call run whole.
use Rattle.std.specs.Prelude.{◌≡◌, ℕ, ◌≤◌, List, [], ◌∷◌, ◌++◌, length, replicate, Bool, true, false, Result, Ok, Err, None, Some}
use Rattle.piper_machine.specs.Types.{Side, Call, Answer, Event, Polled, Failed, Reader, Writer, Busy, Begin, Go, Count, Lent, Done, Woken, Answered, Pending, Ready, Memory}
use Rattle.piper_protocol.specs.declared.answer.Answer.TheVariants.{Flag, Poll, Copy}
use Rattle.piper_machine.specs.Call.{side_of}
use Rattle.piper_protocol.specs.Table.{query_answer}
use Rattle.piper_machine.specs.Pipe.{Pipe, begun}
use Rattle.piper_machine.specs.Query.{unread_count, is_closed}
use Rattle.piper_machine.specs.LoadIfNone.{tail_loaded_if_empty, head_loaded_if_full}
use Rattle.piper_machine.specs.Look.{Look, context, look_of}
use Rattle.piper_machine.specs.Lend.{lending}
use Rattle.piper_machine.specs.Move.{produce, consume}
use Rattle.piper_machine.specs.Copy.{Copied, count_of, fill, drain, try_fill, try_drain}
use Rattle.piper_machine.specs.Scripted.{fill_from, drain_to}
use Rattle.piper_machine.specs.Close.{close, dropped}
use Rattle.piper_machine.specs.Refusal.{state_of, refusal_of}
use Rattle.piper_machine.specs.Counts.{most_steps}
use Rattle.piper_machine.specs.Run.{Made, Runs}
use Rattle.piper_machine.specs.Alone.{Ended}

abbrev pub answering : Answer → Pipe → Ended
answering answer p = record { answer = answer; pipe = p }

abbrev pub looked_whole : Look → Ended
looked_whole look = answering (Poll look.answer) look.pipe

-- a copy between the pipe and a slice cannot fail
abbrev pub unfailing : Polled ℕ → Polled (Result ℕ Failed)
unfailing (Ready n) = Ready (Ok n)
unfailing Pending = Pending
unfailing Memory = Memory

-- the count that such a copy returns
abbrev pub without_failure : Polled (Result ℕ Failed) → Polled ℕ
without_failure (Ready (Ok n)) = Ready n
without_failure (Ready (Err fails)) = Ready 0
without_failure Pending = Pending
without_failure Memory = Memory

abbrev pub counted_whole : Copied ℕ → Ended
counted_whole copied = answering (Count (count_of copied.answer)) copied.pipe

abbrev pub copied_slice : Copied ℕ → Ended
copied_slice copied = answering (Copy (unfailing copied.answer)) copied.pipe

abbrev pub copied_acts : Copied (Result ℕ Failed) → Ended
copied_acts copied = answering (Copy copied.answer) copied.pipe

-- what a call returns and leaves that is run whole, with these bytes in what a call of write_buf
-- lends
abbrev pub whole : List ℕ → Call → Pipe → Ended
whole lent (Call.Query side query) p =
    answering (query_answer query p.capacity (unread_count p)) (begun p)
whole lent (Call.IsClosed side) p = answering (Flag (is_closed p)) (begun p)
whole lent (Call.Poll side waker luck) p =
    looked_whole (look_of side (Some (context waker luck)) (begun p))
whole lent (Call.TryDrain size) p = counted_whole (try_drain size p)
whole lent (Call.PollDrainBytes waker luck size) p =
    copied_slice (drain (Some (context waker luck)) size p)
whole lent (Call.PollDrain waker luck acts) p =
    copied_acts (drain_to (Some (context waker luck)) acts p)
whole lent (Call.Consume n) p = answering Done (consume n (begun p))
whole lent (Call.TryFill bytes) p = counted_whole (try_fill bytes p)
whole lent (Call.PollFillBytes waker luck bytes) p =
    copied_slice (fill (Some (context waker luck)) bytes p)
whole lent (Call.PollFill waker luck acts) p =
    copied_acts (fill_from (Some (context waker luck)) acts p)
whole lent (Call.WriteBuf most) p = answering (Lent (length lent)) (lending lent (begun p))
whole lent (Call.Produced n) p = answering Done (produce n (begun p))
whole lent Call.Close p = answering Done (close (begun p))
whole lent (Call.Drop side) p = answering Done (dropped side (begun p))

-- a call that neither copies bytes nor lends places
abbrev pub is_plain : Call → Bool
is_plain (Call.TryDrain size) = false
is_plain (Call.PollDrainBytes waker luck size) = false
is_plain (Call.PollDrain waker luck acts) = false
is_plain (Call.TryFill bytes) = false
is_plain (Call.PollFillBytes waker luck bytes) = false
is_plain (Call.PollFill waker luck acts) = false
is_plain (Call.WriteBuf most) = false
is_plain c = true

-- the wakers that were called
abbrev pub named_by : Event → List ℕ
named_by (Woken name) = name ∷ []
named_by event = []

abbrev pub names_of : List Event → List ℕ
names_of [] = []
names_of (e ∷ es) = named_by e ++ names_of es

-- the log reports the answer last, and before it the wakers that the whole call keeps the names of
pub record IsMadeWhole (side : Side) (p : Pipe) (before : List Event) (q : Pipe)
    (after : List Event) (run_whole : Ended) : Type 0 where
  pub log : List Event
  pub events : after ≡ before ++ (log ++ Answered side run_whole.answer ∷ [])
  pub woken : names_of log ≡ run_whole.pipe.woken
  pub pipe : q ≡ record run_whole.pipe { woken = p.woken }

-- what a side knows after the look of a call that is run alone: what it knew, or else all that
-- there is
abbrev pub found_alone : Side → Pipe → ℕ
found_alone Reader p = (tail_loaded_if_empty p).known
found_alone Writer p = (head_loaded_if_full p).room

-- after `steps` more steps of this side alone its call has returned
pub record Returns (side : Side) (p : Pipe) (before : List Event) : Type 0 where
  pub steps : ℕ
  pub pipe : Pipe
  pub after : List Event
  pub runs : Runs p before (replicate steps (Go side)) pipe after
  pub returned : state_of side pipe ≡ Busy → ⊥

pub record IsWholeBySteps (c : Call) (p : Pipe) : Type 0 where
  -- what nothing refuses can be opened
  pub opens : refusal_of (Begin c) p ≡ None → (before : List Event) →
      (q : Pipe) × (after : List Event) × Made p (Begin c) q before after
  -- wherever steps of its side alone lead, more of them lead to its end
  pub ends : (k : ℕ) (q : Pipe) (before after : List Event) →
      let side = side_of c in
      Runs p before (Begin c ∷ replicate k (Go side)) q after → Returns side q after
  -- as soon as such steps leave that side without an open call,
  -- the call is made as if it were run whole, and in no more steps than it may make
  pub made : (k : ℕ) (q : Pipe) (before after : List Event) →
      let side = side_of c in
      Runs p before (Begin c ∷ replicate k (Go side)) q after → (state_of side q ≡ Busy → ⊥) →
      (k ≤ most_steps (found_alone side p) c)
      × IsMadeWhole side p before q after (whole q.lent c p)

-- of every call that may be opened here
abbrev pub AreWholeBySteps : Pipe → Type 0
AreWholeBySteps p = (c : Call) → IsWholeBySteps c p
