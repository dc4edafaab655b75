-- A call made whole: when it may be made, what it returns, and the pipe that it leaves.
use Rattle.std.specs.Prelude.{◌≡◌, ℕ, ◌<◌, ◌≤◌, length, Ok}
use Rattle.piper_machine.specs.Call.{side_of}
use Rattle.piper_machine.specs.declared.calls.Call.{Call}
use Rattle.piper_machine.specs.declared.calls.Call.TheVariants as call
use Rattle.piper_machine.specs.declared.calls.Step.TheVariants.{Begin}
use Rattle.piper_protocol.specs.declared.answer.Answer.{Answer}
use Rattle.piper_protocol.specs.declared.answer.Answer.TheVariants.{Count, Copy}
use Rattle.piper_protocol.specs.declared.answer.Polled.TheVariants.{Ready}
use Rattle.piper_machine.specs.Pipe.{Pipe}
use Rattle.piper_machine.specs.Places.{peeked_count}
use Rattle.piper_machine.specs.Refusal.{IsIdle}
use Rattle.piper_machine.specs.Step.{MayLend}
use Rattle.piper_machine.specs.BySteps.{whole}

-- the call asks for no more than there is, and draws below 100
abbrev pub IsWithin : Call → Pipe → Type 0
IsWithin (call.Poll side waker luck) p = luck.draw < 100
IsWithin (call.PollDrainBytes waker luck most) p = luck.draw < 100
IsWithin (call.PollDrain waker luck acts) p = luck.draw < 100
IsWithin (call.PollFillBytes waker luck bytes) p = luck.draw < 100
IsWithin (call.PollFill waker luck acts) p = luck.draw < 100
IsWithin (call.Consume n) p = n ≤ peeked_count p
IsWithin (call.Produced n) p = n ≤ length p.lent
IsWithin c p = Unit {0}

-- its side has no open call, too
pub record IsReady (c : Call) (p : Pipe) : Type 0 where
  pub idle : IsIdle (side_of c) p
  pub within : IsWithin c p

-- what a call of write_buf lends, and how many places, is read off the new pipe
pub record Makes (c : Call) (p : Pipe) (answer : Answer) (new : Pipe) : Type 0 where
  pub lent : MayLend new.lent (Begin c) p
  pub answered : answer ≡ (whole new.lent c p).answer
  pub left : new ≡ (whole new.lent c p).pipe

-- how many places the bytes need that the call moves out of the pipe
abbrev pub room_for : Call → ℕ
room_for (call.TryDrain most) = most
room_for (call.PollDrainBytes waker luck most) = most
room_for c = 0

-- how many bytes the call moved there
abbrev pub count_in : Answer → ℕ
count_in (Count n) = n
count_in (Copy (Ready (Ok n))) = n
count_in answer = 0

abbrev pub drained_by : Call → Answer → ℕ
drained_by (call.TryDrain most) answer = count_in answer
drained_by (call.PollDrainBytes waker luck most) answer = count_in answer
drained_by c answer = 0

-- a call that has nothing to answer
abbrev pub IsSilent : Call → Type 0
IsSilent (call.Consume n) = Unit {0}
IsSilent (call.Produced n) = Unit {0}
IsSilent call.Close = Unit {0}
IsSilent (call.Drop side) = Unit {0}
IsSilent c = ⊥
