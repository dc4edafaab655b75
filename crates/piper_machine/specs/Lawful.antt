-- The laws of a run: what holds of the pipe that a list of steps leads to from a fresh one, and of
-- the log of what happened.
use Rattle.std.specs.Prelude.{ℕ, List}
use Rattle.piper_machine.specs.Types.{Step, Event}
use Rattle.piper_machine.specs.Pipe.{Pipe}
use Rattle.piper_machine.specs.Sound.{IsSound}
use Rattle.piper_machine.specs.Known.{IsKnown}
use Rattle.piper_machine.specs.Ready.{IsReady}
use Rattle.piper_machine.specs.Counts.{IsCounted}
use Rattle.piper_machine.specs.Called.{AreCallsCounted}
use Rattle.piper_machine.specs.Conservation.{IsConserved}
use Rattle.piper_machine.specs.Disjoint.{IsDisjoint}
use Rattle.piper_machine.specs.Honest.{IsHonest}
use Rattle.piper_machine.specs.Final.{IsFinal}
use Rattle.piper_machine.specs.StopsAtClose.{StopsAtClose}
use Rattle.piper_machine.specs.Remembered.{AreRemembered}
use Rattle.piper_machine.specs.Awake.{IsAwake}
use Rattle.piper_machine.specs.Answered.{AreAnswered}

pub record IsLawful (capacity : ℕ) (steps : List Step) (p : Pipe)
    (events : List Event) : Type 0 where
  -- the bytes consumed, followed by those unread, are the bytes published, in their order
  pub conserved : IsConserved p events
  -- no place of the buffer is held by both sides
  pub disjoint : IsDisjoint p
  -- a poll of the reader returns false only of a closed pipe with nothing unread
  pub honest : IsHonest events
  -- once a call of the reader has found the end, no byte comes any more
  pub finality : IsFinal p events
  -- a call of the writer that found the pipe closed publishes nothing after that
  pub stops : StopsAtClose events
  -- whoever was left pending is called, or has nothing to do and its waker in its slot
  pub remembered : AreRemembered p events
  -- if both sides were left pending, the waker of one of them was called
  pub awake : IsAwake p events
  -- a fill publishes what it was handed, a copy counts what it moved, a query returns what it found
  pub answered : AreAnswered capacity steps events
  -- the looks of a side show what it knows of the other
  pub known : IsKnown p events
  -- a poll that returns true leaves something to do
  pub ready : IsReady capacity events
  -- a call makes at most so many steps
  pub counted : IsCounted capacity steps events
  -- at most so many of them call its destination or source
  pub called : AreCallsCounted capacity steps p events
  -- counts and places of the pipe stay within its capacity, and within one another
  pub sound : IsSound p
