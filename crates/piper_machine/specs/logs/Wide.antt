-- What both sides did is one list of the machine's steps and of a few acts that it does not have.
use Rattle.std.specs.Prelude.{◌≡◌, ℕ, List, [], ◌∷◌, Bool, true, false, Option, None, is_some}
use Rattle.piper_machine.specs.Types.{Action, Side, Step, DestAct, SourceAct, Event, Reader, Writer, Begin, Acts}
use Rattle.piper_machine.specs.declared.calls.Call.TheVariants.{TryDrain, TryFill}
use Rattle.piper_machine.specs.Action.{index_loaded_by, with_waker_in}
use Rattle.piper_machine.specs.Awake.{IsAwake}
use Rattle.piper_machine.specs.Conservation.{IsConserved}
use Rattle.piper_machine.specs.Disjoint.{IsDisjoint}
use Rattle.piper_machine.specs.Final.{IsFinal}
use Rattle.piper_machine.specs.Honest.{IsHonest}
use Rattle.piper_machine.specs.Pipe.{Pipe, fresh}
use Rattle.piper_machine.specs.Refusal.{IsIdle}
use Rattle.piper_machine.specs.Remembered.{AreRemembered}
use Rattle.piper_machine.specs.Run.{Made}
use Rattle.piper_machine.specs.Sound.{IsSound}
use Rattle.piper_machine.specs.Step.{action_of}
use Rattle.piper_machine.specs.StopsAtClose.{StopsAtClose}
use Rattle.piper_protocol.specs.Table.{read_action, write_action}
use Rattle.piper_machine.specs.logs.Line.{Line, try_drains_with, try_fills_with, began, met_head, met_tail, swapped}
use Rattle.piper_machine.specs.logs.OneList.{By, did, words_of, AreInOrder}
use Rattle.piper_machine.specs.logs.OneRun.{IsLeft}
use Rattle.piper_machine.specs.logs.Reading.{reader_at}
use Rattle.piper_machine.specs.logs.Reports.{events_of}
use Rattle.piper_machine.specs.logs.Writing.{writer_at}

-- a step of the machine, or what handles do beside
pub data Act : Type 0 where
  makes : Step → Act
  -- outside any call, this side is taught what the other one counts
  learns : Side → Act
  -- before it registers, this side empties its own slot
  withdraws : Side → Act
  -- a copy without a context begins, whose destination or source follows this script
  drains : List DestAct → Act
  fills : List SourceAct → Act

-- from one pipe and log to another by these acts. What a side learns or withdraws, no event
-- reports. A copy without a context begins as one of no bytes
abbrev pub RunsWith : Pipe → List Event → List Act → Pipe → List Event → Type 0
RunsWith p before [] q after = (q ≡ p) × (after ≡ before)
RunsWith p before (makes s ∷ acts) q after =
    (mid : Pipe) × (events : List Event) × Made p s mid before events
    × RunsWith mid events acts q after
RunsWith p before (learns side ∷ acts) q after =
    IsIdle side p × RunsWith (index_loaded_by side p) before acts q after
RunsWith p before (withdraws side ∷ acts) q after =
    (action_of side p ≡ Action.Register)
    × RunsWith (with_waker_in side None p) before acts q after
RunsWith p before (drains script ∷ acts) q after =
    (mid : Pipe) × (events : List Event) × Made p (Begin (TryDrain 0)) mid before events
    × RunsWith (record mid { destination = Acts script }) events acts q after
RunsWith p before (fills script ∷ acts) q after =
    (mid : Pipe) × (events : List Event) × Made p (Begin (TryFill [])) mid before events
    × RunsWith (record mid { source = script }) events acts q after

-- the laws of the machine that hold however much a side knows, whatever gives and takes, and though
-- a side empties its slot before it registers
pub record IsSafe (p : Pipe) (events : List Event) : Type 0 where
  pub conserved : IsConserved p events
  pub disjoint : IsDisjoint p
  pub honest : IsHonest events
  pub finality : IsFinal p events
  pub stops : StopsAtClose events
  pub remembered : AreRemembered p events
  pub awake : IsAwake p events
  pub sound : IsSound p

pub record IsOneWideRun (capacity : ℕ) (reader writer : List Line) : Type 0 where
  -- the lines of both logs in one order, in which each access finds what the last one before it
  -- left
  pub turns : List (By Line)
  pub order : AreInOrder turns
  pub reader_did : did Reader turns ≡ reader
  pub writer_did : did Writer turns ≡ writer
  -- these acts do and report what these lines say, in their order
  pub acts : List Act
  pub pipe : Pipe
  pub runs : RunsWith (fresh capacity) [] acts pipe (events_of capacity turns)
  -- they lead to what both logs leave
  pub left : IsLeft capacity reader writer (words_of turns) pipe
  pub safe : IsSafe pipe (events_of capacity turns)

-- an exchange that leaves this takes a waker out before its side registers
abbrev pub withdraws_one : Option ℕ → Action → Option ℕ → Bool
withdraws_one None Action.Register old = is_some old
withdraws_one left action old = false

-- the machine does not have the line where the table has this next
abbrev pub is_beyond : Line → Action → Bool
is_beyond (met_head count) action = true
is_beyond (met_tail count) action = true
is_beyond (began try_drains_with) action = true
is_beyond (began try_fills_with) action = true
is_beyond (swapped side old left) action = withdraws_one left action old
is_beyond line action = false

-- what the table has next after these lines of a side
abbrev pub next_of : Side → ℕ → List Line → Action
next_of Reader capacity lines = read_action (reader_at capacity lines).point
next_of Writer capacity lines = write_action (writer_at capacity lines).point

abbrev pub or : Bool → Bool → Bool
or true b = true
or false b = b

-- a line of this side's log is one that the machine does not have
abbrev pub goes_beyond : Side → ℕ → List Line → Bool
goes_beyond side capacity [] = false
goes_beyond side capacity (line ∷ before) =
    or (is_beyond line (next_of side capacity before)) (goes_beyond side capacity before)
