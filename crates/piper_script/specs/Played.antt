-- What a command does to the pipe that is played on.
use Rattle.std.specs.Prelude.{◌≡◌, ℕ, List, [], Option, None, Some}
use Rattle.piper_machine.specs.declared.calls.Call.{Call}
use Rattle.piper_protocol.specs.Index.{IsCapacity}
use Rattle.piper_protocol.specs.declared.answer.Answer.{Answer}
use Rattle.piper_machine.specs.declared.events.Event.{Event}
use Rattle.piper_machine.specs.Pipe.{Pipe, fresh}
use Rattle.piper_machine.specs.Run.{Made}
use Rattle.piper_script.specs.declared.command.Command.{Command}
use Rattle.piper_script.specs.declared.command.Command.TheVariants.{Pipe as NewPipe, Peek, Whole, Step, Go}
use Rattle.piper_script.specs.Steps.{GoesAs}
use Rattle.piper_script.specs.Whole.{IsReady, Makes}

-- if it is a new pipe, that can have its capacity
abbrev pub IsInLimits : Command → Type 0
IsInLimits command = (capacity : ℕ) → command ≡ NewPipe capacity → IsCapacity capacity

-- all but a new pipe ask for one
abbrev pub NeedsPipe : Command → Type 0
NeedsPipe (NewPipe capacity) = ⊥
NeedsPipe command = Unit {0}

-- steps before a refused one are made, so they alone change a pipe that refuses
abbrev pub IsOneMove : Command → Type 0
IsOneMove (Go side steps) = ⊥
IsOneMove command = Unit {0}

-- a pipe is there, and is there afterwards
pub record OnPipe (Acts : Pipe → Pipe → Type 0) (old new : Option Pipe) : Type 0 where
  pub from : Pipe
  pub to : Pipe
  pub was : old ≡ Some from
  pub is : new ≡ Some to
  pub acts : Acts from to

-- the call may be made, and was
pub record MakesWhole (call : Call) (old : Pipe) (answer : Answer) (new : Pipe) : Type 0 where
  pub ready : IsReady call old
  pub made : Makes call old answer new

-- what the command does on a pipe, with the answer of a whole call, and what happens in an open one
abbrev pub Moves : Command → Option Answer → List Event → List Event → Pipe → Pipe → Type 0
Moves (Whole call) (Some answer) before after p q =
    MakesWhole call p answer q × (after ≡ before)
Moves (Step step) None before after p q = Made p step q before after
Moves (Go side steps) None before after p q = GoesAs steps side p before q after
Moves Peek None before after p q = (q ≡ p) × (after ≡ before)
Moves command answer before after p q = ⊥

-- a new, empty pipe is there, whatever was there before; any other command is made on the old one
abbrev pub Plays : Command → Option Answer → Option Pipe → Option Pipe →
    List Event → List Event → Type 0
Plays (NewPipe capacity) answer old new before after =
    (new ≡ Some (fresh capacity)) × (after ≡ before)
Plays command answer old new before after = OnPipe (Moves command answer before after) old new

-- the same of a command that is played alone
pub record PlaysUnlogged (command : Command) (old new : Option Pipe) : Type 0 where
  pub answer : Option Answer
  pub events : List Event
  pub plays : Plays command answer old new [] events

-- a line that says nothing changes nothing, and another one is played as its command
abbrev pub PlaysSaid : Option Command → Option Pipe → Option Pipe → Type 0
PlaysSaid None old new = new ≡ old
PlaysSaid (Some command) old new = PlaysUnlogged command old new

pub record PlaysLine (old new : Option Pipe) : Type 0 where
  pub said : Option Command
  pub plays : PlaysSaid said old new
