-- Why a line that says a command is refused, and what was done before.
use Rattle.std.specs.Prelude.{◌≡◌, List, Option, None, Some}
use Rattle.piper_protocol.specs.declared.table.Side.{Side}
use Rattle.piper_machine.specs.declared.calls.Step.{Step}
use Rattle.piper_machine.specs.declared.calls.Step.TheVariants as step
use Rattle.piper_machine.specs.declared.events.Event.{Event}
use Rattle.piper_machine.specs.declared.refusals.StepRefusal.{StepRefusal}
use Rattle.piper_machine.specs.declared.refusals.StepRefusal.TheVariants as reason
use Rattle.piper_machine.specs.Pipe.{Pipe}
use Rattle.piper_machine.specs.Refusal.{refusal_of}
use Rattle.piper_script.specs.declared.command.Steps.{Steps}
use Rattle.piper_script.specs.declared.command.Command.{Command}
use Rattle.piper_script.specs.declared.command.Command.TheVariants.{Pipe as NewPipe, Peek, Whole, Step as OneStep, Go}
use Rattle.piper_script.specs.declared.command.Refusal.TheVariants as line
use Rattle.piper_script.specs.declared.stop.Stop.{Stop}
use Rattle.piper_script.specs.declared.stop.Stop.TheVariants.{Refused, Memory}
use Rattle.piper_script.specs.Played.{OnPipe, NeedsPipe}
use Rattle.piper_script.specs.Steps.{GoesBefore}

-- a refused step stops a replay for want of memory, or as a refused line
abbrev pub stop_of : StepRefusal → Stop
stop_of reason.Busy = Refused line.Busy
stop_of reason.Idle = Refused line.Idle
stop_of reason.Dropped = Refused line.Dropped
stop_of reason.BadDraw = Refused line.BadDraw
stop_of reason.PastLent = Refused line.PastLent
stop_of reason.PastPeek = Refused line.PastPeek
stop_of reason.Memory = Memory

-- the line was refused, and neither memory nor a read nor a write
abbrev pub IsRefused : Stop → Type 0
IsRefused (Refused refusal) = Unit {0}
IsRefused stop = ⊥

-- the pipe refuses the step, and for that the line is refused
pub record RefusesStep (s : Step) (p : Pipe) (stop : Stop) : Type 0 where
  pub why : StepRefusal
  pub refused : refusal_of s p ≡ Some why
  pub reported : stop ≡ stop_of why

-- fewer steps than the line says were made, and the pipe refuses the next one
pub record RefusesGo (steps : Steps) (side : Side) (old new : Pipe) (stop : Stop) : Type 0 where
  pub before : List Event
  pub after : List Event
  pub gone : GoesBefore steps side old before new after
  pub refuses : RefusesStep (step.Go side) new stop

-- a pipe refuses no new pipe in its place, and no look at its bytes
abbrev pub Refuses : Command → Stop → Pipe → Pipe → Type 0
Refuses (NewPipe capacity) stop old new = ⊥
Refuses Peek stop old new = ⊥
Refuses (Whole call) stop old new = RefusesStep (step.Begin call) old stop
Refuses (OneStep s) stop old new = RefusesStep s old stop
Refuses (Go side steps) stop old new = RefusesGo steps side old new stop

-- for want of the pipe that the command needs, or by the pipe that is there
abbrev pub RefusesLine : Command → Option Pipe → Option Pipe → Stop → Type 0
RefusesLine command None new stop = NeedsPipe command × (stop ≡ Refused line.NoPipe)
RefusesLine command (Some p) new stop = OnPipe (Refuses command stop) (Some p) new
