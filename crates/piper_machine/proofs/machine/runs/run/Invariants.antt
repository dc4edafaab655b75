use Rattle.std.proofs.Common.{take}
use Rattle.piper_machine.specs.Log.{events}
use Rattle.piper_machine.specs.Sound.{IsSound}
use Rattle.piper_machine.proofs.Keeping.{Keeps}
use Rattle.piper_machine.proofs.machine.runs.run.Given as goal

abbrev pub invariant-loop-i : goal.invariant-loop-i
invariant-loop-i l = record {
  sound : IsSound l.machine;
  keeps : Keeps l.cap (take l.i l.steps) l.machine (events l.log);
}
