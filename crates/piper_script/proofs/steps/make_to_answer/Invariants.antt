use Rattle.std.proofs.Common.{◌≡◌, ◌≤◌}
use Rattle.piper_machine.specs.Log.{events}
use Rattle.piper_machine.specs.declared.calls.SideState.TheVariants.{Busy}
use Rattle.piper_machine.specs.Refusal.{state_of}
use Rattle.piper_script.specs.Steps.{Goes}
use Rattle.piper_script.proofs.steps.make_to_answer.Given as goal

abbrev pub invariant-loop : goal.invariant-loop
invariant-loop l =
    Goes l.counter l.side l.fn.machine (events l.fn.log) l.machine (events l.log)
    × (1 ≤ l.counter → state_of l.side l.machine ≡ Busy)
