use Rattle.piper_machine.specs.Log.{events}
use Rattle.piper_script.specs.Steps.{Goes}
use Rattle.piper_script.proofs.steps.make_some.Given as goal

abbrev pub invariant-loop : goal.invariant-loop
invariant-loop l = Goes l.counter l.side l.fn.machine (events l.fn.log) l.machine (events l.log)
