use Rattle.std.proofs.Common.{arith}
use Rattle.piper_machine.proofs.one_run.nobody_is_forgotten.Goals as goal

pub returns-clause-waits : goal.returns-clause-waits
returns-clause-waits c = grind arith

pub returns-clause-awake : goal.returns-clause-awake
returns-clause-awake c = grind arith
