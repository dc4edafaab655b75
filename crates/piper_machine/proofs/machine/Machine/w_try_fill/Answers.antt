use Rattle.std.proofs.Common.{arith}
use Rattle.std.proofs.lemmas.Grind.{common_steps}
use Rattle.piper_machine.specs.Types.{Call}
use Rattle.piper_machine.proofs.machine.Machine.w_try_fill.Goals as goal

pub returns-clause-count : goal.returns-clause-count
returns-clause-count c = grind (arith, common_steps)

pub returns-clause-after : goal.returns-clause-after
returns-clause-after c = grind (arith, common_steps)

pub returns-clause-by_steps : goal.returns-clause-by_steps
returns-clause-by_steps c = c.begin_whole.ensures.by_steps (Call.TryFill c.args.bytes.now)
