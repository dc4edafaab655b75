use Rattle.std.proofs.Common.{arith}
use Rattle.std.proofs.lemmas.Grind.{common_steps}
use Rattle.piper_machine.proofs.destination.Acts.take.Goals as goal

pub returns-then-self-len-clause-after : goal.returns-then-self-len-clause-after
returns-then-self-len-clause-after c = grind (arith, common_steps)
