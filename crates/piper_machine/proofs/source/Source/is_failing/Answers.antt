use Rattle.std.proofs.Common.{arith}
use Rattle.std.proofs.lemmas.Grind.{common_steps}
use Rattle.piper_machine.proofs.source.Source.is_failing.Goals as goal

pub returns-in-Some-Fail : goal.returns-in-Some-Fail
returns-in-Some-Fail c = grind (arith, common_steps)

pub returns-in_default-2 : goal.returns-in_default-2
returns-in_default-2 c = grind (arith, common_steps)
