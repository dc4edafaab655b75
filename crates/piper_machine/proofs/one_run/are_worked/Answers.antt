use Rattle.piper_machine.proofs.logs.Worked.{again, filled, woken}
use Rattle.piper_machine.proofs.one_run.are_worked.Goals as goal

pub returns-clause-filled : goal.returns-clause-filled
returns-clause-filled c = filled

pub returns-clause-woken : goal.returns-clause-woken
returns-clause-woken c = woken

pub returns-clause-again : goal.returns-clause-again
returns-clause-again c = again
