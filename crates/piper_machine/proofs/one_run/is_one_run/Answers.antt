use Rattle.piper_machine.proofs.logs.Reaching.{one-run, wide-run}
use Rattle.piper_machine.proofs.one_run.is_one_run.Goals as goal

pub returns-clause-plain : goal.returns-clause-plain
returns-clause-plain c = one-run

pub returns-clause-wide : goal.returns-clause-wide
returns-clause-wide c = wide-run
