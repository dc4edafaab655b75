use Rattle.piper_machine.proofs.logs.Counting.{counted-wide, counted-run}
use Rattle.piper_machine.proofs.one_run.is_one_run_by_counts.Goals as goal

pub returns-clause-plain : goal.returns-clause-plain
returns-clause-plain c = counted-run

pub returns-clause-wide : goal.returns-clause-wide
returns-clause-wide c = counted-wide
