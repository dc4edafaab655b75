-- What fails here is the thread's own wait, and what comes out of it is what the future gave.
use Rattle.piper_futures.specs.Threads.{as_failed_with, as_wait_failed}
use Rattle.piper_futures.proofs.threads.wait_for.Goals as goal

pub returns-clause-error : goal.returns-clause-error
returns-clause-error g c = as_failed_with c.args.future c.block_on.result

pub returns-clause-failed : goal.returns-clause-failed
returns-clause-failed g c = as_wait_failed c.block_on.result
