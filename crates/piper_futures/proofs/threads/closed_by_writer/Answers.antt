-- The writer is dropped here, so what it had seen is evidence.
use Rattle.piper_futures.specs.Threads.{as_had_seen}
use Rattle.piper_futures.proofs.threads.closed_by_writer.Goals as goal

pub returns-clause-seen : goal.returns-clause-seen
returns-clause-seen g c = as_had_seen _ _
