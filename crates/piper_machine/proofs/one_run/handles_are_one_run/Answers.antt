-- The lines of both logs are counted logs.
use Rattle.piper_machine.proofs.logs.HandleRuns.{handles-wide}
use Rattle.piper_machine.proofs.one_run.handles_are_one_run.Goals as goal

pub returns : goal.returns
returns c = handles-wide
