-- Each access of the one list is a line.
use Rattle.piper_machine.proofs.logs.Listed.{listed}
use Rattle.piper_machine.proofs.one_run.are_listed.Goals as goal

pub returns : goal.returns
returns c = listed
