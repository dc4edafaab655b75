use Rattle.piper_machine.proofs.logs.Following.{honest-end}
use Rattle.piper_machine.proofs.one_run.the_end_is_honest.Goals as goal

pub returns : goal.returns
returns c = honest-end
