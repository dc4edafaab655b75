use Rattle.piper_machine.proofs.logs.Following.{in-turn}
use Rattle.piper_machine.proofs.one_run.bytes_are_in_turn.Goals as goal

pub returns : goal.returns
returns c = in-turn
