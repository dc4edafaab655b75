-- That another poll was asked for is what this function says of the call of `yield_now`.
use Rattle.piper_ring.specs.Log.{as_stepped}
use Rattle.piper.proofs.handles.draws.ask_again.Goals as goal

pub returns-clause-made : goal.returns-clause-made
returns-clause-made c = as_stepped _
