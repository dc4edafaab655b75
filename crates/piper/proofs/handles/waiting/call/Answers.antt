-- That the waker was called is what this function says of the call of `wake`.
use Rattle.piper.specs.Called.{as_called}
use Rattle.piper_ring.specs.Log.{as_stepped}
use Rattle.piper.proofs.handles.waiting.call.Goals as goal

pub returns-clause-called : goal.returns-clause-called
returns-clause-called c = as_called _

pub returns-clause-made : goal.returns-clause-made
returns-clause-made c = as_stepped _
