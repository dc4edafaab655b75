-- That the waker was dropped is what this function says of its drop.
use Rattle.piper.specs.Called.{as_let_go}
use Rattle.piper.proofs.handles.waiting.let_go.Goals as goal

pub returns : goal.returns
returns c = as_let_go _
