-- What the context was asked for is what this function says of the call of `register`.
use Rattle.piper.proofs.Calling.{grants}
use Rattle.piper.specs.Contexts.{as_asked}
use Rattle.piper.proofs.handles.waiting.ask.Goals as goal

pub returns-clause-asked : goal.returns-clause-asked
returns-clause-asked c = as_asked _ _ _ _

pub returns-clause-task : goal.returns-clause-task
returns-clause-task c = grants _ _ _ c.register-pending.ensures.kept c.register-pending.ensures.left
