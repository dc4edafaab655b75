-- That std returned this is what a call of this function says.
use Rattle.piper.specs.StdEnds.{as_read}
use Rattle.piper.proofs.like.std_ends.std_read.Goals as goal

pub returns-clause-read : goal.returns-clause-read
returns-clause-read g c = as_read _ _ _
