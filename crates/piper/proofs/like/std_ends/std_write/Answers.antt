-- That std returned this is what a call of this function says.
use Rattle.piper.specs.StdEnds.{as_written}
use Rattle.piper.proofs.like.std_ends.std_write.Goals as goal

pub returns-clause-written : goal.returns-clause-written
returns-clause-written g c = as_written _ _ _
