-- That std returned this is what a call of this function says.
use Rattle.piper.specs.StdEnds.{as_flushed}
use Rattle.piper.proofs.like.std_ends.std_flush.Goals as goal

pub returns-clause-flushed : goal.returns-clause-flushed
returns-clause-flushed g c = as_flushed _ _ _
