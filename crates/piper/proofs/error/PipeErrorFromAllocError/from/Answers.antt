-- That memory was refused is what a call of this function says.
use Rattle.std.proofs.Common.{refl}
use Rattle.piper_protocol.specs.Reported.{as_failed}
use Rattle.piper.proofs.error.PipeErrorFromAllocError.from.Goals as goal

pub returns : goal.returns
returns c = (refl, as_failed _)
