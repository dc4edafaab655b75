-- That memory was refused is what a call of this function says.
use Rattle.piper_protocol.specs.Reported.{as_failed}
use Rattle.piper_protocol.proofs.memory.OutOfMemoryFromAllocError.from.Goals as goal

pub returns : goal.returns
returns c = as_failed (record {})
