use Rattle.std.proofs.Common.{arith}
use Rattle.piper_machine.proofs.machine.Machine.writer_calls_source.Goals as goal

pub source_called-requires-clause-lent : goal.source_called-requires-clause-lent
source_called-requires-clause-lent c = grind arith

pub returns : goal.returns
returns c = grind arith
