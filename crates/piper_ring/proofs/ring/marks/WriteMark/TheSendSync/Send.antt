-- It may move to another thread.
use Rattle.piper_ring.proofs.Kit.{IsSend}
use Rattle.piper_ring.specs.contracts.ring.marks.WriteMark.{the_row}
use Rattle.piper_ring.proofs.Evidence.{announced-Keyless}

pub send : IsSend the_row
send = record { owned = λ d vs. ((λ vss. (tt, ((λ uss. (tt, tt)), tt))), announced-Keyless d.names d.bytes d.shut); leaving = λ k f vs. tt }
