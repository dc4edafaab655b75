-- It may move to another thread.
use Rattle.piper_ring.proofs.Kit.{IsSend}
use Rattle.piper_ring.specs.contracts.ring.marks.ReadMark.{the_row}
use Rattle.piper_ring.proofs.Evidence.{took-Keyless}

pub send : IsSend the_row
send = record { owned = λ d vs. ((λ vss. (tt, ((λ uss. (tt, tt)), tt))), took-Keyless d.names d.count); leaving = λ k f vs. tt }
