-- It may move to another thread.
use Rattle.piper_ring.proofs.Kit.{IsSend}
use Rattle.piper_ring.specs.contracts.ring.marks.ClosedMark.{the_row}
use Rattle.piper_ring.proofs.Evidence.{raised-Keyless}

pub send : IsSend the_row
send = record { owned = λ d vs. ((λ vss. (tt, ((λ uss. (tt, tt)), tt))), raised-Keyless d.names.closed d.seen); leaving = λ k f vs. tt }
