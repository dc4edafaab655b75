-- It may move to another thread.
use Rattle.piper_ring.proofs.Kit.{IsSend}
use Rattle.piper_ring.specs.contracts.ring.seats.WriteSeat.{the_row}
use Rattle.piper_ring.proofs.Crosses.{writer_owns-Keyless}

pub send : IsSend the_row
send = record { owned = λ d vs. ((λ vss. (tt, (tt, tt))), writer_owns-Keyless d.words d.at d.names d.sent d.limit d.shut); leaving = λ k f vs. tt }
