-- It may move to another thread.
use Rattle.piper_ring.proofs.Kit.{IsSend}
use Rattle.piper_ring.specs.contracts.ring.seats.ReadSeat.{the_row}
use Rattle.piper_ring.proofs.Crosses.{reader_owns-Keyless}

pub send : IsSend the_row
send = record { owned = λ d vs. ((λ vss. (tt, (tt, tt))), reader_owns-Keyless d.words d.at d.names d.head d.seen d.have d.leaving); leaving = λ k f vs. tt }
