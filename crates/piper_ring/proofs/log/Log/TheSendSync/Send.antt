-- It may move to another thread.
use Rattle.piper_ring.proofs.Kit.{IsSend, accesses_in}
use Rattle.piper_ring.proofs.Crosses.{did-Keyless}
use Rattle.piper_ring.specs.contracts.log.Log.{the_row}

pub send : IsSend the_row
send = record { owned = λ d vs. ((λ vss. (tt, ((λ uss. (tt, tt)), tt))), did-Keyless d.names.traced d.keeps d.reads (accesses_in d.lines)); leaving = λ k f vs. tt }
