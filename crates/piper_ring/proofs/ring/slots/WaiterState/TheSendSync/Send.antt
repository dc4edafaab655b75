-- It may move to another thread.
use Rattle.piper_ring.proofs.Kit.{IsSend}
use Rattle.piper_ring.proofs.Evidence.{evidence-Keyless}
use Rattle.piper_ring.specs.contracts.ring.slots.WaiterState.{the_row}

pub send : IsSend the_row
send = record { owned = λ d vs. ((λ vss. (tt, ((λ uss. (tt, tt)), tt))), (tt, evidence-Keyless d.names d.for_reader d.heard)); leaving = λ k f vs. tt }
