-- It may move to another thread.
use Rattle.piper_ring.proofs.Kit.{IsSend}
use Rattle.piper_ring.specs.contracts.ring.slots.WakerState.{the_row}

pub send : IsSend the_row
send = record { owned = λ d vs. ((λ vss. (tt, ((λ uss. (tt, tt)), tt))), tt); leaving = λ k f vs. tt }
