-- It may move to another thread.
use Rattle.piper_ring.proofs.Kit.{IsSend}
use Rattle.piper_ring.specs.contracts.ring.places.Blank.{the_row}
use Rattle.piper_ring.proofs.PlacesLaws.{blank-Keyless}

pub send : IsSend the_row
send = record { owned = λ d vs. ((λ vss. (tt, ((λ uss. (tt, tt)), tt))), blank-Keyless d.at d.capacity d.first d.count); leaving = λ k f vs. tt }
