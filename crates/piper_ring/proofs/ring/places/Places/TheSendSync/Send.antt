-- It may move to another thread.
use Rattle.piper_ring.proofs.Kit.{IsSend, sendable, u8}
use Rattle.piper_ring.specs.contracts.ring.places.Places.{the_row}
use Rattle.piper_ring.proofs.PlacesLaws.{places-Keyless}

pub send : IsSend the_row
send = let s : IsSend u8 = search sendable in record { owned = λ d vs. ((λ vss. (tt, ((λ uss. (tt, tt)), tt))), places-Keyless d.at d.capacity s d.first d.bytes); leaving = λ k f vs. tt }
