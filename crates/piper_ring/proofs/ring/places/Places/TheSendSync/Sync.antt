-- Threads may share it.
use Rattle.piper_ring.proofs.Kit.{IsSync, sendable, u8, Struct, shape}
use Rattle.piper_ring.specs.contracts.ring.places.Places.{the_row, the_type}
use Rattle.piper_ring.proofs.PlacesLaws.{places-Common}

pub sync : IsSync the_row
sync = let fields : IsSync (Struct (shape the_type)) = search sendable depth 20 in let s : IsSync u8 = search sendable in
    record { shared = λ d b o ν. (fields.shared (tt, tt) b o ν, places-Common d.at d.capacity s d.first d.bytes ν) }
