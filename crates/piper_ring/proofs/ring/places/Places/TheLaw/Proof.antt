-- A `&` to places lends each byte. Assumes `Logic`.
use Rattle.piper_ring.proofs.Kit.{of_Lends, ghost_coded, ghost_shared}
use Rattle.piper_ring.specs.contracts.ring.places.Places as C
use Rattle.piper_ring.proofs.ring.places.Places.TheLaw.Statement.{statement}
use Rattle.piper_ring.proofs.PlacesLaws.{places_laws, Lends-places}

pub shares : statement
shares = of_Lends C.struct (C.the_codes ghost_coded) C.the_heap C.the_lent
    (λ d p. places_laws d.at d.capacity d.first d.bytes) (ghost_shared, tt)
    (λ M 𝓤 𝓛 d p. Lends-places d.at d.capacity 𝓛 C.the_row.lives d.first d.bytes)
