-- A `&` to places that need not be set lends none of them. Assumes `Logic`.
use Rattle.piper_ring.proofs.Kit.{said_shr_laws, of_Lends, Lends-first, Lends-said, span, unset, ghost_coded, ghost_shared, said}
use Rattle.piper_ring.specs.Places.{fact, Placed}
use Rattle.piper_ring.specs.contracts.ring.places.Blank as C
use Rattle.piper_ring.proofs.ring.places.Blank.TheLaw.Statement.{statement}

pub shares : statement
shares = of_Lends C.struct (C.the_codes ghost_coded) C.the_heap C.the_lent
    (λ d p. said_shr_laws (fact (Placed d.at d.capacity)) (λ _. tt)) (ghost_shared, tt)
    (λ M 𝓤 𝓛 d p. Lends-first 𝓛 (fact (Placed d.at d.capacity)) (span (unset d.at d.capacity) d.first d.count) (said (fact (Placed d.at d.capacity))) C.the_row.lives (Lends-said 𝓛 (fact (Placed d.at d.capacity)) (λ _. tt) C.the_row.lives))
