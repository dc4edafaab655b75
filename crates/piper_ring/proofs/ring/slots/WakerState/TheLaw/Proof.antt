-- A `&` to it holds nothing. Assumes `Logic`.
use Rattle.piper_ring.proofs.Kit.{nothing_shr_laws, of_Lends, Lends-nothing, ghost_coded, ghost_shared}
use Rattle.piper_ring.specs.contracts.ring.slots.WakerState as C
use Rattle.piper_ring.proofs.ring.slots.WakerState.TheLaw.Statement.{statement}

pub shares : statement
shares =
    of_Lends C.struct (C.the_codes ghost_coded) C.the_heap C.the_lent (λ d p. nothing_shr_laws)
    (ghost_shared, tt)
    (λ M 𝓤 𝓛 d p. Lends-nothing 𝓛 (C.the_heap d) C.the_row.lives)
