-- A `&` to a mark holds what it knows, which can be had twice. Assumes `Logic`.
use Rattle.piper_ring.proofs.Kit.{snd∗, before, sem, of_Lends, lends_twice, raised, ghost_coded, ghost_shared}
use Rattle.piper_ring.specs.contracts.ring.marks.ClosedMark as C
use Rattle.piper_ring.proofs.Evidence.{raised_twice}
use Rattle.piper_ring.proofs.ring.marks.ClosedMark.TheLaw.Statement.{statement}

pub shares : statement
shares = of_Lends C.struct (C.the_codes ghost_coded) C.the_heap C.the_lent
    (λ d p. record { contraction = λ M 𝓤 𝓛 κ. raised_twice 𝓛 d.names.closed d.seen; mono = λ M 𝓤 𝓛 κ' κ. snd∗ 𝓤 (sem 𝓛 (before κ' κ)) (sem 𝓛 (raised d.names.closed d.seen)) })
    (ghost_shared, tt)
    (λ M 𝓤 𝓛 d p. lends_twice 𝓛 (raised d.names.closed d.seen) (raised_twice 𝓛 d.names.closed d.seen) C.the_row.lives)
