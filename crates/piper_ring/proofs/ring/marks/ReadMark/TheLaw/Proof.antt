-- A `&` to a mark holds what it knows, which can be had twice. Assumes `Logic`.
use Rattle.piper_ring.proofs.Kit.{snd∗, before, sem, of_Lends, lends_twice, took, ghost_coded, ghost_shared}
use Rattle.piper_ring.specs.contracts.ring.marks.ReadMark as C
use Rattle.piper_ring.proofs.Evidence.{took_twice}
use Rattle.piper_ring.proofs.ring.marks.ReadMark.TheLaw.Statement.{statement}

pub shares : statement
shares = of_Lends C.struct (C.the_codes ghost_coded) C.the_heap C.the_lent
    (λ d p. record { contraction = λ M 𝓤 𝓛 κ. took_twice 𝓛 d.names d.count; mono = λ M 𝓤 𝓛 κ' κ. snd∗ 𝓤 (sem 𝓛 (before κ' κ)) (sem 𝓛 (took d.names d.count)) })
    (ghost_shared, tt)
    (λ M 𝓤 𝓛 d p. lends_twice 𝓛 (took d.names d.count) (took_twice 𝓛 d.names d.count) C.the_row.lives)
