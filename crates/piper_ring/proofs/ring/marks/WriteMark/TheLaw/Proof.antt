-- A `&` to a mark holds what it knows, which can be had twice. Assumes `Logic`.
use Rattle.piper_ring.proofs.Kit.{snd∗, before, sem, of_Lends, lends_twice, announced, ghost_coded, ghost_shared}
use Rattle.piper_ring.specs.contracts.ring.marks.WriteMark as C
use Rattle.piper_ring.proofs.Evidence.{announced_twice}
use Rattle.piper_ring.proofs.ring.marks.WriteMark.TheLaw.Statement.{statement}

pub shares : statement
shares = of_Lends C.struct (C.the_codes ghost_coded) C.the_heap C.the_lent
    (λ d p. record { contraction = λ M 𝓤 𝓛 κ. announced_twice 𝓛 d.names d.bytes d.shut; mono = λ M 𝓤 𝓛 κ' κ. snd∗ 𝓤 (sem 𝓛 (before κ' κ)) (sem 𝓛 (announced d.names d.bytes d.shut)) })
    (ghost_shared, tt)
    (λ M 𝓤 𝓛 d p. lends_twice 𝓛 (announced d.names d.bytes d.shut) (announced_twice 𝓛 d.names d.bytes d.shut) C.the_row.lives)
