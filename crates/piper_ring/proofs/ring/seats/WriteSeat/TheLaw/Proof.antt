-- A `&` to the writer's side lends the invariant and a share of what the writer knows. Assumes
-- `Logic`.
use Rattle.piper_ring.proofs.Kit.{copy_shared, RawPtr-copy, of_Lends, RawPtr-field}
use Rattle.piper_ring.specs.contracts.ring.seats.WriteSeat as C
use Rattle.piper_ring.proofs.ring.seats.WriteSeat.TheLaw.Statement.{statement}
use Rattle.piper_ring.proofs.Rights.{writer_laws, lends_writer}

pub shares : statement
shares = of_Lends C.struct C.the_codes C.the_heap C.the_lent
    (λ d _. writer_laws d.words d.at d.names d.sent d.limit d.shut) (copy_shared RawPtr-field RawPtr-copy, tt)
    (λ M 𝓤 𝓛 d _. lends_writer 𝓛 d.words d.at d.names d.sent d.limit d.shut C.the_row.lives)
