-- A `&` to the reader's side lends the invariant and a share of what the reader knows. Assumes
-- `Logic`.
use Rattle.piper_ring.proofs.Kit.{copy_shared, RawPtr-copy, of_Lends, RawPtr-field}
use Rattle.piper_ring.specs.contracts.ring.seats.ReadSeat as C
use Rattle.piper_ring.proofs.ring.seats.ReadSeat.TheLaw.Statement.{statement}
use Rattle.piper_ring.proofs.Rights.{reader_laws, lends_reader}

pub shares : statement
shares = of_Lends C.struct C.the_codes C.the_heap C.the_lent
    (λ d _. reader_laws d.words d.at d.names d.head d.seen d.leaving) (copy_shared RawPtr-field RawPtr-copy, tt)
    (λ M 𝓤 𝓛 d _. lends_reader 𝓛 d.words d.at d.names d.head d.seen d.have d.leaving C.the_row.lives)
