-- Threads may share it.
use Rattle.piper_ring.proofs.Kit.{IsSync, sendable, Struct, shape}
use Rattle.piper_ring.specs.contracts.ring.seats.WriteSeat.{the_row, the_type}
use Rattle.piper_ring.proofs.Crosses.{writer_lends-Common}

pub sync : IsSync the_row
sync = let fields : IsSync (Struct (shape the_type)) = search sendable depth 20 in record { shared = λ d b o ν. (fields.shared (d.words, tt) b o ν, writer_lends-Common d.words d.at d.names d.sent d.limit d.shut ν) }
