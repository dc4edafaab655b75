-- Threads may share it.
use Rattle.piper_cells.proofs.SpaceKit.{IsSync, sendable, Struct, shape}
use Rattle.piper_cells.specs.contracts.token_cell.Token.{the_row, the_type}

pub sync : IsSync the_row
sync = let fields : IsSync (Struct (shape the_type)) = search sendable depth 20 in record { shared = λ d b o ν. (fields.shared (tt, tt) b o ν, tt) }
