-- It may move to another thread.
use denote.Param.Send.{IsSend}
use Rattle.piper_cells.specs.contracts.token_cell.Token.{the_row}
use Rattle.piper_cells.proofs.CellCrosses.{right-Keyless}

pub send : IsSend the_row
send = record { owned = λ d vs. ((λ vss. (tt, ((λ uss. (tt, tt)), tt))), right-Keyless d.there d.name d.filled); leaving = λ k f vs. tt }
