-- It may move to another thread.
use denote.Param.Send.{IsSend}
use Rattle.piper_cells.specs.contracts.lent_space.Lender.{the_row}

pub send : IsSend the_row
send = record { owned = λ d vs. ((λ vss. (tt, (tt, tt))), ((λ inb. tt), tt)); leaving = λ k f vs. tt }
