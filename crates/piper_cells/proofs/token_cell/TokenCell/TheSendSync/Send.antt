-- It may move to another thread, where the content may.
use Rattle.piper_cells.proofs.SpaceKit.{quarter, RattleType, IsSend, Ghosts}
use Rattle.piper_cells.specs.contracts.token_cell.TokenCell.{the_row}
use Rattle.piper_cells.proofs.CellCrosses.{counted-Keyless}

pub send : (T : RattleType) (g : Ghosts T.Denot) → IsSend T → IsSend (the_row T g)
send T g s = record { owned = λ d vs. ((λ _. tt), λ z. ((λ vss. (tt, (s.owned z.1 vss.0, tt))), counted-Keyless quarter d (g.is_full z.1) z.0)); leaving = λ k d w. tt }
