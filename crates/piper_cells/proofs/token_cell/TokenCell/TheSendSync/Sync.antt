-- Threads may share it, where the content may move to another.
use Rattle.piper_cells.proofs.SpaceKit.{full_share, latest, Keyless, quarter, RattleType, offset, Loan, lies, Ghosts}
use Rattle.std.specs.Prelude.{ℕ, ◌+◌, Bool, true, false}
use denote.Param.Send.{IsSend, IsSync, part_keyless}
use Rattle.core.proofs.atomic.Sent.{chain-Keyless}
use Rattle.piper_cells.specs.contracts.token_cell.TokenCell.{the_row}
use Rattle.piper_cells.proofs.CellCrosses.{counted-Keyless}

lies-Keyless : (R : RattleType) (full : R.Denot → Bool) → IsSend R → (name b o : ℕ) (t : Loan R full name b o) (y : Bool) → Keyless (lies R full name b o t y)
unfolding latest
lies-Keyless R full s name b o t true = ((λ z. (part_keyless R s full_share z.1 b (o + offset R), counted-Keyless quarter name (full z.1) z.0)), (tt, tt))
lies-Keyless R full s name b o t false = λ n. tt

pub sync : (T : RattleType) (g : Ghosts T.Denot) → IsSend T → IsSync (the_row T g)
sync T g s = record { shared = λ d b o κ t. ((λ νs. chain-Keyless νs κ t.0), lies-Keyless T g.is_full s d b o t) }
