-- It may move to another thread, where threads may share the value.
use mathlib.Core.List.{[], ◌∷◌}
use Rattle.piper_cells.proofs.SpaceKit.{IsSend, IsSync, RattleType, seen}
use Rattle.piper_cells.specs.contracts.lent_space.Placed.{the_row}

pub send : (T : RattleType) → IsSync T → IsSend (the_row T)
send T y = record { owned = λ d vs. ((λ vss. (tt, (tt, tt))), seen T y d.at d.value (d.life ∷ [])); leaving = λ k f vs. tt }
