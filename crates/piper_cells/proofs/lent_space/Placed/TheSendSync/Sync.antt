-- Threads may share it, where they may share the value.
use mathlib.Core.List.{[], ◌∷◌}
use Rattle.piper_cells.proofs.SpaceKit.{RawPtr, RattleType, shape, seen}
use denote.Param.Send.{IsSync, sendable, struct_sync}
use Rattle.piper_cells.specs.contracts.lent_space.Placed.{the_row, the_type}

pub sync : (T : RattleType) → IsSync T → IsSync (the_row T)
sync T y = let pointer : IsSync RawPtr = search sendable in record {
  shared = λ d b o κ. ((struct_sync (shape (the_type T)) (pointer, tt)).shared (d.at, tt) b o κ, seen T y d.at d.value (d.life ∷ []));
}
