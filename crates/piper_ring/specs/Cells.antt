-- The cells of the wakers of a ring's two sides.
use Rattle.std.specs.Prelude.{◌≡◌, ℕ, List, [], ◌∷◌, true, false, is_some}
use Rattle.piper_cells.specs.declared.lent_space.Placed.{Placed}
use Rattle.piper_ring.specs.Shared.{Names}
use Rattle.piper_ring.specs.Loads.{FoundGone, FoundLeft}
use Rattle.piper_ring.specs.declared.ends.cells.LeftWakers.{LeftWakers}
use Rattle.piper_ring.specs.declared.ends.cells.WakerCells.{WakerCells}

-- all of them, by their index
abbrev pub list_of : {T : Type 0} → WakerCells T → List ℕ
list_of cells = cells.first ∷ cells.second ∷ cells.third ∷ cells.fourth ∷ []

-- they are those of the ring with these names
abbrev pub AreCellsOf : {T : Type 0} → Names → Placed (WakerCells T) → Type 0
AreCellsOf names cells = (cells.life ≡ names.life) × (list_of cells.value ≡ names.cells)

-- an end left: if the other one had left before, it got all that lay in the slots
pub record GetsLeft {T : Type 0} (names : Names) (left : LeftWakers T) : Type 0 where
  pub gone : ℕ
  pub found : FoundGone names gone
  pub reader : gone ≡ 1 → FoundLeft names true (is_some left.reader)
  pub writer : gone ≡ 1 → FoundLeft names false (is_some left.writer)
