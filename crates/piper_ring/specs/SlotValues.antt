-- What is known of the slots, as values.
use Rattle.std.specs.Prelude.{◌≡◌, ℕ, ◌<◌, Bool, true, false, List, slice_index}
use Rattle.piper_cells.specs.declared.token_cell.Token.{Token}
use Rattle.piper_ring.specs.Shared.{Names}
use Rattle.piper_ring.specs.Loads.{FoundLeft}
use Rattle.piper_ring.specs.Slot.{Stored, Waits, Wakes, nothing_stored, number}
use Rattle.piper_ring.specs.declared.ring.slots.WaiterState.{WaiterState}
use Rattle.piper_ring.specs.declared.ring.slots.WakerState.{WakerState}

abbrev pub of_waits : WaiterState → Waits Stored
of_waits s = (s.waits, (s.tickets, s.heard))

abbrev pub of_wakes : WakerState → Wakes Stored
of_wakes s = (s.taken, s.stored)

-- nobody has registered yet
abbrev pub IsUnused : Names → Bool → WaiterState → Type 0
IsUnused z r s =
    (s.names ≡ z) × (s.for_reader ≡ r) × (s.waits ≡ false) × (s.tickets ≡ 0)
    × (s.heard ≡ nothing_stored)

-- no check has followed a store yet
abbrev pub LooksFirst : Names → Bool → WakerState → Type 0
LooksFirst z r s =
    (s.names ≡ z) × (s.for_reader ≡ r) × (s.taken ≡ 0) × (s.stored ≡ nothing_stored)

-- it is the token of the cell with this index, and says whether that holds a waker
pub record IsTokenOf (cells : List ℕ) (i : ℕ) (is_filled : Bool) (right : Token) : Type 0 where
  pub small : i < 4
  pub name : right.name ≡ slice_index cells i
  pub there : right.there ≡ true
  pub filled : right.filled ≡ is_filled

-- it is the token of the cell of which a slot's word speaks
abbrev pub IsTokenAt : List ℕ → ℕ → Token → Type 0
IsTokenAt cells n right =
    (i : ℕ) × IsTokenOf cells i right.filled right × (n ≡ number (i, right.filled))

-- both ends had left: the slot's word was so, and the token is of the cell that lay there
abbrev pub IsLeft : Names → Bool → ℕ → Token → Type 0
IsLeft z r n right = IsTokenAt z.cells n right × FoundLeft z r right.filled
