-- The two ends of a new ring, and its slots.
use Rattle.std.specs.Prelude.{◌≡◌, ℕ, false, []}
use Rattle.piper_ring.specs.ReadView.{ReadView}
use Rattle.piper_ring.specs.WriteView.{WriteView}
use Rattle.piper_ring.specs.Shared.{Names}
use Rattle.piper_ring.specs.Slot.{nothing_stored}
use Rattle.piper_ring.specs.SlotsView.{SlotsView}

-- nothing was consumed, nothing is known, no mark was observed and nothing was seen
pub record FreshReadEnd (cap : ℕ) (r : ReadView) : Type 0 where
  pub capacity : r.capacity ≡ cap
  pub taken : r.taken ≡ []
  pub known : r.known ≡ []
  pub observed : (r.observed ≡ 0) × (r.observed_shut ≡ false)
  pub saw : r.saw ≡ false

-- nothing was published, all places are its room and nothing is lent, no mark was observed and
-- nothing was seen
pub record FreshWriteEnd (cap : ℕ) (w : WriteView) : Type 0 where
  pub capacity : w.capacity ≡ cap
  pub sent : w.sent ≡ []
  pub room : w.room ≡ cap
  pub lent : w.lent ≡ []
  pub shut : w.shut ≡ false
  pub observed : w.observed ≡ 0
  pub saw : w.saw ≡ false

-- nobody has waited, and no check followed a store
pub record FreshSlots (z : Names) (s : SlotsView) : Type 0 where
  pub names : s.names ≡ z
  pub waits : (s.waits ≡ false) × (s.tickets ≡ 0)
  pub wakes : (s.taken ≡ 0) × (s.stored ≡ nothing_stored)
