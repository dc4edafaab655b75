-- What becomes of a side of a ring.
use Rattle.std.specs.Prelude.{◌≡◌}
use Rattle.piper_ring.specs.Log.{Log}
use Rattle.piper_ring.specs.SlotsView.{SlotsView}
use Rattle.piper_ring.specs.declared.ends.slots.SlotEnd.{Ghosts}
use Rattle.piper_ring.specs.declared.ends.slots.side.Side.{Side}

-- the side a has become b, with this end of the ring, with this of the slots, and with this log
pub record Becomes {E T H : Type 0} {ghosts : Ghosts E H} (a b : Side E T H ghosts)
    (e : E) (s : SlotsView) (l : Log) : Type 0 where
  pub end : b.end ≡ e
  pub slots : b.slots ≡ s
  pub log : b.log ≡ l
  pub cells : b.cells ≡ a.cells
