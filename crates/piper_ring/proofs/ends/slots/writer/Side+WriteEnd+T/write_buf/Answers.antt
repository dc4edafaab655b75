-- A side whose writer was lent from is that side, whichever the evidence that its parts belong together.
use Rattle.piper_ring.proofs.Kit.{◌≡◌, ◌+◌, ◌-◌, length, true, false, refl, ap, WriteView}
use Rattle.std.proofs.Props.{props}
use Rattle.piper_cells.specs.declared.lent_space.Placed.{Placed}
use Rattle.piper_ring.specs.Cells.{AreCellsOf}
use Rattle.piper_ring.specs.SlotsView.{SlotsView}
use Rattle.piper_ring.specs.declared.ends.cells.WakerCells.{WakerCells}
use Rattle.piper_ring.specs.declared.ends.slots.side.Side.{Side}
use Rattle.piper_protocol.specs.Told.{are_calls, moved_in, seen_in, shut_in, tickets_in, waits_in}
use Rattle.piper_ring.specs.Log.{IsLogOf, Log, as_is, own, tells_true}
use Rattle.piper_ring.specs.contracts.ends.slots.writer.ReadStored.{the_row as stored_row}
use Rattle.piper_ring.specs.contracts.ends.slots.writer.WriteEndSlotEnd.TheImpl.{ghosts}
use Rattle.piper_ring.proofs.ends.slots.writer.Side+WriteEnd+T.write_buf.Goals as goal

-- the evidence that the parts belong together
abbrev Together : {T : Type 0} → WriteView → SlotsView → Placed (WakerCells T) → Log → Type 0
Together e s p l =
    (s.names ≡ e.ring.names) × AreCellsOf s.names p × IsLogOf s.names false l × (tells_true l ≡ true)
    × (are_calls l.lines ≡ true) × (moved_in l.lines ≡ e.sent)
    × (seen_in l.lines ≡ as_is (length e.sent + e.room - e.capacity)) × (shut_in l.lines ≡ as_is e.shut)
    × (waits_in (own false) l.lines ≡ as_is s.waits) × (tickets_in l.lines ≡ as_is s.tickets)

is_one : {T : Type 0} (e : WriteView) (s : SlotsView) (p : Placed (WakerCells T)) (l : Log) → IsProp (Together e s p l)
is_one e s p l = Prim.hlevel props

module _ {T : Type 0} (e : WriteView) (s : SlotsView) (p : Placed (WakerCells T)) (l : Log) where
  abbrev side : Together e s p l → Side WriteView T stored_row.Denot ghosts
  side t = record { end = e; slots = s; cells = p; log = l; of_one_ring = t.0; places = t.1; own_log = t.2; right = t.3; calls = t.4; moved = t.5; seen = t.6; shut = t.7; waits = t.8; tickets = t.9 }

  same_side : (a b : Together e s p l) → side a ≡ side b
  same_side a b = ap side (is_one e s p l a b)

pub returns : goal.returns
returns g c = ((refl, λ w. same_side _ _ _ _ _ _), c.write_buf.ensures)
