-- What a writer ends as, once a `&mut` into the slice that it lent has ended:
-- what is lent holds what was written there.
use Rattle.std.specs.Prelude.{ℕ, List}
use Rattle.std.specs.Borrow.{Fml, MutBor, Array, Lends}
use denote.Builtin.{u8}
use denote.RattleType.{RattleType}
use Rattle.piper_ring.specs.Lends.{written}
use Rattle.piper_ring.specs.WriteView.{WriteView, write_view}
use Rattle.piper_ring.specs.contracts.ends.writer.WriteEnd.{the_row}
use Rattle.piper_ring.specs.contracts.ends.slots.side.Side.{the_row as side_row}
use Rattle.piper_ring.specs.contracts.ends.slots.writer.ReadStored.{the_row as stored_row}
use Rattle.piper_ring.specs.contracts.ends.slots.writer.WriteEndSlotEnd.TheImpl.{ghosts}
use Rattle.piper_ring.specs.declared.ends.slots.side.Side.{Side}

abbrev pub with_lent : WriteView → List ℕ → List ℕ → WriteView
with_lent w xs ws = write_view w.ring w.capacity w.sent w.room (written xs ws) w.shut w.observed w.saw

abbrev pub lends_buffer : MutBor WriteView → MutBor (List ℕ) → Fml
lends_buffer w r = Lends the_row (Array u8 0) w r (with_lent w.now r.now)

abbrev pub lends_side : (R : RattleType) → MutBor (Side WriteView R.Denot stored_row.Denot ghosts) → MutBor (List ℕ) → Fml
lends_side R w r =
    Lends (side_row the_row R stored_row ghosts) (Array u8 0) w r (λ ws. record w.now { end = with_lent w.now.end r.now ws })
