-- The bytes of the rounds so far were published.
use Rattle.std.proofs.Common.{◌≡◌, ◌+◌, false}
use Rattle.piper_protocol.specs.Table.{goes_on}
use Rattle.piper_protocol.specs.declared.table.Point.TheVariants.{Writer}
use Rattle.piper_protocol.specs.declared.table.WritePoint.TheVariants.{CallSource}
use Rattle.piper_ring.specs.Log.{Comes}
use Rattle.piper_ring.specs.SlotsView.{IsWriterAtRest, WaitsAsBefore}
use Rattle.piper.specs.Called.{CallsTaken}
use Rattle.piper.proofs.RoundsIn.{Filled}
use Rattle.piper.proofs.copies.filling.fill_rounds.Given as goal

abbrev pub invariant-rounds : goal.invariant-rounds
invariant-rounds g l = record {
  ran : Comes (goes_on (Writer (CallSource l.fn.form l.moved))) l.fn.side.log l.side.log;
  filled : Filled g.R.ReadLike.gives l.fn.side.end l.side.end l.initial.source l.source l.moved;
  total : l.moved + l.side.end.room ≡ l.fn.side.end.room;
  open_yet : l.side.end.saw ≡ false;
  failures : g.R.ReadLike.failures l.source ≡ g.R.ReadLike.failures l.initial.source;
  called : CallsTaken l.fn.side.slots l.side.slots;
  notifies : IsWriterAtRest l.fn.side.end l.fn.side.slots → IsWriterAtRest l.side.end l.side.slots;
  rest : WaitsAsBefore l.fn.side.slots l.side.slots × (l.side.cells ≡ l.fn.side.cells);
}

abbrev pub decreases-rounds : goal.decreases-rounds
decreases-rounds g l = l.side.end.room
