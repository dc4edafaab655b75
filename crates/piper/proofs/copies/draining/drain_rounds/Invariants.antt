-- The bytes of the rounds so far were given to the destination.
use Rattle.std.proofs.Common.{◌≡◌, length}
use Rattle.piper_protocol.specs.Table.{goes_on}
use Rattle.piper_protocol.specs.declared.table.Point.TheVariants.{Reader}
use Rattle.piper_protocol.specs.declared.table.ReadPoint.TheVariants.{CallDestination}
use Rattle.piper_ring.specs.Log.{Comes}
use Rattle.piper_ring.specs.SlotsView.{IsReaderAtRest, WaitsAsBefore}
use Rattle.piper.specs.Called.{CallsTaken}
use Rattle.piper.proofs.RoundsOut.{Drained}
use Rattle.piper.proofs.copies.draining.drain_rounds.Given as goal

abbrev pub invariant-rounds : goal.invariant-rounds
invariant-rounds g l = record {
  ran : Comes (goes_on (Reader (CallDestination l.fn.form l.moved))) l.fn.side.log l.side.log;
  drained : Drained g.W.WriteLike.takes l.fn.side.end l.side.end l.initial.dest l.dest l.moved;
  failures : g.W.WriteLike.failures l.dest ≡ g.W.WriteLike.failures l.initial.dest;
  called : CallsTaken l.fn.side.slots l.side.slots;
  notifies : IsReaderAtRest l.fn.side.end l.fn.side.slots → IsReaderAtRest l.side.end l.side.slots;
  rest : WaitsAsBefore l.fn.side.slots l.side.slots × (l.side.cells ≡ l.fn.side.cells);
}

abbrev pub decreases-rounds : goal.decreases-rounds
decreases-rounds g l = length l.side.end.known
