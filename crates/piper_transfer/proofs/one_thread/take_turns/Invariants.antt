-- What the input gave so far is published, what was taken out of the pipe was written, and both are
-- ends of one pipe.
use Rattle.std.specs.Prelude.{◌≡◌, ◌<◌}
use Rattle.piper_transfer.specs.Transfer.{Fed, IsOpen, PouredAll}
use Rattle.piper_transfer.proofs.one_thread.take_turns.Given as goal

abbrev pub invariant-loop : goal.invariant-loop
invariant-loop g l =
    (goal.iterator-loop g).can_next l.iterator' × (goal.iterator-loop g).is_finite l.iterator'
    × Fed (g.S.Source.remaining l.initial.source) (g.S.Source.remaining l.source) l.initial.writer.side.end l.writer.side.end
    × IsOpen l.writer.side.end
    × PouredAll g.D.Destination.contents g.D.Destination.took l.initial.dest l.dest l.initial.reader.side.end l.reader.side.end
    × (l.writer.side.end.ring ≡ l.reader.side.end.ring) × (0 < l.reader.side.end.capacity)
