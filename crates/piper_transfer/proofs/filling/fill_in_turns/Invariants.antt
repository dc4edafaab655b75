-- What the input gave so far is published, and the pipe is open.
use Rattle.piper_transfer.specs.Transfer.{Fed, IsOpen}
use Rattle.piper_transfer.proofs.filling.fill_in_turns.Given as goal

abbrev pub invariant-loop : goal.invariant-loop
invariant-loop g l =
    (goal.iterator-loop g).can_next l.iterator' × (goal.iterator-loop g).is_finite l.iterator'
    × Fed (g.S.Source.remaining l.initial.source) (g.S.Source.remaining l.source) l.initial.writer.side.end l.writer.side.end
    × IsOpen l.writer.side.end
