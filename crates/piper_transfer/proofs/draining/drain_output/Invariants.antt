-- What was taken out of the pipe so far was written.
use Rattle.piper_transfer.specs.Transfer.{PouredAll}
use Rattle.piper_transfer.proofs.draining.drain_output.Given as goal

abbrev pub invariant-loop : goal.invariant-loop
invariant-loop g l =
    (goal.iterator-loop g).can_next l.iterator' × (goal.iterator-loop g).is_finite l.iterator'
    × PouredAll g.D.Destination.contents g.D.Destination.took l.initial.dest l.dest l.initial.output.reader.side.end l.output.reader.side.end
