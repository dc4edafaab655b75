-- The bytes are as they were.
use Rattle.std.specs.Io.KnownBytes.{Keeps}
use Rattle.piper_transfer.specs.Taken.{StaysTaken}
use Rattle.piper_transfer.proofs.patience.flush_patiently.Given as goal

abbrev pub invariant-loop : goal.invariant-loop
invariant-loop g l =
    (goal.iterator-loop g).can_next l.iterator' × (goal.iterator-loop g).is_finite l.iterator'
    × Keeps (g.D.Destination.contents l.initial.dest) (g.D.Destination.contents l.dest)
    × StaysTaken g.D.Destination.took l.initial.dest l.dest
