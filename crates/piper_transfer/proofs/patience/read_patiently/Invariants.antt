-- The bytes are as they were.
use Rattle.std.specs.Io.KnownBytes.{Keeps}
use Rattle.piper_transfer.proofs.patience.read_patiently.Given as goal

abbrev pub invariant-loop : goal.invariant-loop
invariant-loop g l =
    (goal.iterator-loop g).can_next l.iterator' × (goal.iterator-loop g).is_finite l.iterator'
    × Keeps (g.S.Source.remaining l.initial.source) (g.S.Source.remaining l.source)
