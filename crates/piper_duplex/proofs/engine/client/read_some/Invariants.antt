-- The bytes are as they were.
use Rattle.std.specs.Io.KnownBytes.{Keeps}
use Rattle.piper_duplex.proofs.engine.client.read_some.Given as goal

abbrev pub invariant-loop : goal.invariant-loop
invariant-loop g l =
    (goal.iterator-loop g).can_next l.iterator' × (goal.iterator-loop g).is_finite l.iterator'
    × Keeps (g.I.Read.remaining l.initial.input) (g.I.Read.remaining l.input)
