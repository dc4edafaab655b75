-- What was written so far is the front, and the rest is left.
use Rattle.piper_pump.proofs.Taking.{Takes}
use Rattle.piper_pump.proofs.tees.write_all.Given as goal

abbrev pub invariant-loop : goal.invariant-loop
invariant-loop g l =
    (goal.iterator-loop g).can_next l.iterator' × (goal.iterator-loop g).is_finite l.iterator'
    × Takes g.D.Destination.took l.initial.dest l.dest l.bytes l.rest
