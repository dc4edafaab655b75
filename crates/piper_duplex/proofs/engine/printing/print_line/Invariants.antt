-- What was taken so far was printed, and counted.
use Rattle.std.proofs.Common.{◌≡◌, ◌+◌, ◌≤◌, length}
use Rattle.piper_duplex.specs.Client.{Prints}
use Rattle.piper_duplex.proofs.engine.printing.print_line.Given as goal

abbrev pub invariant-loop : goal.invariant-loop
invariant-loop g l =
    (goal.iterator-loop g).can_next l.iterator' × (goal.iterator-loop g).is_finite l.iterator'
    × (l.count ≤ l.size)
    × (length (g.A.AsyncBufRead.taken l.reader) ≡ length (g.A.AsyncBufRead.taken l.initial.reader) + l.count)
    × Prints (g.A.AsyncBufRead.taken l.initial.reader) (g.A.AsyncBufRead.taken l.reader) (g.O.Write.contents l.initial.output) (g.O.Write.contents l.output)
