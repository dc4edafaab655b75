-- What was taken so far was printed, and counted: a byte at least by each write.
use Rattle.std.proofs.Common.{◌≡◌, ◌+◌, ◌≤◌, length}
use Rattle.piper_duplex.specs.Client.{Prints}
use Rattle.piper_duplex.proofs.engine.printing.poll_print.Given as goal

abbrev pub invariant-loop : goal.invariant-loop
invariant-loop g l = record {
  printed : Prints (g.A.AsyncBufRead.taken l.initial.reader) (g.A.AsyncBufRead.taken l.reader) (g.O.Write.contents l.initial.output) (g.O.Write.contents l.output);
  within : l.count ≤ l.size;
  went : l.initial.count + l.counter ≤ l.count;
  counted : length (g.A.AsyncBufRead.taken l.reader) + l.initial.count ≡ length (g.A.AsyncBufRead.taken l.initial.reader) + l.count;
}
