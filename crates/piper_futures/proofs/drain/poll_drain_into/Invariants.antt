-- What was taken so far was written.
use Rattle.std.proofs.Common.{◌+◌, ◌≤◌, length}
use Rattle.futures.specs.Task.{Keeps}
use Rattle.piper_lines.specs.Stays.{ReaderStays}
use Rattle.piper_futures.specs.Draining.{DrainsOn}
use Rattle.piper_futures.proofs.drain.poll_drain_into.Given as goal

abbrev pub invariant-loop : goal.invariant-loop
invariant-loop g l = record {
  drains : DrainsOn (g.R.AsyncBufRead.taken l.initial.reader) (g.R.AsyncBufRead.taken l.reader) (g.D.Write.contents l.initial.dest) (g.D.Write.contents l.dest);
  moved : length (g.R.AsyncBufRead.taken l.initial.reader) + l.counter ≤ length (g.R.AsyncBufRead.taken l.reader);
  stays : ReaderStays g.R.AsyncBufRead.knows_end g.R.AsyncBufRead.woken l.initial.reader l.reader;
  kept : Keeps l.initial.cx l.cx;
}
