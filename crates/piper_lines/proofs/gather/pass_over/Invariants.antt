-- As many bytes were taken so far as there are fewer to pass.
use Rattle.std.proofs.Common.{◌≡◌, ◌+◌, ◌≤◌, length}
use Rattle.futures.specs.Task.{Keeps}
use Rattle.piper_lines.specs.Moves.{Passes}
use Rattle.piper_lines.specs.Stays.{ReaderStays}
use Rattle.piper_lines.proofs.gather.pass_over.Given as goal

abbrev pub invariant-loop : goal.invariant-loop
invariant-loop g l = record {
  passed : Passes (g.R.AsyncBufRead.taken l.initial.reader) (g.R.AsyncBufRead.taken l.reader) l.initial.left l.left;
  idle : l.initial.left ≡ 0 → (l.reader ≡ l.initial.reader) × (l.left ≡ 0) × (l.counter ≡ 0);
  moved : length (g.R.AsyncBufRead.taken l.initial.reader) + l.counter ≤ length (g.R.AsyncBufRead.taken l.reader);
  stays : ReaderStays g.R.AsyncBufRead.knows_end g.R.AsyncBufRead.woken l.initial.reader l.reader;
  kept : Keeps l.initial.cx l.cx;
}
