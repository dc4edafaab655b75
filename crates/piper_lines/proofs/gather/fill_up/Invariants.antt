-- What was taken so far is at the end of what is gathered.
use Rattle.std.proofs.Common.{◌≡◌, ◌≤◌, ◌-◌, length, vec_capacity}
use Rattle.futures.specs.Task.{Keeps}
use Rattle.piper_lines.specs.Moves.{Grows}
use Rattle.piper_lines.specs.Stays.{ReaderStays}
use Rattle.piper_lines.proofs.gather.fill_up.Given as goal

abbrev pub invariant-loop-reader : goal.invariant-loop-reader
invariant-loop-reader g l = record {
  grown : Grows (g.R.AsyncBufRead.taken l.fn.reader) (g.R.AsyncBufRead.taken l.reader) l.fn.gathered.items l.gathered.items;
  within : length l.gathered.items ≤ l.size;
  room : vec_capacity l.fn.gathered ≤ vec_capacity l.gathered;
  ended : g.R.AsyncBufRead.ended l.fn.reader → g.R.AsyncBufRead.ended l.reader × (l.gathered.items ≡ l.fn.gathered.items);
  stays : ReaderStays g.R.AsyncBufRead.knows_end g.R.AsyncBufRead.woken l.fn.reader l.reader;
  kept : Keeps l.fn.cx l.cx;
}

abbrev pub decreases-loop-reader : goal.decreases-loop-reader
decreases-loop-reader g l = l.size - length l.gathered.items
