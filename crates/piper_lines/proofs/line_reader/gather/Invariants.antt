-- What was taken so far is at the end of the line, which none of it ends yet.
use Rattle.std.proofs.Common.{◌≡◌, ◌≤◌, ◌⊎◌, ◌-◌, length, vec_capacity}
use Rattle.futures.specs.Task.{Keeps}
use Rattle.piper_lines.specs.Line.{Lacks}
use Rattle.piper_lines.specs.Moves.{Grows}
use Rattle.piper_lines.specs.Stays.{ReaderStays}
use Rattle.piper_lines.proofs.line_reader.gather.Given as goal

abbrev pub invariant-loop-end : goal.invariant-loop-end
invariant-loop-end g l = record {
  grown : Grows (g.R.AsyncBufRead.taken l.fn.reader) (g.R.AsyncBufRead.taken l.reader) l.fn.line.items l.line.items;
  unfinished : Lacks l.end l.line.items;
  within : (length l.line.items ≤ l.limit) ⊎ (l.line.items ≡ l.fn.line.items);
  room : vec_capacity l.fn.line ≤ vec_capacity l.line;
  ended : g.R.AsyncBufRead.ended l.fn.reader → g.R.AsyncBufRead.ended l.reader × (l.line.items ≡ l.fn.line.items);
  stays : ReaderStays g.R.AsyncBufRead.knows_end g.R.AsyncBufRead.woken l.fn.reader l.reader;
  kept : Keeps l.fn.cx l.cx;
}

abbrev pub decreases-loop-end : goal.decreases-loop-end
decreases-loop-end g l = l.limit - length l.line.items
