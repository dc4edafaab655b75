-- The bytes that were taken so far are those of the lines, and those that are kept.
use Rattle.std.proofs.Common.{◌≡◌, ◌<◌, ◌≤◌, ◌+◌, ◌++◌, length, vec_capacity}
use Rattle.futures.specs.Task.{Keeps}
use Rattle.piper_lines.specs.LineReader.{reader_of, end_of, kept_of}
use Rattle.piper_lines.specs.Moves.{Moves}
use Rattle.piper_lines.specs.Stays.{ReaderStays}
use Rattle.piper_lines.specs.Split.{joined, Adds, IsPiece}
use Rattle.piper_lines.proofs.collect.all_lines.poll_lines.Given as goal

abbrev pub invariant-loop : goal.invariant-loop
invariant-loop g l = record {
  moved : Moves (g.R.AsyncBufRead.taken (reader_of l.initial.lines)) (g.R.AsyncBufRead.taken (reader_of l.lines))
      (joined l.initial.out.items ++ kept_of l.initial.lines) (joined l.out.items) (kept_of l.lines);
  split : Adds (λ piece. length (kept_of l.initial.lines) < l.limit → IsPiece (end_of l.initial.lines) l.limit piece) l.initial.out.items l.out.items;
  short : length (kept_of l.initial.lines) < l.limit → length (kept_of l.lines) < l.limit;
  room : vec_capacity l.initial.out ≤ vec_capacity l.out;
  end : end_of l.lines ≡ end_of l.initial.lines;
  more : length l.initial.out.items + l.counter ≤ length l.out.items;
  stays : ReaderStays g.R.AsyncBufRead.knows_end g.R.AsyncBufRead.woken (reader_of l.initial.lines) (reader_of l.lines);
  kept : Keeps l.initial.cx l.cx;
}
