-- What was taken so far is at the end of the bytes.
use Rattle.std.proofs.Common.{◌+◌, ◌≤◌, length, vec_capacity}
use Rattle.futures.specs.Task.{Keeps}
use Rattle.piper_lines.specs.Stays.{ReaderStays}
use Rattle.piper_lines.specs.Moves.{Grows}
use Rattle.piper_futures.proofs.read_all.poll_read_to_end.Given as goal

abbrev pub invariant-loop : goal.invariant-loop
invariant-loop g l = record {
  grown : Grows (g.R.AsyncBufRead.taken l.initial.reader) (g.R.AsyncBufRead.taken l.reader) l.initial.bytes.items l.bytes.items;
  room : vec_capacity l.initial.bytes ≤ vec_capacity l.bytes;
  moved : length (g.R.AsyncBufRead.taken l.initial.reader) + l.counter ≤ length (g.R.AsyncBufRead.taken l.reader);
  stays : ReaderStays g.R.AsyncBufRead.knows_end g.R.AsyncBufRead.woken l.initial.reader l.reader;
  kept : Keeps l.initial.cx l.cx;
}
