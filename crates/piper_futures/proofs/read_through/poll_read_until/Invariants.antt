-- What was taken so far is at the end of the bytes, and lacks the delimiter.
use Rattle.std.proofs.Common.{◌+◌, ◌≤◌, length, vec_capacity}
use Rattle.futures.specs.Task.{Keeps}
use Rattle.piper_lines.specs.Stays.{ReaderStays}
use Rattle.piper_futures.specs.Until.{GrowsBy, Lacks}
use Rattle.piper_futures.proofs.read_through.poll_read_until.Given as goal

abbrev pub invariant-loop : goal.invariant-loop
invariant-loop g l = record {
  grown : GrowsBy (g.R.AsyncBufRead.taken l.initial.reader) (g.R.AsyncBufRead.taken l.reader) l.initial.bytes.items l.bytes.items (Lacks l.byte);
  room : vec_capacity l.initial.bytes ≤ vec_capacity l.bytes;
  moved : length (g.R.AsyncBufRead.taken l.initial.reader) + l.counter ≤ length (g.R.AsyncBufRead.taken l.reader);
  stays : ReaderStays g.R.AsyncBufRead.knows_end g.R.AsyncBufRead.woken l.initial.reader l.reader;
  kept : Keeps l.initial.cx l.cx;
}
