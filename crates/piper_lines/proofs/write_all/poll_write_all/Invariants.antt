-- What was counted so far was sent.
use Rattle.std.proofs.Common.{◌≤◌, ◌-◌, drop, length}
use Rattle.futures.specs.Task.{Keeps}
use Rattle.piper_lines.specs.Sends.{Sends}
use Rattle.piper_lines.specs.Stays.{WriterStays}
use Rattle.piper_lines.proofs.write_all.poll_write_all.Given as goal

abbrev pub invariant-loop-written : goal.invariant-loop-written
invariant-loop-written g l = record {
  within : l.written ≤ length l.bytes;
  sends : Sends (drop l.fn.written l.bytes) (drop l.written l.bytes) (g.W.AsyncWrite.sent l.fn.writer) (g.W.AsyncWrite.sent l.writer) (g.W.AsyncWrite.saw l.fn.writer) (g.W.AsyncWrite.saw l.writer);
  stays : WriterStays g.W.AsyncWrite.saw g.W.AsyncWrite.woken l.fn.writer l.writer;
  kept : Keeps l.fn.cx l.cx;
}

abbrev pub decreases-loop-written : goal.decreases-loop-written
decreases-loop-written g l = length l.bytes - l.written
