-- The bytes before `at` were sent, and all but those of the line that is sent came back and were
-- printed.
use Rattle.std.proofs.Common.{◌≡◌, ◌+◌, ◌-◌, ◌≤◌, true, false, drop, length}
use Rattle.piper_lines.specs.Sends.{Sends}
use Rattle.piper_duplex.specs.Client.{Prints}
use Rattle.piper_duplex.proofs.engine.client.send_lines.Given as goal

abbrev pub invariant-loop-at : goal.invariant-loop-at
invariant-loop-at g l = record {
  within : l.at ≤ length l.bytes;
  next : l.line.is_whole ≡ false;
  flushed : g.O.StdWriter.flushed l.output;
  sent : Sends l.bytes (drop l.at l.bytes) (g.B.AsyncWrite.sent l.fn.writer) (g.B.AsyncWrite.sent l.writer) (g.B.AsyncWrite.saw l.fn.writer) (g.B.AsyncWrite.saw l.writer);
  stays : g.B.AsyncWrite.saw l.fn.writer ≡ true → g.B.AsyncWrite.saw l.writer ≡ true;
  printed : Prints (g.A.AsyncBufRead.taken l.fn.reader) (g.A.AsyncBufRead.taken l.reader) (g.O.Write.contents l.fn.output) (g.O.Write.contents l.output);
  all : length (g.A.AsyncBufRead.taken l.fn.reader) + l.fn.line.sent + l.at ≡ length (g.A.AsyncBufRead.taken l.reader) + l.line.sent;
}

abbrev pub decreases-loop-at : goal.decreases-loop-at
decreases-loop-at g l = length l.bytes - l.at
