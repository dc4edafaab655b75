-- What was taken so far was published.
use Rattle.std.proofs.Common.{◌≡◌, ◌+◌, ◌≤◌, length, true}
use Rattle.futures.specs.Task.{Keeps}
use Rattle.piper.specs.Polls.{Carries}
use Rattle.piper.proofs.io.copy.poll_copy.Given as goal

abbrev pub invariant-loop : goal.invariant-loop
invariant-loop g l = record {
  carried : Carries (g.R.AsyncBufRead.taken l.initial.reader) (g.R.AsyncBufRead.taken l.reader) (g.W.AsyncWrite.sent l.initial.writer) (g.W.AsyncWrite.sent l.writer) (g.W.AsyncWrite.saw l.writer);
  over : g.W.AsyncWrite.saw l.initial.writer ≡ true → (g.R.AsyncBufRead.taken l.reader ≡ g.R.AsyncBufRead.taken l.initial.reader) × (g.W.AsyncWrite.sent l.writer ≡ g.W.AsyncWrite.sent l.initial.writer);
  stays : g.W.AsyncWrite.saw l.initial.writer ≡ true → g.W.AsyncWrite.saw l.writer ≡ true;
  knows_end : g.R.AsyncBufRead.knows_end l.reader ≡ g.R.AsyncBufRead.knows_end l.initial.reader;
  reader_woken : g.R.AsyncBufRead.woken l.initial.reader → g.R.AsyncBufRead.woken l.reader;
  writer_woken : g.W.AsyncWrite.woken l.initial.writer → g.W.AsyncWrite.woken l.writer;
  moved : length (g.R.AsyncBufRead.taken l.initial.reader) + l.counter ≤ length (g.R.AsyncBufRead.taken l.reader);
  kept : Keeps l.initial.cx l.cx;
}
