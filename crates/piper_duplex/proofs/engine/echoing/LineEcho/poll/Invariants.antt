-- What was taken so far is written in whole pieces, or of the last one left.
use Rattle.std.proofs.Common.{◌≡◌, ◌<◌, [], length}
use Rattle.futures.specs.Task.{Keeps}
use Rattle.piper_lines.specs.LineReader.{LinesAreSpent, reader_of, end_of, kept_of}
use Rattle.piper_lines.specs.Split.{IsPiece}
use Rattle.piper_lines.specs.Stays.{ReaderStays, WriterStays}
use Rattle.piper_duplex.specs.Echoes.{IsRest, left_of}
use Rattle.piper_duplex.proofs.WritingBack.{Echoing}
use Rattle.piper_duplex.proofs.engine.echoing.LineEcho.poll.Given as goal

abbrev pub invariant-loop : goal.invariant-loop
invariant-loop g l = record {
  echoing : Echoing (λ piece. length (kept_of l.initial.lines) < l.limit → IsPiece (end_of l.initial.lines) l.limit piece) (IsRest (end_of l.initial.lines)) (LinesAreSpent g.R.AsyncBufRead.ended l.lines)
      (g.R.AsyncBufRead.taken (reader_of l.initial.lines)) (g.R.AsyncBufRead.taken (reader_of l.lines)) (kept_of l.initial.lines) (kept_of l.lines)
      (left_of l.initial.self) (left_of l.self) (g.W.AsyncWrite.sent l.initial.writer) (g.W.AsyncWrite.sent l.writer) (g.W.AsyncWrite.saw l.initial.writer) (g.W.AsyncWrite.saw l.writer);
  end : end_of l.lines ≡ end_of l.initial.lines;
  short : length (kept_of l.initial.lines) < l.limit → length (kept_of l.lines) < l.limit;
  after : LinesAreSpent g.R.AsyncBufRead.ended l.initial.lines → LinesAreSpent g.R.AsyncBufRead.ended l.lines × (g.R.AsyncBufRead.taken (reader_of l.lines) ≡ g.R.AsyncBufRead.taken (reader_of l.initial.lines));
  none_kept : 0 < l.counter → kept_of l.lines ≡ [];
  more : 1 < l.counter → length (g.R.AsyncBufRead.taken (reader_of l.initial.lines)) < length (g.R.AsyncBufRead.taken (reader_of l.lines));
  stays : WriterStays g.W.AsyncWrite.saw g.W.AsyncWrite.woken l.initial.writer l.writer;
  knows : ReaderStays g.R.AsyncBufRead.knows_end g.R.AsyncBufRead.woken (reader_of l.initial.lines) (reader_of l.lines);
  kept : Keeps l.initial.cx l.cx;
}
