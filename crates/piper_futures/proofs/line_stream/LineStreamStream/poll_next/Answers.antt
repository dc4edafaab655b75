use Rattle.std.proofs.Common.{◌∷◌, [], inl, inr, Some, None, Ok, Err, refl}
use Rattle.piper.specs.declared.error.PipeError.{PipeError}
use Rattle.piper_lines.specs.LineReader.{reader_of, end_of, kept_of}
use Rattle.piper_lines.specs.declared.line_reader.LineAnswer.TheVariants.{Line, TooLong}
use Rattle.piper_lines.proofs.Collecting.{hands_piece}
use Rattle.piper_futures.specs.LineStream.{LineGoes, LineCloses}
use Rattle.piper_futures.specs.Told.{IsOfReader}
use Rattle.piper_futures.proofs.PiecesRun.{of_reader, comes, ends, waits, comes_then, comes_last}
use Rattle.piper_futures.proofs.line_stream.LineStreamStream.poll_next.Goals as goal

pub returns-in-Pending-clause-same : goal.returns-in-Pending-clause-same
returns-in-Pending-clause-same g c = λ xs last runs.
    waits (LineGoes g.R.AsyncBufRead.fails (end_of c.args.self.now.lines) c.args.self.now.limit) (LineCloses (end_of c.args.self.now.lines)) g.R.AsyncBufRead.taken g.R.AsyncBufRead.known g.R.AsyncBufRead.saw (λ line. line) c.args.self.now.is_ended (reader_of c.args.self.now.lines) (reader_of c.poll_line.new.self) (kept_of c.args.self.now.lines) (kept_of c.poll_line.new.self) xs last c.if-self.false
    (rw c.in-Pending.ensures.hands.0 at c.poll_line.ensures.moved) (rw c.poll_line.ensures.rest.0 at runs)

pub returns-in-Ready-Err-clause-value : goal.returns-in-Ready-Err-clause-value
returns-in-Ready-Err-clause-value g c =
    let own : IsOfReader g.R.AsyncBufRead.fails c.in-Ready-Err.error = of_reader g.R.AsyncBufRead.fails _ _ _ _ (rw c.in-Ready-Err.field-0-is at c.in-Ready-Err.ensures.error) in
    let hands = rw c.in-Ready-Err.field-0-is at c.in-Ready-Err.ensures.hands in
    let moved = rw hands.0 at c.poll_line.ensures.moved in
    comes (LineGoes g.R.AsyncBufRead.fails (end_of c.args.self.now.lines) c.args.self.now.limit) (LineCloses (end_of c.args.self.now.lines)) g.R.AsyncBufRead.taken g.R.AsyncBufRead.known g.R.AsyncBufRead.saw (λ line. line) c.args.self.now.is_ended (reader_of c.args.self.now.lines) (reader_of c.poll_line.new.self) (kept_of c.args.self.now.lines) (kept_of c.poll_line.new.self) (Err c.in-Ready-Err.error) c.if-self.false moved (inl own)

pub returns-in-Ready-Err-clause-rest : goal.returns-in-Ready-Err-clause-rest
returns-in-Ready-Err-clause-rest g c = λ xs last runs.
    let own : IsOfReader g.R.AsyncBufRead.fails c.in-Ready-Err.error = of_reader g.R.AsyncBufRead.fails _ _ _ _ (rw c.in-Ready-Err.field-0-is at c.in-Ready-Err.ensures.error) in
    let hands = rw c.in-Ready-Err.field-0-is at c.in-Ready-Err.ensures.hands in
    let moved = rw hands.0 at c.poll_line.ensures.moved in
    comes_then (LineGoes g.R.AsyncBufRead.fails (end_of c.args.self.now.lines) c.args.self.now.limit) (LineCloses (end_of c.args.self.now.lines)) g.R.AsyncBufRead.taken g.R.AsyncBufRead.known g.R.AsyncBufRead.saw (λ line. line) c.args.self.now.is_ended (reader_of c.args.self.now.lines) (reader_of c.poll_line.new.self) (kept_of c.args.self.now.lines) (kept_of c.poll_line.new.self) (Err c.in-Ready-Err.error) xs last c.if-self.false moved own (rw c.poll_line.ensures.rest.0 at runs)

pub returns-in-Ready-Ok-Last-clause-rest : goal.returns-in-Ready-Ok-Last-clause-rest
returns-in-Ready-Ok-Last-clause-rest g c = λ xs last over.
    let hands = rw (c.in-Ready-Ok-Last.field-0-is, c.in-Ready-Ok-Last.field-0-0-is) at c.in-Ready-Ok-Last.ensures.hands in
    comes_last (LineGoes g.R.AsyncBufRead.fails (end_of c.args.self.now.lines) c.args.self.now.limit) (LineCloses (end_of c.args.self.now.lines)) g.R.AsyncBufRead.taken g.R.AsyncBufRead.known g.R.AsyncBufRead.saw (λ line. line) c.args.self.now.is_ended (reader_of c.args.self.now.lines) (reader_of c.poll_line.new.self) (kept_of c.args.self.now.lines) (kept_of c.poll_line.new.self) (Ok c.poll_line.new.line) xs last c.if-self.false c.poll_line.ensures.moved hands over

pub returns-in-Ready-Ok-Line-clause-rest : goal.returns-in-Ready-Ok-Line-clause-rest
returns-in-Ready-Ok-Line-clause-rest g c = λ xs last runs.
    let hands = rw (c.in-Ready-Ok-Line.field-0-is, c.in-Ready-Ok-Line.field-0-0-is) at c.in-Ready-Ok-Line.ensures.hands in
    let piece = hands_piece PipeError Line (end_of c.args.self.now.lines) c.args.self.now.limit (kept_of c.args.self.now.lines) c.poll_line.new.line.items (kept_of c.poll_line.new.self) (g.R.AsyncBufRead.known (reader_of c.poll_line.new.self)) (g.R.AsyncBufRead.saw (reader_of c.poll_line.new.self)) refl hands in
    comes_then (LineGoes g.R.AsyncBufRead.fails (end_of c.args.self.now.lines) c.args.self.now.limit) (LineCloses (end_of c.args.self.now.lines)) g.R.AsyncBufRead.taken g.R.AsyncBufRead.known g.R.AsyncBufRead.saw (λ line. line) c.args.self.now.is_ended (reader_of c.args.self.now.lines) (reader_of c.poll_line.new.self) (kept_of c.args.self.now.lines) (kept_of c.poll_line.new.self) (Ok c.poll_line.new.line) xs last c.if-self.false c.poll_line.ensures.moved (piece.1 c.args.self.now.short) (rw c.poll_line.ensures.rest.0 at runs)

pub returns-in-Ready-Ok-TooLong-clause-rest : goal.returns-in-Ready-Ok-TooLong-clause-rest
returns-in-Ready-Ok-TooLong-clause-rest g c = λ xs last runs.
    let hands = rw (c.in-Ready-Ok-TooLong.field-0-is, c.in-Ready-Ok-TooLong.field-0-0-is) at c.in-Ready-Ok-TooLong.ensures.hands in
    let piece = hands_piece PipeError TooLong (end_of c.args.self.now.lines) c.args.self.now.limit (kept_of c.args.self.now.lines) c.poll_line.new.line.items (kept_of c.poll_line.new.self) (g.R.AsyncBufRead.known (reader_of c.poll_line.new.self)) (g.R.AsyncBufRead.saw (reader_of c.poll_line.new.self)) refl hands in
    comes_then (LineGoes g.R.AsyncBufRead.fails (end_of c.args.self.now.lines) c.args.self.now.limit) (LineCloses (end_of c.args.self.now.lines)) g.R.AsyncBufRead.taken g.R.AsyncBufRead.known g.R.AsyncBufRead.saw (λ line. line) c.args.self.now.is_ended (reader_of c.args.self.now.lines) (reader_of c.poll_line.new.self) (kept_of c.args.self.now.lines) (kept_of c.poll_line.new.self) (Ok c.poll_line.new.line) xs last c.if-self.false c.poll_line.ensures.moved (piece.1 c.args.self.now.short) (rw c.poll_line.ensures.rest.0 at runs)
