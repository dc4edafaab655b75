use Rattle.std.proofs.Common.{rules, ◌≡◌, ◌<◌, ◌∷◌, [], inl, inr, length, Some, None, Ok, Err, refl}
use Rattle.std.specs.IoError.{error_kind}
use Rattle.std.specs.declared.io.ErrorKind.TheVariants.{InvalidData, UnexpectedEof}
use Rattle.piper.specs.declared.error.PipeError.TheVariants.{Io}
use Rattle.piper_lines.specs.Frame.{frame_bytes}
use Rattle.piper_lines.specs.FrameReader.{reader_of, format_of, kept_of, header_of, body_of, skips_of}
use Rattle.piper_futures.specs.FrameStream.{FrameGoes, FrameCloses}
use Rattle.piper_futures.specs.Told.{IsOfKept, IsOfReader}
use Rattle.piper_futures.proofs.PiecesRun.{of_reader, inside_header, none_kept, only_moves, comes, ends, waits, comes_then, comes_last}
use Rattle.piper_futures.proofs.frame_stream.FrameStreamStream.poll_next.Goals as goal

pub returns-in-Pending-clause-same : goal.returns-in-Pending-clause-same
returns-in-Pending-clause-same g c = λ xs last runs.
    let passes = rw c.in-Pending.is at c.poll_frame.ensures.moved in
    let moved = only_moves (g.R.AsyncBufRead.taken (reader_of c.args.self.now.frames)) (g.R.AsyncBufRead.taken (reader_of c.poll_frame.new.self)) (kept_of c.args.self.now.frames) [] (kept_of c.poll_frame.new.self) (skips_of c.args.self.now.frames) (skips_of c.poll_frame.new.self) c.args.self.now.whole passes in
    waits (FrameGoes g.R.AsyncBufRead.fails c.args.self.now.limit) (FrameCloses (format_of c.args.self.now.frames) c.args.self.now.limit) g.R.AsyncBufRead.taken g.R.AsyncBufRead.known g.R.AsyncBufRead.saw (frame_bytes (format_of c.args.self.now.frames)) c.args.self.now.is_ended (reader_of c.args.self.now.frames) (reader_of c.poll_frame.new.self) (kept_of c.args.self.now.frames) (kept_of c.poll_frame.new.self) xs last c.if-self.false moved (rw c.poll_frame.ensures.rest.0 at runs)

pub returns-in-Ready-Err-clause-value : goal.returns-in-Ready-Err-clause-value
returns-in-Ready-Err-clause-value g c =
    let own : IsOfReader g.R.AsyncBufRead.fails c.in-Ready-Err.error = of_reader g.R.AsyncBufRead.fails _ _ _ _ (rw c.in-Ready-Err.field-0-is at c.in-Ready-Err.ensures.error) in
    let passes = rw (c.in-Ready-Err.is, c.in-Ready-Err.field-0-is) at c.poll_frame.ensures.moved in
    let moved = only_moves (g.R.AsyncBufRead.taken (reader_of c.args.self.now.frames)) (g.R.AsyncBufRead.taken (reader_of c.poll_frame.new.self)) (kept_of c.args.self.now.frames) [] (kept_of c.poll_frame.new.self) (skips_of c.args.self.now.frames) (skips_of c.poll_frame.new.self) c.args.self.now.whole passes in
    comes (FrameGoes g.R.AsyncBufRead.fails c.args.self.now.limit) (FrameCloses (format_of c.args.self.now.frames) c.args.self.now.limit) g.R.AsyncBufRead.taken g.R.AsyncBufRead.known g.R.AsyncBufRead.saw (frame_bytes (format_of c.args.self.now.frames)) c.args.self.now.is_ended (reader_of c.args.self.now.frames) (reader_of c.poll_frame.new.self) (kept_of c.args.self.now.frames) (kept_of c.poll_frame.new.self) (Err c.in-Ready-Err.error) c.if-self.false moved (inl own)

pub returns-in-Ready-Err-clause-rest : goal.returns-in-Ready-Err-clause-rest
returns-in-Ready-Err-clause-rest g c = λ xs last runs.
    let own : IsOfReader g.R.AsyncBufRead.fails c.in-Ready-Err.error = of_reader g.R.AsyncBufRead.fails _ _ _ _ (rw c.in-Ready-Err.field-0-is at c.in-Ready-Err.ensures.error) in
    let passes = rw (c.in-Ready-Err.is, c.in-Ready-Err.field-0-is) at c.poll_frame.ensures.moved in
    let moved = only_moves (g.R.AsyncBufRead.taken (reader_of c.args.self.now.frames)) (g.R.AsyncBufRead.taken (reader_of c.poll_frame.new.self)) (kept_of c.args.self.now.frames) [] (kept_of c.poll_frame.new.self) (skips_of c.args.self.now.frames) (skips_of c.poll_frame.new.self) c.args.self.now.whole passes in
    comes_then (FrameGoes g.R.AsyncBufRead.fails c.args.self.now.limit) (FrameCloses (format_of c.args.self.now.frames) c.args.self.now.limit) g.R.AsyncBufRead.taken g.R.AsyncBufRead.known g.R.AsyncBufRead.saw (frame_bytes (format_of c.args.self.now.frames)) c.args.self.now.is_ended (reader_of c.args.self.now.frames) (reader_of c.poll_frame.new.self) (kept_of c.args.self.now.frames) (kept_of c.poll_frame.new.self) (Err c.in-Ready-Err.error) xs last c.if-self.false moved own (rw c.poll_frame.ensures.rest.0 at runs)

pub returns-in-Ready-Ok-Frame-clause-value : goal.returns-in-Ready-Ok-Frame-clause-value
returns-in-Ready-Ok-Frame-clause-value g c =
    let hands = rw (c.in-Ready-Ok-Frame.field-0-is, c.in-Ready-Ok-Frame.field-0-0-is) at c.in-Ready-Ok-Frame.ensures.hands in
    let passes = rw (c.in-Ready-Ok-Frame.is, c.in-Ready-Ok-Frame.field-0-is, c.in-Ready-Ok-Frame.field-0-0-is) at c.poll_frame.ensures.moved in
    let moved = only_moves (g.R.AsyncBufRead.taken (reader_of c.args.self.now.frames)) (g.R.AsyncBufRead.taken (reader_of c.poll_frame.new.self)) (kept_of c.args.self.now.frames) (frame_bytes (format_of c.args.self.now.frames) c.poll_frame.new.frame.items) (kept_of c.poll_frame.new.self) (skips_of c.args.self.now.frames) (skips_of c.poll_frame.new.self) c.args.self.now.whole passes in
    comes (FrameGoes g.R.AsyncBufRead.fails c.args.self.now.limit) (FrameCloses (format_of c.args.self.now.frames) c.args.self.now.limit) g.R.AsyncBufRead.taken g.R.AsyncBufRead.known g.R.AsyncBufRead.saw (frame_bytes (format_of c.args.self.now.frames)) c.args.self.now.is_ended (reader_of c.args.self.now.frames) (reader_of c.poll_frame.new.self) (kept_of c.args.self.now.frames) (kept_of c.poll_frame.new.self) (Ok c.poll_frame.new.frame) c.if-self.false moved (inl hands.0)

pub returns-in-Ready-Ok-Frame-clause-rest : goal.returns-in-Ready-Ok-Frame-clause-rest
returns-in-Ready-Ok-Frame-clause-rest g c = λ xs last runs.
    let hands = rw (c.in-Ready-Ok-Frame.field-0-is, c.in-Ready-Ok-Frame.field-0-0-is) at c.in-Ready-Ok-Frame.ensures.hands in
    let passes = rw (c.in-Ready-Ok-Frame.is, c.in-Ready-Ok-Frame.field-0-is, c.in-Ready-Ok-Frame.field-0-0-is) at c.poll_frame.ensures.moved in
    let moved = only_moves (g.R.AsyncBufRead.taken (reader_of c.args.self.now.frames)) (g.R.AsyncBufRead.taken (reader_of c.poll_frame.new.self)) (kept_of c.args.self.now.frames) (frame_bytes (format_of c.args.self.now.frames) c.poll_frame.new.frame.items) (kept_of c.poll_frame.new.self) (skips_of c.args.self.now.frames) (skips_of c.poll_frame.new.self) c.args.self.now.whole passes in
    comes_then (FrameGoes g.R.AsyncBufRead.fails c.args.self.now.limit) (FrameCloses (format_of c.args.self.now.frames) c.args.self.now.limit) g.R.AsyncBufRead.taken g.R.AsyncBufRead.known g.R.AsyncBufRead.saw (frame_bytes (format_of c.args.self.now.frames)) c.args.self.now.is_ended (reader_of c.args.self.now.frames) (reader_of c.poll_frame.new.self) (kept_of c.args.self.now.frames) (kept_of c.poll_frame.new.self) (Ok c.poll_frame.new.frame) xs last c.if-self.false moved hands.0 (rw c.poll_frame.ensures.rest.0 at runs)

pub returns-in-Ready-Ok-End-clause-value : goal.returns-in-Ready-Ok-End-clause-value
returns-in-Ready-Ok-End-clause-value g c =
    let hands = rw (c.in-Ready-Ok-End.field-0-is, c.in-Ready-Ok-End.field-0-0-is) at c.in-Ready-Ok-End.ensures.hands in
    let passes = rw (c.in-Ready-Ok-End.is, c.in-Ready-Ok-End.field-0-is, c.in-Ready-Ok-End.field-0-0-is) at c.poll_frame.ensures.moved in
    let moved = only_moves (g.R.AsyncBufRead.taken (reader_of c.args.self.now.frames)) (g.R.AsyncBufRead.taken (reader_of c.poll_frame.new.self)) (kept_of c.args.self.now.frames) [] (kept_of c.poll_frame.new.self) (skips_of c.args.self.now.frames) (skips_of c.poll_frame.new.self) c.args.self.now.whole passes in
    ends (FrameGoes g.R.AsyncBufRead.fails c.args.self.now.limit) (FrameCloses (format_of c.args.self.now.frames) c.args.self.now.limit) g.R.AsyncBufRead.taken g.R.AsyncBufRead.known g.R.AsyncBufRead.saw (frame_bytes (format_of c.args.self.now.frames)) c.args.self.now.is_ended (reader_of c.args.self.now.frames) (reader_of c.poll_frame.new.self) (kept_of c.args.self.now.frames) (kept_of c.poll_frame.new.self) c.if-self.false moved (none_kept _ _ hands.1.0 hands.1.1) hands.2

pub returns-in-Ready-Ok-TooLong-clause-value : goal.returns-in-Ready-Ok-TooLong-clause-value
returns-in-Ready-Ok-TooLong-clause-value g c =
    let hands = rw (c.in-Ready-Ok-TooLong.field-0-is, c.in-Ready-Ok-TooLong.field-0-0-is) at c.in-Ready-Ok-TooLong.ensures.hands in
    let kind : error_kind c.into.result ≡ InvalidData = search rules in
    let passes = rw (c.in-Ready-Ok-TooLong.is, c.in-Ready-Ok-TooLong.field-0-is, c.in-Ready-Ok-TooLong.field-0-0-is) at c.poll_frame.ensures.moved in
    let moved = only_moves (g.R.AsyncBufRead.taken (reader_of c.args.self.now.frames)) (g.R.AsyncBufRead.taken (reader_of c.poll_frame.new.self)) (kept_of c.args.self.now.frames) [] (kept_of c.poll_frame.new.self) (skips_of c.args.self.now.frames) (skips_of c.poll_frame.new.self) c.args.self.now.whole passes in
    let why : IsOfKept (format_of c.args.self.now.frames) c.args.self.now.limit (kept_of c.poll_frame.new.self) (g.R.AsyncBufRead.known (reader_of c.poll_frame.new.self)) (g.R.AsyncBufRead.saw (reader_of c.poll_frame.new.self)) (Io c.into.result) = (header_of c.poll_frame.new.self, body_of c.poll_frame.new.self, refl, inl (kind, (_, hands.1, hands.2))) in
    comes (FrameGoes g.R.AsyncBufRead.fails c.args.self.now.limit) (FrameCloses (format_of c.args.self.now.frames) c.args.self.now.limit) g.R.AsyncBufRead.taken g.R.AsyncBufRead.known g.R.AsyncBufRead.saw (frame_bytes (format_of c.args.self.now.frames)) c.args.self.now.is_ended (reader_of c.args.self.now.frames) (reader_of c.poll_frame.new.self) (kept_of c.args.self.now.frames) (kept_of c.poll_frame.new.self) (Err (Io c.into.result)) c.if-self.false moved (inr why)

pub returns-in-Ready-Ok-TooLong-clause-rest : goal.returns-in-Ready-Ok-TooLong-clause-rest
returns-in-Ready-Ok-TooLong-clause-rest g c = λ xs last over.
    let hands = rw (c.in-Ready-Ok-TooLong.field-0-is, c.in-Ready-Ok-TooLong.field-0-0-is) at c.in-Ready-Ok-TooLong.ensures.hands in
    let kind : error_kind c.into.result ≡ InvalidData = search rules in
    let passes = rw (c.in-Ready-Ok-TooLong.is, c.in-Ready-Ok-TooLong.field-0-is, c.in-Ready-Ok-TooLong.field-0-0-is) at c.poll_frame.ensures.moved in
    let moved = only_moves (g.R.AsyncBufRead.taken (reader_of c.args.self.now.frames)) (g.R.AsyncBufRead.taken (reader_of c.poll_frame.new.self)) (kept_of c.args.self.now.frames) [] (kept_of c.poll_frame.new.self) (skips_of c.args.self.now.frames) (skips_of c.poll_frame.new.self) c.args.self.now.whole passes in
    let why : IsOfKept (format_of c.args.self.now.frames) c.args.self.now.limit (kept_of c.poll_frame.new.self) (g.R.AsyncBufRead.known (reader_of c.poll_frame.new.self)) (g.R.AsyncBufRead.saw (reader_of c.poll_frame.new.self)) (Io c.into.result) = (header_of c.poll_frame.new.self, body_of c.poll_frame.new.self, refl, inl (kind, (_, hands.1, hands.2))) in
    comes_last (FrameGoes g.R.AsyncBufRead.fails c.args.self.now.limit) (FrameCloses (format_of c.args.self.now.frames) c.args.self.now.limit) g.R.AsyncBufRead.taken g.R.AsyncBufRead.known g.R.AsyncBufRead.saw (frame_bytes (format_of c.args.self.now.frames)) c.args.self.now.is_ended (reader_of c.args.self.now.frames) (reader_of c.poll_frame.new.self) (kept_of c.args.self.now.frames) (kept_of c.poll_frame.new.self) (Err (Io c.into.result)) xs last c.if-self.false moved why over

pub returns-in-Ready-Ok-Truncated-clause-value : goal.returns-in-Ready-Ok-Truncated-clause-value
returns-in-Ready-Ok-Truncated-clause-value g c =
    let hands = rw (c.in-Ready-Ok-Truncated.field-0-is, c.in-Ready-Ok-Truncated.field-0-0-is) at c.in-Ready-Ok-Truncated.ensures.hands in
    let kind : error_kind c.into-in-Ready-Ok-Truncated.result ≡ UnexpectedEof = search rules in
    let passes = rw (c.in-Ready-Ok-Truncated.is, c.in-Ready-Ok-Truncated.field-0-is, c.in-Ready-Ok-Truncated.field-0-0-is) at c.poll_frame.ensures.moved in
    let moved = only_moves (g.R.AsyncBufRead.taken (reader_of c.args.self.now.frames)) (g.R.AsyncBufRead.taken (reader_of c.poll_frame.new.self)) (kept_of c.args.self.now.frames) [] (kept_of c.poll_frame.new.self) (skips_of c.args.self.now.frames) (skips_of c.poll_frame.new.self) c.args.self.now.whole passes in
    let some : 0 < length (header_of c.poll_frame.new.self) = inside_header (g.R.AsyncBufRead.taken (reader_of c.args.self.now.frames)) (g.R.AsyncBufRead.taken (reader_of c.poll_frame.new.self)) (kept_of c.args.self.now.frames) [] (kept_of c.poll_frame.new.self) (header_of c.poll_frame.new.self) (skips_of c.args.self.now.frames) (skips_of c.poll_frame.new.self) c.args.self.now.whole passes hands.1 in
    let why : IsOfKept (format_of c.args.self.now.frames) c.args.self.now.limit (kept_of c.poll_frame.new.self) (g.R.AsyncBufRead.known (reader_of c.poll_frame.new.self)) (g.R.AsyncBufRead.saw (reader_of c.poll_frame.new.self)) (Io c.into-in-Ready-Ok-Truncated.result) = (header_of c.poll_frame.new.self, body_of c.poll_frame.new.self, refl, inr (kind, some, hands.2)) in
    comes (FrameGoes g.R.AsyncBufRead.fails c.args.self.now.limit) (FrameCloses (format_of c.args.self.now.frames) c.args.self.now.limit) g.R.AsyncBufRead.taken g.R.AsyncBufRead.known g.R.AsyncBufRead.saw (frame_bytes (format_of c.args.self.now.frames)) c.args.self.now.is_ended (reader_of c.args.self.now.frames) (reader_of c.poll_frame.new.self) (kept_of c.args.self.now.frames) (kept_of c.poll_frame.new.self) (Err (Io c.into-in-Ready-Ok-Truncated.result)) c.if-self.false moved (inr why)

pub returns-in-Ready-Ok-Truncated-clause-rest : goal.returns-in-Ready-Ok-Truncated-clause-rest
returns-in-Ready-Ok-Truncated-clause-rest g c = λ xs last over.
    let hands = rw (c.in-Ready-Ok-Truncated.field-0-is, c.in-Ready-Ok-Truncated.field-0-0-is) at c.in-Ready-Ok-Truncated.ensures.hands in
    let kind : error_kind c.into-in-Ready-Ok-Truncated.result ≡ UnexpectedEof = search rules in
    let passes = rw (c.in-Ready-Ok-Truncated.is, c.in-Ready-Ok-Truncated.field-0-is, c.in-Ready-Ok-Truncated.field-0-0-is) at c.poll_frame.ensures.moved in
    let moved = only_moves (g.R.AsyncBufRead.taken (reader_of c.args.self.now.frames)) (g.R.AsyncBufRead.taken (reader_of c.poll_frame.new.self)) (kept_of c.args.self.now.frames) [] (kept_of c.poll_frame.new.self) (skips_of c.args.self.now.frames) (skips_of c.poll_frame.new.self) c.args.self.now.whole passes in
    let some : 0 < length (header_of c.poll_frame.new.self) = inside_header (g.R.AsyncBufRead.taken (reader_of c.args.self.now.frames)) (g.R.AsyncBufRead.taken (reader_of c.poll_frame.new.self)) (kept_of c.args.self.now.frames) [] (kept_of c.poll_frame.new.self) (header_of c.poll_frame.new.self) (skips_of c.args.self.now.frames) (skips_of c.poll_frame.new.self) c.args.self.now.whole passes hands.1 in
    let why : IsOfKept (format_of c.args.self.now.frames) c.args.self.now.limit (kept_of c.poll_frame.new.self) (g.R.AsyncBufRead.known (reader_of c.poll_frame.new.self)) (g.R.AsyncBufRead.saw (reader_of c.poll_frame.new.self)) (Io c.into-in-Ready-Ok-Truncated.result) = (header_of c.poll_frame.new.self, body_of c.poll_frame.new.self, refl, inr (kind, some, hands.2)) in
    comes_last (FrameGoes g.R.AsyncBufRead.fails c.args.self.now.limit) (FrameCloses (format_of c.args.self.now.frames) c.args.self.now.limit) g.R.AsyncBufRead.taken g.R.AsyncBufRead.known g.R.AsyncBufRead.saw (frame_bytes (format_of c.args.self.now.frames)) c.args.self.now.is_ended (reader_of c.args.self.now.frames) (reader_of c.poll_frame.new.self) (kept_of c.args.self.now.frames) (kept_of c.poll_frame.new.self) (Err (Io c.into-in-Ready-Ok-Truncated.result)) xs last c.if-self.false moved why over
