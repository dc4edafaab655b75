-- What was read so far was sent, and all but the bytes that wait came back and were printed.
use Rattle.std.proofs.Common.{◌≡◌, true, false, Ok}
use Rattle.piper_duplex.specs.Client.{Prints, SendsOn}
use Rattle.piper_duplex.specs.declared.engine.session.Ended.{Ended}
use Rattle.piper_duplex.proofs.engine.client.talk.Given as goal

abbrev pub invariant-loop : goal.invariant-loop
invariant-loop g l =
    (goal.iterator-loop g).can_next l.iterator' × (goal.iterator-loop g).is_finite l.iterator'
    × ((l.line.is_whole ≡ false) × g.O.StdWriter.flushed l.output)
    × SendsOn {E = Ended} (Ok l.line.sent) (g.I.Read.remaining l.initial.input) (g.I.Read.remaining l.input) (g.B.AsyncWrite.sent l.initial.writer) (g.B.AsyncWrite.sent l.writer) (g.B.AsyncWrite.saw l.initial.writer) (g.B.AsyncWrite.saw l.writer) (g.A.AsyncBufRead.taken l.initial.reader) (g.A.AsyncBufRead.taken l.reader)
    × (g.B.AsyncWrite.saw l.initial.writer ≡ true → g.B.AsyncWrite.saw l.writer ≡ true)
    × Prints (g.A.AsyncBufRead.taken l.initial.reader) (g.A.AsyncBufRead.taken l.reader) (g.O.Write.contents l.initial.output) (g.O.Write.contents l.output)
