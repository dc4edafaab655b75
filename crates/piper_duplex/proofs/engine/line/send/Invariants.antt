-- What was counted so far was sent.
use Rattle.std.proofs.Common.{◌≡◌, ◌≤◌, true, drop, length}
use Rattle.piper_lines.specs.Sends.{Sends}
use Rattle.piper_duplex.proofs.engine.line.send.Given as goal

abbrev pub invariant-loop : goal.invariant-loop
invariant-loop g l =
    (goal.iterator-loop g).can_next l.iterator' × (goal.iterator-loop g).is_finite l.iterator'
    × (l.count ≤ length l.bytes)
    × Sends (drop l.initial.count l.bytes) (drop l.count l.bytes) (g.W.AsyncWrite.sent l.initial.writer) (g.W.AsyncWrite.sent l.writer) (g.W.AsyncWrite.saw l.initial.writer) (g.W.AsyncWrite.saw l.writer)
    × (g.W.AsyncWrite.saw l.initial.writer ≡ true → g.W.AsyncWrite.saw l.writer ≡ true)
