use Rattle.std.proofs.Common.{rules, Err}
use Rattle.piper_futures.specs.Writing.{FailsOnce, WroteAndClosed}
use Rattle.piper_futures.proofs.WritingOn.{wrote_and_closed_then}
use Rattle.piper_futures.proofs.write_and_close.WriteAllAndCloseFuture.poll.Goals as goal

pub returns-in_default-poll_write_and_close-clause-same : goal.returns-in_default-poll_write_and_close-clause-same
returns-in_default-poll_write_and_close-clause-same g c = λ output gave.
    let before = wrote_and_closed_then g.W.AsyncWrite.sent g.W.AsyncWrite.saw g.W.AsyncWrite.woken g.W.AsyncWrite.fails g.W.AsyncWrite.flushed _ _ _ _ _ c.poll_write_and_close.ensures.writes output gave in
    search rules

pub returns-in-Err-clause-value : goal.returns-in-Err-clause-value
returns-in-Err-clause-value g c =
    let own : FailsOnce g.W.AsyncWrite.fails c.poll_write_and_close.new.writer c.in-Err.error =
    (_, rw c.in-Err.is at c.in-Ready.ensures.error) in
    let wrote : WroteAndClosed g.W.AsyncWrite.sent g.W.AsyncWrite.saw g.W.AsyncWrite.woken g.W.AsyncWrite.fails g.W.AsyncWrite.flushed c.args.self.now.bytes.now c.in-Some.writer c.args.self.now.written (Err (record { left = c.poll_write_and_close.new.written; error = c.in-Err.error })) =
    (_, c.poll_write_and_close.ensures.writes, own) in
    search rules
