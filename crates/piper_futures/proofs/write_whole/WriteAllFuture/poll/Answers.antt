use Rattle.std.proofs.Common.{rules, ◌≡◌, sym, subst}
use Rattle.piper_futures.specs.Writing.{FailsOnce, WritesOn}
use Rattle.piper_futures.proofs.WritingOn.{wrote_then}
use Rattle.piper_futures.proofs.write_whole.WriteAllFuture.poll.Goals as goal

pub returns-in-Pending-clause-same : goal.returns-in-Pending-clause-same
returns-in-Pending-clause-same g c = λ output gave.
    let on : WritesOn g.W.AsyncWrite.sent g.W.AsyncWrite.saw g.W.AsyncWrite.woken c.args.self.now.bytes.now c.in-Some.writer c.args.self.now.written c.poll_write_all.new.writer c.poll_write_all.new.written =
    (c.poll_write_all.ensures.within.0, c.poll_write_all.ensures.sends, c.poll_write_all.ensures.stays) in
    let before = wrote_then g.W.AsyncWrite.sent g.W.AsyncWrite.saw g.W.AsyncWrite.woken g.W.AsyncWrite.fails _ _ _ _ _ on output gave in
    search rules

pub returns-in-Ready-Err-clause-value : goal.returns-in-Ready-Err-clause-value
returns-in-Ready-Err-clause-value g c =
    let same : c.unwrap-writer-in-Ready-Err.result ≡ c.poll_write_all.new.writer = search rules in
    let own : FailsOnce g.W.AsyncWrite.fails c.unwrap-writer-in-Ready-Err.result c.in-Ready-Err.error =
    subst (λ w. FailsOnce g.W.AsyncWrite.fails w c.in-Ready-Err.error) (sym same) (_, rw c.in-Ready-Err.field-0-is at c.in-Ready-Err.ensures.error) in
    search rules
