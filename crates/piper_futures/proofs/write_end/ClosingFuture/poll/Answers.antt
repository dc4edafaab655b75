use Rattle.std.proofs.Common.{rules, ◌≡◌, sym, subst}
use Rattle.piper_futures.specs.Writing.{FailsOnce}
use Rattle.piper_futures.proofs.write_end.ClosingFuture.poll.Goals as goal

pub returns-in-Ready-Err-clause-value : goal.returns-in-Ready-Err-clause-value
returns-in-Ready-Err-clause-value g c =
    let same : c.unwrap-left.result ≡ c.poll_close.new.self = search rules in
    let own : FailsOnce g.W.AsyncWrite.fails c.unwrap-left.result c.in-Ready-Err.error =
    subst (λ w. FailsOnce g.W.AsyncWrite.fails w c.in-Ready-Err.error) (sym same) (_, rw c.in-Ready-Err.field-0-is at c.in-Ready-Err.ensures.error) in
    search rules
