use Rattle.std.proofs.Common.{rules, ◌≡◌, ◌<◌, ◌⊎◌, length, sym}
use Rattle.piper_futures.specs.Moving.{IsOfWrite}
use Rattle.piper_futures.specs.Writing.{FailsOnce}
use Rattle.piper_futures.proofs.DrainingOn.{drained_then}
use Rattle.piper_futures.proofs.Failing.{fails_while}
use Rattle.piper_futures.proofs.drain.DrainingFuture.poll.Goals as goal

pub returns-in-Pending-clause-same : goal.returns-in-Pending-clause-same
returns-in-Pending-clause-same g c = λ output gave.
    let before = drained_then g.R.AsyncBufRead.taken g.R.AsyncBufRead.known g.R.AsyncBufRead.saw g.R.AsyncBufRead.knows_end g.R.AsyncBufRead.woken g.R.AsyncBufRead.fails g.D.Write.contents _ _ _ _ c.poll_drain_into.ensures.drains c.poll_drain_into.ensures.stays output gave in
    search rules

pub returns-in-Ready-Err-clause-value : goal.returns-in-Ready-Err-clause-value
returns-in-Ready-Err-clause-value g c =
    let same : c.unwrap-left.result.0 ≡ c.poll_drain_into.new.reader = search rules in
    let own : FailsOnce g.R.AsyncBufRead.fails c.unwrap-left.result.0 c.in-Ready-Err.error ⊎ (IsOfWrite c.in-Ready-Err.error × (0 < length (g.R.AsyncBufRead.known c.unwrap-left.result.0))) =
    fails_while g.R.AsyncBufRead.fails g.R.AsyncBufRead.known _ _ _ _ (sym same) (rw c.in-Ready-Err.field-0-is at c.in-Ready-Err.ensures.error) in
    search rules
