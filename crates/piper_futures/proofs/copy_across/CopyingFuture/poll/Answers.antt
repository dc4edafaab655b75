use Rattle.std.proofs.Common.{rules, ◌≡◌, ◌⊎◌, sym}
use Rattle.piper_futures.specs.Writing.{FailsOnce}
use Rattle.piper_futures.specs.Carrying.{CopiesOn}
use Rattle.piper_futures.proofs.CarryingOn.{copied_then, fails_either}
use Rattle.piper_futures.proofs.copy_across.CopyingFuture.poll.Goals as goal

pub returns-in-Pending-clause-same : goal.returns-in-Pending-clause-same
returns-in-Pending-clause-same g c = λ output gave.
    let on : CopiesOn g.R.AsyncBufRead.taken g.R.AsyncBufRead.known g.R.AsyncBufRead.saw g.R.AsyncBufRead.knows_end g.R.AsyncBufRead.woken g.R.AsyncBufRead.fails g.W.AsyncWrite.sent g.W.AsyncWrite.saw g.W.AsyncWrite.woken g.W.AsyncWrite.fails c.in-Some.reader c.in-Some.writer c.poll_copy.new.reader c.poll_copy.new.writer =
    ((c.poll_copy.ensures.carried, c.poll_copy.ensures.over, c.poll_copy.ensures.stays.0), (c.poll_copy.ensures.stays.1, c.poll_copy.ensures.stays.2), c.poll_copy.ensures.stays.3) in
    let before = copied_then g.R.AsyncBufRead.taken g.R.AsyncBufRead.known g.R.AsyncBufRead.saw g.R.AsyncBufRead.knows_end g.R.AsyncBufRead.woken g.R.AsyncBufRead.fails g.W.AsyncWrite.sent g.W.AsyncWrite.saw g.W.AsyncWrite.woken g.W.AsyncWrite.fails _ _ _ _ on output gave in
    search rules

pub returns-in-Ready-Err-clause-value : goal.returns-in-Ready-Err-clause-value
returns-in-Ready-Err-clause-value g c =
    let read : c.unwrap-left.result.0 ≡ c.poll_copy.new.reader = search rules in
    let written : c.unwrap-left.result.1 ≡ c.poll_copy.new.writer = search rules in
    let own : FailsOnce g.R.AsyncBufRead.fails c.unwrap-left.result.0 c.in-Ready-Err.error ⊎ FailsOnce g.W.AsyncWrite.fails c.unwrap-left.result.1 c.in-Ready-Err.error =
    fails_either g.R.AsyncBufRead.fails g.W.AsyncWrite.fails _ _ _ _ _ _ (sym read) (sym written) (rw c.in-Ready-Err.field-0-is at c.in-Ready-Err.ensures.error) in
    search rules
