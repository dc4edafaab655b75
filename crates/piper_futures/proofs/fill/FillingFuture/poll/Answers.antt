use Rattle.std.proofs.Common.{rules, ◌≡◌, ◌⊎◌, sym}
use Rattle.piper_futures.specs.Moving.{IsIo}
use Rattle.piper_futures.specs.Writing.{FailsOnce}
use Rattle.piper_futures.proofs.FillingOn.{filled_then}
use Rattle.piper_futures.proofs.Failing.{fails_once}
use Rattle.piper_futures.proofs.fill.FillingFuture.poll.Goals as goal

pub returns-in-Pending-clause-same : goal.returns-in-Pending-clause-same
returns-in-Pending-clause-same g c = λ output gave.
    let before = filled_then g.W.AsyncWrite.sent g.W.AsyncWrite.saw g.W.AsyncWrite.woken g.W.AsyncWrite.fails g.S.Read.remaining _ _ _ _ c.poll_fill_from.ensures.fills c.poll_fill_from.ensures.woken output gave in
    search rules

pub returns-in-Ready-Err-clause-value : goal.returns-in-Ready-Err-clause-value
returns-in-Ready-Err-clause-value g c =
    let same : c.unwrap-left.result.0 ≡ c.poll_fill_from.new.self = search rules in
    let own : FailsOnce g.W.AsyncWrite.fails c.unwrap-left.result.0 c.in-Ready-Err.error ⊎ IsIo c.in-Ready-Err.error =
    fails_once g.W.AsyncWrite.fails _ _ _ _ (sym same) (rw c.in-Ready-Err.field-0-is at c.in-Ready-Err.ensures.error) in
    search rules
