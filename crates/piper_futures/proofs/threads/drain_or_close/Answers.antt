-- What the drain gives, and where it fails the drop of the reader.
use Rattle.std.proofs.Common.{⊎_elim, inl, inr}
use Rattle.piper.specs.Handles.{NotifiesWriter}
use Rattle.piper.specs.declared.handles.Reader.{Reader}
use Rattle.piper_futures.proofs.InThreads.{drain_ended, drain_failed, failed_on}
use Rattle.piper_futures.proofs.threads.drain_or_close.Goals as goal

pub returns-in-Ok-Ok : goal.returns-in-Ok-Ok
returns-in-Ok-Ok g c =
    let all = drain_ended g.D.Write.contents (λ (o : Reader). o.side.end.observed_shut) NotifiesWriter _ _ c.args.reader c.args.dest c.in-Ok-Ok.ends _ c.drain_into.ensures c.in-Ok-Ok.field-0-is
    c.in-Ok-Ok.ensures.gives in
    (all.0, all.1, all.2.1)

pub returns-in-Ok-Err : goal.returns-in-Ok-Err
returns-in-Ok-Err g c =
    let left = c.closed_by_reader.ensures in
    let all =
    drain_failed g.D.Write.contents (λ (o : Reader). o.side.end.observed_shut) NotifiesWriter _ _ c.args.reader c.args.dest c.in-Ok-Err.failed _ c.closed_by_reader.result c.drain_into.ensures c.in-Ok-Err.field-0-is
    c.in-Ok-Err.ensures.gives left.dest left.count in
    let own_error = failed_on c.drain_into.result _ _ c.in-Ok-Err.field-0-is c.in-Ok-Err.ensures.error in
    (all.0, ⊎_elim (λ own. inl (c.drain_into.result, c.drain_into.ensures, own_error, own)) inr all.1)
