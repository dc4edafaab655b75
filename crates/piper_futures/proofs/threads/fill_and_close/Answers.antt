-- What the fill gives, and then the drop of the writer.
use Rattle.std.proofs.Common.{⊎_elim, inl, inr}
use Rattle.piper.specs.Handles.{NotifiesReader}
use Rattle.piper_futures.proofs.InThreads.{fill_ended, fill_failed, failed_on}
use Rattle.piper_futures.proofs.threads.fill_and_close.Goals as goal

pub returns-in-Ok-Ok : goal.returns-in-Ok-Ok
returns-in-Ok-Ok g c =
    let left = c.closed_by_writer.ensures in
    fill_ended g.S.Read.remaining NotifiesReader _ _ c.args.writer c.in-Ok-Ok.writer c.args.source c.in-Ok-Ok.source c.in-Ok-Ok.copied _ c.closed_by_writer.result c.fill_from.ensures
    c.in-Ok-Ok.field-0-is c.in-Ok-Ok.ensures.gives left.source left.bytes left.shut left.seen

pub returns-in-Ok-Err : goal.returns-in-Ok-Err
returns-in-Ok-Err g c =
    let left = c.closed_by_writer-in-Ok-Err.ensures in
    let all =
    fill_failed g.S.Read.remaining NotifiesReader _ _ c.args.writer c.args.source c.in-Ok-Err.failed _ c.closed_by_writer-in-Ok-Err.result c.fill_from.ensures c.in-Ok-Err.field-0-is
    c.in-Ok-Err.ensures.gives left.source left.bytes left.shut left.seen in
    let own_error = failed_on c.fill_from.result _ _ c.in-Ok-Err.field-0-is c.in-Ok-Err.ensures.error in
    (all.0, ⊎_elim (λ own. inl (c.fill_from.result, c.fill_from.ensures, own_error, own)) inr all.1)
