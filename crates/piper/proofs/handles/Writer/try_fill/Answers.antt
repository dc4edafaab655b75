-- What is published of a slice is its front.
use Rattle.std.proofs.Common.{rules, arith}
use Rattle.piper.proofs.Wrote.{filled_is, none_filled}
use Rattle.piper.proofs.handles.Writer.try_fill.Goals as goal

pub returns-in-Ready-Ok-clause-tried : goal.returns-in-Ready-Ok-clause-tried
returns-in-Ready-Ok-clause-tried c =
    let filled = (rw c.in-Ready-Ok.field-0-is at c.in-Ready-Ok.ensures.filled).0 in
    record {
      filled = filled_is _ filled.published filled.lost _ _ _ _ filled.copied.0 filled.copied.1 filled.sent filled.all filled.last filled.room filled.fresh filled.most;
      over = search rules;
      woken = search rules;
      copied = search rules;
      same = search rules;
    }

pub returns-in-Pending-clause-tried : goal.returns-in-Pending-clause-tried
returns-in-Pending-clause-tried c =
    let filled = c.in-Pending.ensures.filled.0 in
    let shut = c.in-Pending.ensures.at_once.undrawn.waits in
    record {
      filled = none_filled _ _ _ filled.published filled.lost filled.sent filled.copied.1 filled.room filled.fresh (omega (arith, shut));
      over = search rules;
      woken = search rules;
      copied = search rules;
      same = search rules;
    }
