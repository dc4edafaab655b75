use Rattle.std.proofs.Common.{rules}
use Rattle.piper_pump.proofs.Taking.{takes_none, takes_step, takes_all}
use Rattle.piper_pump.proofs.tees.write_all.Goals as goal

pub loop-init : goal.loop-init
loop-init g c = (tt, tt, takes_none _ _ _)

pub loop-preserved : goal.loop-preserved
loop-preserved g c =
    (tt, tt, takes_step _ _ _ _ _ _ _ c.in_ok-count.count c.loop.invariant.2 c.in_ok-count.ensures.taken c.split_at.ensures.back)

pub returns-then-is_empty : goal.returns-then-is_empty
returns-then-is_empty g c = takes_all _ _ _ _ _ c.loop.invariant.2 (search rules)
