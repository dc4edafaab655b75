-- What earlier turns read, and what the last one reads.
use Rattle.piper_transfer.proofs.Sides.{fed_none, fed_more}
use Rattle.piper_transfer.proofs.filling.fill_in_turns.Goals as goal

pub loop-init : goal.loop-init
loop-init g c = (tt, tt, fed_none _ _, c.requires.is_open)

pub returns-in-Ready-clause-fed : goal.returns-in-Ready-clause-fed
returns-in-Ready-clause-fed g c = fed_more _ _ _ _ _ _ c.loop.invariant.2 c.fill_turn-turn.ensures.fed
