-- What earlier turns wrote, and what the last one writes.
use Rattle.piper_transfer.proofs.Sides.{poured_none, poured_more}
use Rattle.piper_transfer.proofs.draining.drain_output.Goals as goal

pub loop-init : goal.loop-init
loop-init g c = (tt, tt, poured_none _ _ _ _)

pub returns-in-Ready-clause-poured : goal.returns-in-Ready-clause-poured
returns-in-Ready-clause-poured g c = poured_more _ _ _ _ _ _ _ _ c.loop.invariant.2 c.drain_turn-turn.ensures.poured

pub loop-preserved : goal.loop-preserved
loop-preserved g c = (tt, tt, poured_more _ _ _ _ _ _ _ _ c.loop.invariant.2 c.drain_turn-turn.ensures.poured)
