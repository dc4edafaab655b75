-- What the output was given before a look, and what it is given after it.
use Rattle.piper_transfer.proofs.Sides.{poured_none, poured_looked, poured_round}
use Rattle.piper_transfer.proofs.draining.drain_turn.Goals as goal

pub loop-init : goal.loop-init
loop-init g c = (tt, tt, poured_none _ _ _ _)

pub returns-in-Pending-clause-poured : goal.returns-in-Pending-clause-poured
returns-in-Pending-clause-poured g c = poured_looked _ _ _ _ _ _ _ c.loop.invariant.2 c.poll.ensures.polled.looked

pub returns-in-Ok-false-clause-poured : goal.returns-in-Ok-false-clause-poured
returns-in-Ok-false-clause-poured g c = poured_looked _ _ _ _ _ _ _ c.loop.invariant.2 c.poll.ensures.polled.looked

pub returns-in-Err-clause-poured : goal.returns-in-Err-clause-poured
returns-in-Err-clause-poured g c = poured_looked _ _ _ _ _ _ _ c.loop.invariant.2 c.poll.ensures.polled.looked

pub returns-in-Err-write_some-clause-poured : goal.returns-in-Err-write_some-clause-poured
returns-in-Err-write_some-clause-poured g c = poured_round _ _ _ _ _ _ _ _ _ c.loop.invariant.2 c.poll.ensures.polled.looked c.write_some.ensures.poured

pub loop-preserved : goal.loop-preserved
loop-preserved g c = (tt, tt, poured_round _ _ _ _ _ _ _ _ _ c.loop.invariant.2 c.poll.ensures.polled.looked c.write_some.ensures.poured)
