-- What earlier writes took, and what the last one takes.
use Rattle.std.proofs.Common.{◌∙◌}
use Rattle.piper_transfer.proofs.Sides.{poured_more}
use Rattle.piper_transfer.proofs.one_thread.drain_known.Goals as goal

pub returns-in_err-write_some-clause-poured : goal.returns-in_err-write_some-clause-poured
returns-in_err-write_some-clause-poured g c = poured_more _ _ _ _ _ _ _ _ c.loop.invariant.2 c.write_some.ensures.poured

pub loop-preserved : goal.loop-preserved
loop-preserved g c =
    (tt, tt, poured_more _ _ _ _ _ _ _ _ c.loop.invariant.2 c.write_some.ensures.poured, c.write_some.ensures.known ∙ c.loop.invariant.3)
