-- All that was published before was taken, so what came is what the fill published.
use Rattle.std.proofs.Common.{arith}
use Rattle.std.proofs.lemmas.Grind.{common_steps}
use Rattle.piper.proofs.Clients.{filled_and_drained}
use Rattle.example_order.proofs.rounds.carry_some.Goals as goal

pub returns-clause-came : goal.returns-clause-came
returns-clause-came c =
    filled_and_drained _ _ _ _ _ _ _ _ _ _ _ c.try_fill.ensures.tried.filled c.meet-2.ensures.met c.try_drain.ensures.tried.drained
    (grind (arith, common_steps)) (grind (arith, common_steps)) (grind (arith, common_steps)) c.requires.room c.try_drain.auto.dest
