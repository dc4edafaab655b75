-- What fills a new pipe comes out whole.
use Rattle.piper.proofs.Clients.{carried}
use Rattle.example_order.proofs.carry.Goals as goal

pub returns : goal.returns
returns c =
    carried _ _ _ _ _ _ _ _ _ _ _ c.in_ok-reader.ensures.fresh.1 c.try_fill.ensures.tried c.meet.ensures.met c.try_drain.ensures.tried
    c.requires.some.0 c.requires.room c.try_drain.auto.dest
