-- As many bytes were printed as were read.
use Rattle.piper_duplex.proofs.Talking.{came_back, on_ok}
use Rattle.piper_duplex.proofs.engine.session.exchange.Goals as goal

pub returns-clause-all : goal.returns-clause-all
returns-clause-all g c =
    on_ok _ _ _ c.print_line.ensures.whole (λ whole.
    came_back _ _ _ _ _ _ _ _ _ _ _ _ _ c.in_ok-sent.ensures.sent c.in_ok-sent.ensures.ended c.talk-sent.ensures.printed c.print_line.ensures.printed whole)
