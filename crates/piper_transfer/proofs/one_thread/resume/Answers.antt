-- What both handles say once they have met, and what is done after that.
use Rattle.piper_transfer.proofs.Sides.{fed_met, poured_met}
use Rattle.piper_transfer.proofs.one_thread.resume.Goals as goal

pub returns-clause-fed : goal.returns-clause-fed
returns-clause-fed g c = fed_met _ _ _ _ _ c.meet.ensures.met.writer c.take_turns.ensures.fed

pub returns-clause-poured : goal.returns-clause-poured
returns-clause-poured g c = poured_met _ _ _ _ _ _ _ c.meet.ensures.met.reader c.take_turns.ensures.poured
