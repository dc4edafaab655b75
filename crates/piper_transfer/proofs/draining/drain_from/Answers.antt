-- A side that was given up has written nothing.
use Rattle.piper_transfer.proofs.Sides.{poured_none}
use Rattle.piper_transfer.proofs.draining.drain_from.Goals as goal

pub returns-then-not-wait-clause-poured : goal.returns-then-not-wait-clause-poured
returns-then-not-wait-clause-poured g c = poured_none _ _ _ _
