-- A close that was found is told, and the load of closed leaves the room as it is.
use Rattle.std.proofs.Common.{rules}
use Rattle.piper_ring.proofs.ends.slots.looks.Side+WriteEnd+T.look_again.Goals as goal

pub returns-else-load_closed-clause-after : goal.returns-else-load_closed-clause-after
returns-else-load_closed-clause-after g c = (search rules, search rules)
