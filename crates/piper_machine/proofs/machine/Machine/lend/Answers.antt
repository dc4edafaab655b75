use Rattle.piper_machine.proofs.Moves.{lend_length-Lendable}
use Rattle.piper_machine.proofs.machine.Machine.lend.Goals as goal

pub returns-clause-bounds : goal.returns-clause-bounds
returns-clause-bounds c = rw (c.lend.ensures.count, ← c.self.view_is) (lend_length-Lendable c.self.inside c.self.invariant c.args.most)
