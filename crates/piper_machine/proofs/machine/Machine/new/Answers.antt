use Rattle.std.proofs.Common.{rules}
use Rattle.piper_machine.proofs.Between.{between_none}
use Rattle.piper_machine.proofs.machine.Machine.new.Goals as goal

pub returns : goal.returns
returns c = rw (c.new.ensures.fresh, c.new-2.ensures.fresh) (simp between_none (search rules))
