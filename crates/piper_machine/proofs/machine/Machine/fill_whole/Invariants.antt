use Rattle.piper_machine.specs.Round.{unspent}
use Rattle.piper_machine.specs.Step.{fill_opened}
use Rattle.piper_machine.proofs.Filling.{Filling, giving, left_of}
use Rattle.piper_machine.proofs.machine.Machine.fill_whole.Given as goal

abbrev pub invariant-steps : goal.invariant-steps
invariant-steps l = record { filling : Filling (fill_opened l.fn.context (unspent l.fn.bytes l.fn.acts) l.fn.self) (giving (unspent l.bytes l.acts) l.self) }

abbrev pub decreases-steps : goal.decreases-steps
decreases-steps l = left_of l.self
