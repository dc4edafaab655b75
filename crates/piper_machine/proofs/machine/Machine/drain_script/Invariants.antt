use Rattle.piper_machine.specs.Types.{Acts}
use Rattle.piper_machine.specs.Step.{drain_opened}
use Rattle.piper_machine.proofs.Draining.{Draining, placing, left_of}
use Rattle.piper_machine.proofs.machine.Machine.drain_script.Given as goal

abbrev pub invariant-steps : goal.invariant-steps
invariant-steps l = record { draining : Draining (drain_opened l.fn.context (Acts l.fn.acts) l.fn.self) (placing (Acts l.acts) l.self) }

abbrev pub decreases-steps : goal.decreases-steps
decreases-steps l = left_of l.self
