use Rattle.std.proofs.Common.{◌∙◌, arith}
use Rattle.piper_machine.proofs.Machines.{answer-of}
use Rattle.piper_machine.proofs.machine.Machine.writer_found.Goals as goal

pub invariant_of-self : goal.invariant_of-self
invariant_of-self c = grind arith

pub returns-clause-after : goal.returns-clause-after
returns-clause-after c = grind arith

pub returns-clause-answer : goal.returns-clause-answer
returns-clause-answer c = c.settle_writer.ensures.answer ∙ c.step-answer.ensures.answer ∙ answer-of c.self.inside c.self.invariant _ c.args.found c.self.view_is
