use Rattle.std.proofs.Common.{length, arith}
use Rattle.std.proofs.lemmas.Grind.{common_steps}
use Rattle.piper_machine.specs.Types.{Call}
use Rattle.piper_machine.proofs.machine.Machine.r_poll_drain_bytes.Goals as goal

pub returns-clause-answer : goal.returns-clause-answer
returns-clause-answer c = grind arith

pub returns-clause-bytes : goal.returns-clause-bytes
returns-clause-bytes c = grind (arith, common_steps)

pub returns-clause-after : goal.returns-clause-after
returns-clause-after c = grind arith

pub returns-clause-by_steps : goal.returns-clause-by_steps
returns-clause-by_steps c = c.begin_whole.ensures.by_steps (Call.PollDrainBytes c.args.waker c.args.luck (length c.args.dest.now))
