use Rattle.std.proofs.Common.{rules, arith, ◌+◌}
use Rattle.piper_machine.specs.Log.{events}
use Rattle.piper_script.proofs.Going.{goes_more}
use Rattle.piper_script.proofs.steps.make_to_answer.Goals as goal

pub returns-then-ne-clause-goes : goal.returns-then-ne-clause-goes
returns-then-ne-clause-goes c =
    let so_far = c.loop.invariant.0 in
    (c.loop.counter + 1, omega arith, goes_more c.loop.counter c.args.side c.args.machine.now c.loop.machine c.go.new.machine (events c.args.log.now) (events c.loop.log) (events c.go.new.log) so_far c.in_ok-go.ensures.made, search rules)
