use Rattle.std.proofs.Common.{Option, sym, ap, ◌∙◌, arith}
use Rattle.piper_machine.specs.Types.{Answer}
use Rattle.piper_machine.specs.Alone.{Ended}
use Rattle.piper_machine.proofs.BySteps.{IsDriven, drives, rest_of}
use Rattle.piper_machine.proofs.machine.Machine.drive.Goals as goal
use Rattle.piper_machine.proofs.machine.Machine.drive.Goals.{After-goes}

driven : (c : After-goes) → IsDriven c.args.side c.steps.self c.goes.result c.goes.new.self
driven c = drives c.args.side c.steps.self c.hear.new.self c.goes.new.self c.goes.result c.steps.invariant.busy c.steps.invariant.moves c.hear.ensures.after c.goes.ensures.answer c.goes.ensures.after

pub steps-preserved : goal.steps-preserved
steps-preserved c =
    let inv = c.steps.invariant in
    let drives = driven (goal.at.steps-preserved c).After-goes in
    let near = drives.on c.in-None.is in
    record {
      busy = near.0;
      moves = near.1;
      wakes = let fewer = near.2.wakes in omega (arith, inv.wakes);
      rest = inv.rest ∙ drives.rest ∙ ap (λ (a : Option Answer). rest_of c.args.side a c.goes.new.self) c.in-None.is;
    }

pub steps-smaller : goal.steps-smaller
steps-smaller c = ((driven (goal.at.steps-smaller c).After-goes).on c.in-None.is).2.steps

pub returns-in-Some : goal.returns-in-Some
returns-in-Some c =
    let ended = c.steps.invariant.rest ∙ (driven (goal.at.returns-in-Some c).After-goes).rest ∙ ap (λ (a : Option Answer). rest_of c.args.side a c.goes.new.self) c.in-Some.is in
    record { answer = sym (ap (λ (e : Ended). e.answer) ended); after = sym (ap (λ (e : Ended). e.pipe) ended) }
