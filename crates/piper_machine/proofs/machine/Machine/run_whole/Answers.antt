use Rattle.std.proofs.Common.{◌≡◌, ap, ◌∙◌, []}
use Rattle.piper_machine.specs.Types.{Side}
use Rattle.piper_machine.specs.Alone.{Ended, alone_of}
use Rattle.piper_machine.specs.BySteps.{whole}
use Rattle.piper_machine.proofs.WholeBySteps.{plain-opens}
use Rattle.piper_machine.proofs.machine.Machine.run_whole.Goals as goal
use Rattle.piper_machine.proofs.machine.Machine.run_whole.Goals.{After-drive}

ended : (c : After-drive) → alone_of c.side-side.result c.open.new.self ≡ whole [] c.args.call c.args.self.now
ended c =
    let side = c.side-side.ensures in
    let begins = c.begin_whole.ensures in
    let opening = plain-opens c.args.call c.args.self.now c.begin_whole.new.self c.open.new.self c.requires.plain begins.sound (rw side at begins.rests) c.requires.within begins.after c.open.ensures.after in
    ap (λ (s : Side). alone_of s c.open.new.self) side ∙ opening.rest

pub returns-clause-answer : goal.returns-clause-answer
returns-clause-answer c = c.drive.ensures.answer ∙ ap (λ (e : Ended). e.answer) (ended (goal.at.returns-clause-answer c).After-drive)

pub returns-clause-after : goal.returns-clause-after
returns-clause-after c = c.drive.ensures.after ∙ ap (λ (e : Ended). e.pipe) (ended (goal.at.returns-clause-after c).After-drive)
