use Rattle.std.proofs.Common.{◌∙◌, ap}
use Rattle.piper_machine.specs.Types.{Action, Found, Reader}
use Rattle.piper_machine.specs.Action.{performed}
use Rattle.piper_machine.specs.Pipe.{Pipe}
use Rattle.piper_machine.specs.Step.{drain_answer, drain_left, reader_stepped}
use Rattle.piper_machine.proofs.Making.{reader-makes}
use Rattle.piper_machine.proofs.machine.Machine.reader_goes.Goals as goal

pub returns-in_default : goal.returns-in_default
returns-in_default c =
    let p = c.args.self.now in
    let finds = c.reader_finds-found.ensures in
    let found = c.reader_finds-found.result in
    let makes = reader-makes c.args.action p in
    record {
      after =
          c.reader_found.ensures.after
          ∙ ap (λ (q : Pipe). drain_left found q) finds.after
          ∙ ap (λ (f : Found). drain_left f (performed Reader c.args.action p)) finds.found
          ∙ makes.after
          ∙ ap (λ (action : Action). (reader_stepped action p).pipe) c.requires;
      answer =
          c.reader_found.ensures.answer
          ∙ ap (λ (q : Pipe). drain_answer found q) finds.after
          ∙ ap (λ (f : Found). drain_answer f (performed Reader c.args.action p)) finds.found
          ∙ makes.answer_is
          ∙ ap (λ (action : Action). (reader_stepped action p).answer) c.requires;
    }
