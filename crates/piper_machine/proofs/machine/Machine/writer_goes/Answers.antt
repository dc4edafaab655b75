use Rattle.std.proofs.Common.{◌∙◌, ap, true, arith}
use Rattle.piper_machine.specs.Types.{Action, Found, Writer}
use Rattle.piper_machine.specs.Action.{found_by, performed}
use Rattle.piper_machine.specs.Pipe.{Pipe}
use Rattle.piper_machine.specs.Step.{round_answer}
use Rattle.piper_machine.proofs.Making.{writer-makes}
use Rattle.piper_machine.proofs.machine.Machine.writer_goes.Goals as goal

pub returns-in_default-clause-after : goal.returns-in_default-clause-after
returns-in_default-clause-after c = grind arith

pub returns-in_default-clause-answer : goal.returns-in_default-clause-answer
returns-in_default-clause-answer c =
    let p = c.args.self.now in
    let finds = c.writer_finds-found.ensures in
    let found = c.writer_finds-found.result in
    let makes = writer-makes p (λ is. c.in_default.not-LoadIndex (c.requires ∙ is)) (λ n is. c.in_default.not-StoreTail n (c.requires ∙ is)) (λ is. c.in_default.not-StoreClosed true (c.requires ∙ is)) (λ is. c.in_default.not-CallSource (c.requires ∙ is)) in
    c.writer_found.ensures.answer
    ∙ ap (λ (q : Pipe). round_answer found q) finds.after
    ∙ ap (λ (f : Found). round_answer f (performed Writer c.args.action p)) finds.found
    ∙ ap (λ (action : Action). round_answer (found_by Writer action p) (performed Writer action p)) c.requires
    ∙ makes.answer_is c.writer_found.new.self.lent

pub returns-in_default-clause-lent : goal.returns-in_default-clause-lent
returns-in_default-clause-lent c =
    let p = c.args.self.now in
    let makes = writer-makes p (λ is. c.in_default.not-LoadIndex (c.requires ∙ is)) (λ n is. c.in_default.not-StoreTail n (c.requires ∙ is)) (λ is. c.in_default.not-StoreClosed true (c.requires ∙ is)) (λ is. c.in_default.not-CallSource (c.requires ∙ is)) in
    makes.may c.writer_found.new.self.lent
