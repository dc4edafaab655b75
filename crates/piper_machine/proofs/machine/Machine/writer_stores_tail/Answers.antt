use Rattle.std.proofs.Common.{ap, ◌∙◌, arith}
use Rattle.piper_machine.specs.Types.{WritePoint, Nothing as nothing}
use Rattle.piper_machine.specs.Move.{published}
use Rattle.piper_protocol.specs.Table.{Next}
use Rattle.piper_machine.specs.Step.{call_after, source_after}
use Rattle.piper_machine.specs.Machine.{pipe_of}
use Rattle.piper_machine.proofs.Moves.{published-view}
use Rattle.piper_machine.proofs.Machines.{writer-passed, next-of, tail-within}
use Rattle.piper_machine.proofs.machine.Machine.writer_stores_tail.Goals as goal

pub stored_tail-answer-requires-clause-within : goal.stored_tail-answer-requires-clause-within
stored_tail-answer-requires-clause-within c = tail-within c.self.inside c.self.invariant _ c.args.n c.self.view_is c.requires

pub returns-clause-after : goal.returns-clause-after
returns-clause-after c =
    let m = c.self.inside in
    let i = c.self.invariant in
    let p = pipe_of m in
    let within = tail-within m i _ c.args.n c.self.view_is c.requires in
    let moved = published-view m i c.args.n c.stored_tail-answer.new.self _ _ _ c.stored_tail-answer.ensures.after (omega arith) in
    rw (← c.self.view_is, c.settle_writer.ensures.call, c.settle_writer.ensures.source, c.stored_tail-answer.ensures.answer)
    (moved ∙ ap (λ (next : Next WritePoint). record (published c.args.n p) { writer = next.point; writer_call = call_after next.answer p.writer_call; source = source_after next.answer p.source }) (next-of m i nothing))

pub invariant_of-self : goal.invariant_of-self
invariant_of-self c =
    let m = c.self.inside in
    let i = c.self.invariant in
    let within = tail-within m i _ c.args.n c.self.view_is c.requires in
    let made = c.stored_tail-answer.ensures in
    let settled = c.settle_writer.ensures in
    writer-passed m i c.args.n c.stored_tail-answer.new.self _ _ _ made.after made.sound (omega arith) (λ idle. settled.holds_nothing (made.open idle)) (λ idle. settled.gives_nothing (made.open idle))
