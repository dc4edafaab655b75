use Rattle.std.proofs.Common.{◌-◌, ap, ◌∙◌, length}
use Rattle.piper_machine.specs.Types.{WritePoint}
use Rattle.piper_protocol.specs.Table.{Next}
use Rattle.piper_machine.specs.Step.{call_after, source_after}
use Rattle.piper_machine.specs.Machine.{pipe_of}
use Rattle.piper_machine.proofs.Moves.{head_seen-view, index_loaded-next}
use Rattle.piper_machine.proofs.machine.Machine.writer_loads_head.Goals as goal

pub returns-clause-after : goal.returns-clause-after
returns-clause-after c =
    let m = c.self.inside in
    let i = c.self.invariant in
    let p = pipe_of m in
    let seen = head_seen-view m i c.head_loaded-answer.new.self _ _ _ (rw c.head.ensures at c.head_loaded-answer.ensures.after) in
    let answer = rw c.head.ensures at c.head_loaded-answer.ensures.answer in
    rw (← c.self.view_is, c.settle_writer.ensures.call, c.settle_writer.ensures.source, answer)
    (seen ∙ ap (λ (next : Next WritePoint). record p { room = p.capacity - length p.unread; writer = next.point; writer_call = call_after next.answer p.writer_call; source = source_after next.answer p.source }) (index_loaded-next m i))

pub returns-clause-answer : goal.returns-clause-answer
returns-clause-answer c = rw (← c.self.view_is) (c.settle_writer.ensures.answer ∙ rw c.head.ensures at c.head_loaded-answer.ensures.answer ∙ ap (λ (next : Next WritePoint). next.answer) (index_loaded-next c.self.inside c.self.invariant))
