use Rattle.std.proofs.Common.{◌∙◌}
use Rattle.piper_machine.proofs.Soundness.{length-unread}
use Rattle.piper_machine.proofs.Moves.{tail_seen-view}
use Rattle.piper_machine.proofs.machine.Machine.reader_loads_tail.Goals as goal

pub returns-clause-after : goal.returns-clause-after
returns-clause-after c =
    let m = c.self.inside in
    let i = c.self.invariant in
    let after = rw (c.tail.ensures, ← length-unread m i) at c.tail_loaded-answer.ensures.after in
    let answer = rw (c.tail.ensures, ← length-unread m i) at c.tail_loaded-answer.ensures.answer in
    rw (← c.self.view_is, c.settle_reader.ensures.call, c.settle_reader.ensures.destination, answer) (tail_seen-view m i c.tail_loaded-answer.new.self _ _ _ after)

pub returns-clause-answer : goal.returns-clause-answer
returns-clause-answer c = rw (← c.self.view_is) (c.settle_reader.ensures.answer ∙ rw (c.tail.ensures, ← length-unread c.self.inside c.self.invariant) at c.tail_loaded-answer.ensures.answer)
