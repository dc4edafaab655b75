use Rattle.std.proofs.Common.{arith}
use Rattle.piper_machine.proofs.Indices.{place_below}
use Rattle.piper_machine.proofs.Moves.{consumed-view}
use Rattle.piper_machine.proofs.Machines.{head-within, reader-passed}
use Rattle.piper_machine.proofs.machine.Machine.reader_stores_head.Goals as goal

pub stored_head-answer-requires-clause-within : goal.stored_head-answer-requires-clause-within
stored_head-answer-requires-clause-within c = head-within c.self.inside c.self.invariant _ c.args.n c.self.view_is c.requires

pub returns-clause-after : goal.returns-clause-after
returns-clause-after c =
    let m = c.self.inside in
    let i = c.self.invariant in
    let within = head-within m i _ c.args.n c.self.view_is c.requires in
    let below = place_below m.read.capacity m.read.head i.reading.head in
    rw (← c.self.view_is, c.settle_reader.ensures.call, c.settle_reader.ensures.destination, c.stored_head-answer.ensures.answer) (consumed-view m i c.args.n c.stored_head-answer.new.self _ _ _ c.stored_head-answer.ensures.after (omega arith) (omega arith))

pub invariant_of-self : goal.invariant_of-self
invariant_of-self c =
    let m = c.self.inside in
    let i = c.self.invariant in
    let within = head-within m i _ c.args.n c.self.view_is c.requires in
    let below = place_below m.read.capacity m.read.head i.reading.head in
    let made = c.stored_head-answer.ensures in
    let settled = c.settle_reader.ensures in
    reader-passed m i c.args.n c.stored_head-answer.new.self _ _ _ made.after made.sound (omega arith) (omega arith) (λ idle. settled.holds_nothing (made.open idle)) (λ idle. settled.fills_nothing (made.open idle))
