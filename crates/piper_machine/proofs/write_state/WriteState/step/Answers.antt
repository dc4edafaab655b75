use Rattle.std.proofs.Common.{◌+◌, ◌-◌, ◌≤◌, ap, ◌∙◌, arith}
use Rattle.piper_protocol.specs.Table.{moved_in, publishes, tail_store, write_sum}
use Rattle.piper_protocol.specs.WriterIndices.{room_in}
use Rattle.piper_machine.specs.Side.{Writing}
use Rattle.piper_machine.specs.SideSteps.{writing_answer}
use Rattle.piper_machine.proofs.write_state.WriteState.step.Goals as goal

pub invariant_of-self : goal.invariant_of-self
invariant_of-self c =
    let i = c.self.invariant in
    let w = c.self.inside.indices in
    let no_store = ap (λ (side : Writing). publishes side.point) c.self.view_is ∙ c.requires.no_store in
    let lent = ap (λ (side : Writing). side.lent) c.self.view_is in
    let within : moved_in c.args.found ≤ w.lent = omega (arith, c.requires.within) in
    let before : write_sum c.self.inside.point ≤ (w.capacity - room_in w) + tail_store c.self.inside.point = omega (arith, i.sum) in
    let sum = c.after-point.ensures.sum (w.capacity - room_in w) no_store before in
    record {
      capacity = i.capacity;
      tail = i.tail;
      head = i.head;
      within = i.within;
      lent_room = i.lent_room;
      lent_place = i.lent_place;
      zeroed = i.zeroed;
      lent_zeroed = i.lent_zeroed;
      shut = i.shut;
      store = c.after-point.ensures.store w.lent i.store within;
      sum = omega (arith, sum);
    }

pub returns-clause-answer : goal.returns-clause-answer
returns-clause-answer c =
    let of_capacity = rw c.capacity.ensures.value at c.after-point.ensures.answer in
    let of_room = rw c.room-room.ensures.value at of_capacity in
    of_room ∙ ap (writing_answer c.args.found) c.self.view_is

pub returns-clause-sound : goal.returns-clause-sound
returns-clause-sound c = invariant_of-self c
