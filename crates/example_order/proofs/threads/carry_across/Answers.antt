-- By the last mark alone: what came is the front of what was sent.
use Rattle.std.proofs.Common.{rules, ◌∙◌, sym, ap, ◌++◌, append_assoc}
use Rattle.example_order.proofs.Front.{came_first}
use Rattle.example_order.proofs.threads.carry_across.Goals as goal

pub returns : goal.returns
returns g c =
    let taken = c.observe.new.self.side.end.taken in
    let known = c.observe.new.self.side.end.known in
    let rest = (c.observe.ensures.last (search rules)).rest in
    came_first c.receive_all-came.new.place (known ++ rest.0) c.args.bytes.now c.receive_all-came.result c.join-last.ensures.front.0
    c.receive_all-came.ensures.count
    (ap (λ xs. xs ++ (known ++ rest.0)) (search rules) ∙ sym (append_assoc taken known rest.0) ∙ rest.1 ∙ (search rules))
