use Rattle.std.proofs.Common.{rules, ◌≡◌, ◌∙◌, ap, ◌++◌, take, false}
use Rattle.example_order.proofs.Beginnings.{first_and_next, front_grows, left_after}
use Rattle.example_order.proofs.threads.send_all.Goals.{in-None, in-Some+then-given-bytes}
use Rattle.example_order.proofs.threads.send_all.Goals as goal

pub loop-preserved : goal.loop-preserved
loop-preserved g c =
    let was = c.loop.invariant in
    let fill = c.try_fill-given.ensures.tried in
    let bytes = c.args.bytes.now in
    let n = c.try_fill-given.result in record {
      turns = search rules;
      within = search rules;
      ring = search rules;
      front = front_grows bytes c.loop.writer.side.end.sent c.try_fill-given.new.self.side.end.sent c.loop.given n c.loop.writer.side.end.saw was.within was.front was.all fill.over fill.filled.front;
      all = λ unseen.
          let before : c.loop.writer.side.end.saw ≡ false = search rules in
          fill.filled.all unseen ∙ ap (λ xs. xs ++ take n (left_after bytes c.loop.given)) (was.all before) ∙ first_and_next bytes c.loop.given n was.within;
    }

pub returns : goal.returns
returns g c =
    let was = c.loop.invariant in
    elim c.match-next.branch [
      | in-None w ↦ record {
        ring = search rules;
        front = (was.front.0, c.finish.ensures.mark.1 ∙ ap (λ writer. writer.side.end.sent) w.writer-is ∙ was.front.1);
        closed = c.finish.ensures.mark.2;
      }
      | in-Some+then-given-bytes w ↦
          let fill = w.try_fill-given.ensures.tried in
          let front = front_grows c.args.bytes.now c.loop.writer.side.end.sent w.try_fill-given.new.self.side.end.sent c.loop.given w.try_fill-given.result c.loop.writer.side.end.saw was.within was.front was.all fill.over fill.filled.front in
          record {
            ring = search rules;
            front = (front.0, c.finish.ensures.mark.1 ∙ ap (λ writer. writer.side.end.sent) w.writer-is ∙ front.1);
            closed = c.finish.ensures.mark.2;
          }
    ]
