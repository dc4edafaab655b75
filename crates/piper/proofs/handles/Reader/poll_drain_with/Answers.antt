-- The rounds move what the look found, which was one look or two.
use Rattle.std.proofs.Common.{rules, ◌<◌, length, refl}
use Rattle.futures.specs.Task.{Keeps}
use Rattle.piper_ring.specs.Looks.{ReaderLooked}
use Rattle.piper.proofs.AtOnce.{once_drawn, once_granted, once_pending}
use Rattle.piper.proofs.LookingOut.{drains_rounds, found_some, looked_on}
use Rattle.piper.proofs.handles.Reader.poll_drain_with.Goals as goal
use Rattle.piper.proofs.handles.Reader.poll_drain_with.Goals.{then-not-look_first+in-Ok-Ready, else-not-look_first}

looked : (g : _) (c : goal.After-self-2-1 g) → ReaderLooked c.args.self.now.side.end c.if-not-look_first.self.1.0.end
looked g c = elim c.if-not-look_first.branch [
  | then-not-look_first+in-Ok-Ready w ↦ rw w.self-is (looked_on _ _ _ c.look_first.ensures.looked (c.look_first.ensures.none w.if-not-look_first.true).0 w.look_waiting.ensures.looked)
  | else-not-look_first w ↦ rw w.self-is c.look_first.ensures.looked
]

some : (g : _) (c : goal.After-self-2-1 g) → 0 < length c.if-not-look_first.self.1.0.end.known
some g c = elim c.if-not-look_first.branch [
  | then-not-look_first+in-Ok-Ready w ↦ rw w.self-is (rw w.in-Ok-Ready.field-0-is at w.in-Ok-Ready.ensures.answer).0
  | else-not-look_first w ↦ rw w.self-is (c.look_first.ensures.some w.if-not-look_first.false).0
]

kept : (g : _) (c : goal.After-self-2-1 g) → Keeps c.args.cx.now c.if-not-look_first.cx
kept g c = elim c.if-not-look_first.branch [
  | then-not-look_first+in-Ok-Ready w ↦ rw w.cx-is w.look_waiting.ensures.kept
  | else-not-look_first w ↦ rw w.cx-is (λ fact h. h)
]

pub returns-clause-drained : goal.returns-clause-drained
returns-clause-drained g c =
    (drains_rounds _ _ _ _ _ _ _ _ _ _ (looked g c) c.draw_yield.ensures.rest.0 c.drain_rounds.ensures.drained, search rules)

pub returns-clause-waiting : goal.returns-clause-waiting
returns-clause-waiting g c =
    let found = found_some _ _ _ _ _ _ _ _ _ _ (looked g c) c.draw_yield.ensures.rest.0 c.drain_rounds.ensures.drained (some g c) in record {
      draws = once_drawn _ _ _ _ _ _ c.drain_rounds.ensures.ready found refl (search rules) c.draw_yield.ensures.draw.0 c.if-draw_yield.false;
      pending = once_pending _ _ c.drain_rounds.ensures.ready;
      memory = once_granted _ _ c.drain_rounds.ensures.ready;
      context = λ fact held. c.draw_yield.ensures.kept fact (kept g c fact held);
    }
