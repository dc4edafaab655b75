-- The rounds move into what the look found, which was one look or two. Nothing is moved where it is
-- not true, or where the fill yields.
use Rattle.std.proofs.Common.{rules, Ok, Err, refl, inr}
use Rattle.futures.specs.Task.{Keeps}
use Rattle.futures.specs.declared.task.Poll.TheVariants.{Ready, Pending}
use Rattle.piper_ring.specs.Looks.{WriterLooked}
use Rattle.piper.specs.declared.error.CopyError.TheVariants.{Memory}
use Rattle.piper.proofs.AtOnce.{once_drawn, once_granted, once_pending}
use Rattle.piper.proofs.LookingIn.{fills_none, fills_rounds, looked_on}
use Rattle.piper.proofs.handles.Writer.fill_waiting.Goals as goal
use Rattle.piper.proofs.handles.Writer.fill_waiting.Goals.{in-Ready, in-NotReady+in-Ok-Ready}

pub returns-in-Closed-clause-filled : goal.returns-in-Closed-clause-filled
returns-in-Closed-clause-filled g c =
    fills_none _ _ _ (Ready (Ok 0)) _ _ _ c.look_first.ensures.looked (g.met.R.ReadLike.gives_nothing _, refl) (inr c.in-Closed.ensures.found)

pub returns-in-Ok-Closed-clause-filled : goal.returns-in-Ok-Closed-clause-filled
returns-in-Ok-Closed-clause-filled g c =
    fills_none _ _ _ (Ready (Ok 0)) _ _ _ (looked_on _ _ _ c.look_first.ensures.looked c.in-NotReady.ensures.found.0 c.look_waiting.ensures.looked)
    (g.met.R.ReadLike.gives_nothing _, refl) (inr (rw c.in-Ok-Closed.field-0-is at c.in-Ok-Closed.ensures.answer))

pub returns-in-Ok-NotReady-clause-filled : goal.returns-in-Ok-NotReady-clause-filled
returns-in-Ok-NotReady-clause-filled g c =
    fills_none _ _ _ Pending _ _ _ (looked_on _ _ _ c.look_first.ensures.looked c.in-NotReady.ensures.found.0 c.look_waiting.ensures.looked) (refl, refl) tt

pub returns-in-Err-clause-filled : goal.returns-in-Err-clause-filled
returns-in-Err-clause-filled g c =
    fills_none _ _ _ (Ready (Err Memory)) _ _ _ (looked_on _ _ _ c.look_first.ensures.looked c.in-NotReady.ensures.found.0 c.look_waiting.ensures.looked) (refl, refl) tt

pub returns-then-draw_yield-clause-filled : goal.returns-then-draw_yield-clause-filled
returns-then-draw_yield-clause-filled g c =
    let looked : WriterLooked c.args.self.now.side.end c.match-look_first.self.1.0.end = elim c.match-look_first.branch [
      | in-Ready w ↦ rw w.self-is c.look_first.ensures.looked
      | in-NotReady+in-Ok-Ready w ↦ rw w.self-is (looked_on _ _ _ c.look_first.ensures.looked w.in-NotReady.ensures.found.0 w.look_waiting.ensures.looked)
    ] in
    rw c.draw_yield.ensures.rest.0 (fills_none _ _ _ Pending _ _ _ looked (refl, refl) tt)

looked : (g : _) (c : goal.After-self-2-1 g) → WriterLooked c.args.self.now.side.end c.match-look_first.self.1.0.end
looked g c = elim c.match-look_first.branch [
  | in-Ready w ↦ rw w.self-is c.look_first.ensures.looked
  | in-NotReady+in-Ok-Ready w ↦ rw w.self-is (looked_on _ _ _ c.look_first.ensures.looked w.in-NotReady.ensures.found.0 w.look_waiting.ensures.looked)
]

kept : (g : _) (c : goal.After-self-2-1 g) → Keeps c.args.cx.now c.match-look_first.cx
kept g c = elim c.match-look_first.branch [
  | in-Ready w ↦ rw w.cx-is (λ fact h. h)
  | in-NotReady+in-Ok-Ready w ↦ rw w.cx-is w.look_waiting.ensures.kept
]

pub returns-clause-filled : goal.returns-clause-filled
returns-clause-filled g c =
    fills_rounds _ _ _ _ _ _ _ _ _ _ (looked g c) c.draw_yield.ensures.rest.0 c.fill_rounds.ensures.filled

pub returns-clause-waiting : goal.returns-clause-waiting
returns-clause-waiting g c = record {
  draws = once_drawn _ _ _ _ _ _ c.fill_rounds.ensures.ready c.fill_rounds.ensures.found refl (search rules) c.draw_yield.ensures.draw.0 c.if-draw_yield.false;
  pending = once_pending _ _ c.fill_rounds.ensures.ready;
  memory = once_granted _ _ c.fill_rounds.ensures.ready;
  context = λ fact held. c.draw_yield.ensures.kept fact (kept g c fact held);
}
