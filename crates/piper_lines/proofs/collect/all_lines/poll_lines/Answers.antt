use Rattle.std.proofs.Common.{◌≡◌, ◌<◌, ◌++◌, ◌∷◌, [], List, ℕ, Vec, length, ap, ◌∙◌, sym, subst, refl, arith, length-append}
use Rattle.std.specs.declared.alloc.Global.{Global}
use Rattle.piper.specs.declared.error.PipeError.{PipeError}
use Rattle.piper_lines.specs.Moves.{Moves}
use Rattle.piper_lines.specs.Split.{joined, IsPiece}
use Rattle.piper_lines.specs.LineReader.{reader_of, end_of, kept_of}
use Rattle.piper_lines.proofs.Moving.{moves_none, moves_then}
use Rattle.piper_lines.proofs.Collecting.{moves_line, flat_map-push, adds_none, adds_piece, hands_piece, hands_end}
use Rattle.piper_lines.proofs.collect.all_lines.poll_lines.Goals as goal

pub loop-init : goal.loop-init
loop-init g c = record {
  moved = moves_none (g.R.AsyncBufRead.taken (reader_of c.args.lines.now)) (kept_of c.args.lines.now) (joined c.args.out.now.items);
  split = adds_none (λ piece. length (kept_of c.args.lines.now) < c.args.limit → IsPiece (end_of c.args.lines.now) c.args.limit piece) c.args.out.now.items;
  short = λ short. short;
  room = omega arith;
  end = refl;
  more = omega arith;
  stays = (refl, λ woken. woken);
  kept = λ fact held. held;
}

pub returns-in-Pending-clause-moved : goal.returns-in-Pending-clause-moved
returns-in-Pending-clause-moved g c =
    moves_line _ _ _ _ _ _ c.poll_line.new.line.items [] c.loop.out.items c.reserve.new.self.items c.loop.invariant.moved c.poll_line.ensures.moved c.reserve.ensures.items c.in-Pending.ensures.hands.0

pub returns-in-Ready-Err-clause-moved : goal.returns-in-Ready-Err-clause-moved
returns-in-Ready-Err-clause-moved g c =
    let hands = rw c.in-Ready-Err.field-0-is at c.in-Ready-Err.ensures.hands in
    moves_line _ _ _ _ _ _ c.poll_line.new.line.items [] c.loop.out.items c.reserve.new.self.items c.loop.invariant.moved c.poll_line.ensures.moved c.reserve.ensures.items hands.0

pub returns-then-is_end-clause-moved : goal.returns-then-is_end-clause-moved
returns-then-is_end-clause-moved g c =
    moves_line _ _ _ _ _ _ c.poll_line.new.line.items c.poll_line.new.line.items c.loop.out.items c.reserve.new.self.items c.loop.invariant.moved c.poll_line.ensures.moved c.reserve.ensures.items refl

pub returns-then-is_end-clause-ended : goal.returns-then-is_end-clause-ended
returns-then-is_end-clause-ended g c =
    let is_end = sym c.is_end.ensures ∙ c.if-is_end.true in
    let hands = rw (c.in-Ready-Ok.field-0-is, c.loop.invariant.end) at c.in-Ready-Ok.ensures.hands in
    let ended = hands_end PipeError c.in-Ready-Ok.answer _ _ _ _ _ _ _ is_end hands in
    (ended.0, ended.1, ended.2, (rw c.in-Ready-Ok.field-0-is at c.in-Ready-Ok.ensures.ended) is_end)

pub loop-preserved : goal.loop-preserved
loop-preserved g c =
    let hands = rw (c.in-Ready-Ok.field-0-is, c.loop.invariant.end) at c.in-Ready-Ok.ensures.hands in
    let piece = hands_piece PipeError c.in-Ready-Ok.answer _ _ _ _ _ _ _ (sym c.is_end.ensures ∙ c.if-is_end.false) hands in
    let line : Vec ℕ Global = c.poll_line.new.line in
    let moved = moves_then _ _ _ _ _ _ (joined c.loop.out.items) line.items c.loop.invariant.moved c.poll_line.ensures.moved in
    let pushed : c.push.new.out.items ≡ c.loop.out.items ++ line ∷ [] = c.push.ensures.items ∙ ap (λ (out : List (Vec ℕ Global)). out ++ line ∷ []) c.reserve.ensures.items in
    let together : joined c.loop.out.items ++ line.items ≡ joined c.push.new.out.items = sym (ap joined pushed ∙ flat_map-push (λ (v : Vec ℕ Global). v.items) c.loop.out.items line) in
    record {
      moved = subst (λ ws. Moves (g.R.AsyncBufRead.taken (reader_of c.args.lines.now)) (g.R.AsyncBufRead.taken (reader_of c.poll_line.new.self)) (joined c.args.out.now.items ++ kept_of c.args.lines.now) ws (kept_of c.poll_line.new.self)) together moved;
      split = adds_piece (λ piece. length (kept_of c.args.lines.now) < c.args.limit → IsPiece (end_of c.args.lines.now) c.args.limit piece) c.args.out.now.items c.loop.out.items c.push.new.out.items line c.loop.invariant.split pushed (λ short. piece.1 (c.loop.invariant.short short));
      short = λ short. omega (arith, ap length piece.0);
      room = omega (arith, c.loop.invariant.room, c.reserve.ensures.capacity, c.push.ensures.capacity);
      end = c.poll_line.ensures.rest.0 ∙ c.loop.invariant.end;
      more = omega (arith, c.loop.invariant.more, ap length pushed, length-append c.loop.out.items (line ∷ []));
      stays = (c.poll_line.ensures.rest.1.0 ∙ c.loop.invariant.stays.0, λ woken. c.poll_line.ensures.rest.1.1 (c.loop.invariant.stays.1 woken));
      kept = λ fact held. c.poll_line.ensures.rest.2 fact (c.loop.invariant.kept fact held);
    }
