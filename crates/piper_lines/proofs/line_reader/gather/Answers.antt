use Rattle.std.proofs.Common.{rules, ◌≡◌, ◌<◌, ◌++◌, List, [], ℕ, take, length, ap, inl, inr, refl, arith, length-append, length-take}
use Rattle.std.proofs.lemmas.Grind.{common_steps}
use Rattle.piper_lines.specs.Line.{Lacks, IsLine}
use Rattle.piper_lines.proofs.Growing.{grows_none, grows_more, lends_some}
use Rattle.piper_lines.proofs.LineEnds.{IsLine-append, Lacks-append}
use Rattle.piper_lines.proofs.line_reader.gather.Goals as goal

pub returns-then-is_found-clause-gathers : goal.returns-then-is_found-clause-gathers
returns-then-is_found-clause-gathers g c =
    let more : List ℕ = take c.through_end-count.result.0 (take c.min.result c.in-Ready-Ok.lent.now) in
    let grown : c.extend_from_slice.new.self.items ≡ c.loop-end.line.items ++ more = search rules in
    let is_line : IsLine c.args.end more = rw c.if-is_found.true at c.through_end-count.ensures.through in (
      rw grown (IsLine-append c.args.end c.loop-end.line.items more c.loop-end.invariant.unfinished is_line),
      omega (arith, ap length grown, length-append c.loop-end.line.items more, length-take c.through_end-count.result.0 (take c.min.result c.in-Ready-Ok.lent.now), length-take c.min.result c.in-Ready-Ok.lent.now),
    )

pub loop-end-init : goal.loop-end-init
loop-end-init g c = record { grown = grows_none _ _; unfinished = c.requires.unfinished; within = inr refl; room = omega arith; ended = λ before. (before, refl); stays = (refl, λ woken. woken); kept = λ fact held. held }

pub loop-end-smaller : goal.loop-end-smaller
loop-end-smaller g c =
    let more : List ℕ = take c.through_end-count.result.0 (take c.min.result c.in-Ready-Ok.lent.now) in
    let grown : c.extend_from_slice.new.self.items ≡ c.loop-end.line.items ++ more = search rules in
    let lent : 0 < length c.in-Ready-Ok.lent.now = search rules in
    let some : 0 < length (take c.min.result c.in-Ready-Ok.lent.now) = omega (arith, lent, length-take c.min.result c.in-Ready-Ok.lent.now) in
    omega (arith, ap length grown, length-append c.loop-end.line.items more, length-take c.through_end-count.result.0 (take c.min.result c.in-Ready-Ok.lent.now), c.through_end-count.ensures.some some)

pub loop-end-preserved : goal.loop-end-preserved
loop-end-preserved g c =
    let more : List ℕ = take c.through_end-count.result.0 (take c.min.result c.in-Ready-Ok.lent.now) in
    let grown : c.extend_from_slice.new.self.items ≡ c.loop-end.line.items ++ more = search rules in
    let lacks : Lacks c.args.end more = rw c.if-is_found.false at c.through_end-count.ensures.through in
    let taken : g.R.AsyncBufRead.taken c.consume.new.self ≡ g.R.AsyncBufRead.taken c.loop-end.reader ++ more = grind (arith, common_steps) in
    record {
      grown = grows_more _ _ _ _ _ _ more c.loop-end.invariant.grown taken grown;
      unfinished = rw grown (Lacks-append c.args.end c.loop-end.line.items more c.loop-end.invariant.unfinished lacks);
      within = inl (omega (arith, ap length grown, length-append c.loop-end.line.items more, length-take c.through_end-count.result.0 (take c.min.result c.in-Ready-Ok.lent.now), length-take c.min.result c.in-Ready-Ok.lent.now));
      room = omega (arith, c.loop-end.invariant.room, c.extend_from_slice.ensures.capacity);
      ended = λ before.
          let reader : g.row.R.Denot = c.poll_fill_buf.follows.lender-at-none in
          let now : g.R.AsyncBufRead.ended c.loop-end.reader = (c.loop-end.invariant.ended before).0 in
          let none : g.R.AsyncBufRead.known reader ≡ [] = (c.poll_fill_buf.follows.holds-at-none.2 now).1 in
          let piece : c.in-Ready-Ok.lent.now ≡ take (g.R.AsyncBufRead.piece reader) (g.R.AsyncBufRead.known reader) = search rules in
          let some : 0 < length c.in-Ready-Ok.lent.now = search rules in
          absurd (lends_some (g.R.AsyncBufRead.known reader) c.in-Ready-Ok.lent.now (g.R.AsyncBufRead.piece reader) piece some none);
      stays = search rules;
      kept = λ fact held. c.poll_fill_buf.ensures.kept fact (c.loop-end.invariant.kept fact held);
    }
