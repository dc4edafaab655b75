use Rattle.std.proofs.Common.{rules, ◌≡◌, ◌<◌, ◌++◌, List, ℕ, take, length, ap, length-append, length-take, arith}
use Rattle.std.proofs.lemmas.Grind.{common_steps}
use Rattle.piper_futures.specs.Until.{IsThrough, Lacks}
use Rattle.piper_futures.proofs.UntilOn.{grows_by_more, IsThrough-append, Lacks-append}
use Rattle.piper_futures.proofs.read_through.poll_read_until.Goals as goal

pub returns-then-is_found-clause-reaches : goal.returns-then-is_found-clause-reaches
returns-then-is_found-clause-reaches g c =
    let more : List ℕ = take c.through-count.result.0 c.in-Ready-Ok.piece.now in
    let grown : c.extend_from_slice.new.self.items ≡ c.loop.bytes.items ++ more = search rules in
    let taken : g.R.AsyncBufRead.taken c.consume.new.self ≡ g.R.AsyncBufRead.taken c.loop.reader ++ more = grind (arith, common_steps) in
    let ends : IsThrough c.args.byte more = rw c.if-is_found.true at c.through-count.ensures.through in
    grows_by_more _ _ _ _ _ _ (Lacks c.args.byte) (IsThrough c.args.byte) (IsThrough c.args.byte) (IsThrough-append c.args.byte) c.loop.invariant.grown (more, taken, grown, ends)

pub loop-preserved : goal.loop-preserved
loop-preserved g c =
    let more : List ℕ = take c.through-count.result.0 c.in-Ready-Ok.piece.now in
    let grown : c.extend_from_slice.new.self.items ≡ c.loop.bytes.items ++ more = search rules in
    let taken : g.R.AsyncBufRead.taken c.consume.new.self ≡ g.R.AsyncBufRead.taken c.loop.reader ++ more = grind (arith, common_steps) in
    let lent : 0 < length c.in-Ready-Ok.piece.now = search rules in
    let some : 0 < length more = omega (arith, lent, c.through-count.ensures.some lent, c.through-count.ensures.within, length-take c.through-count.result.0 c.in-Ready-Ok.piece.now) in
    let lacks : Lacks c.args.byte more = rw c.if-is_found.false at c.through-count.ensures.through in
    record {
      grown = grows_by_more _ _ _ _ _ _ (Lacks c.args.byte) (Lacks c.args.byte) (Lacks c.args.byte) (Lacks-append c.args.byte) c.loop.invariant.grown (more, taken, grown, lacks);
      room = omega (arith, c.loop.invariant.room, c.extend_from_slice.ensures.capacity);
      moved = omega (arith, c.loop.invariant.moved, some, ap length taken, length-append (g.R.AsyncBufRead.taken c.loop.reader) more);
      stays = search rules;
      kept = λ fact held. c.poll_fill_buf.ensures.kept fact (c.loop.invariant.kept fact held);
    }
