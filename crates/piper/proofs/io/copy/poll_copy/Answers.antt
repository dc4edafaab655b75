use Rattle.std.proofs.Common.{rules, ◌≡◌, ◌++◌, List, ℕ, take, length, length-append, length-take, true, refl, ap, arith}
use Rattle.std.proofs.lemmas.Grind.{common_steps}
use Rattle.piper.proofs.Carrying.{carries_none, carries_more}
use Rattle.piper.proofs.io.copy.poll_copy.Goals as goal

pub loop-init : goal.loop-init
loop-init g c = record {
  carried = carries_none (g.R.AsyncBufRead.taken c.args.reader.now) (g.W.AsyncWrite.sent c.args.writer.now) (g.W.AsyncWrite.saw c.args.writer.now);
  over = λ _. (refl, refl);
  stays = λ seen. seen;
  knows_end = refl;
  reader_woken = λ woken. woken;
  writer_woken = λ woken. woken;
  moved = omega arith;
  kept = λ fact held. held;
}

pub loop-preserved : goal.loop-preserved
loop-preserved g c =
    let n : ℕ = c.in-Ready-Ok-poll_write.n in
    let piece : List ℕ = c.in-Ready-Ok.piece.now in
    let written = rw c.in-Ready-Ok-poll_write.field-0-is at c.in-Ready-Ok-poll_write.ensures.written in
    let unseen : ¬ (g.W.AsyncWrite.saw c.loop.writer ≡ true) = λ saw.
    let over = (c.poll_write.ensures.over saw).0 in
    let none : n ≡ 0 = cc in c.in-Ready-Ok-poll_write.n-test.1 none in
    let taken : g.R.AsyncBufRead.taken c.consume.new.self ≡ g.R.AsyncBufRead.taken c.loop.reader ++ take n piece = grind (arith, common_steps) in
    record {
      carried = carries_more _ _ _ _ _ _ piece written.1.0 n _ _ c.loop.invariant.carried unseen taken written.1.1 written.1.2 written.1.3;
      over = λ seen. absurd (unseen (c.loop.invariant.stays seen));
      stays = λ seen. absurd (unseen (c.loop.invariant.stays seen));
      knows_end = search rules;
      reader_woken = search rules;
      writer_woken = search rules;
      moved = omega (arith, c.loop.invariant.moved, ap length taken, length-append (g.R.AsyncBufRead.taken c.loop.reader) (take n piece), length-take n piece, written.0, c.in-Ready-Ok-poll_write.n-test.1);
      kept = search rules;
    }
