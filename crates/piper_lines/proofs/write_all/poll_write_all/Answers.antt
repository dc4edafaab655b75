use Rattle.std.proofs.Common.{rules, ◌≡◌, ◌-◌, List, ℕ, take, drop, length, true, subst, arith, length-drop}
use Rattle.std.proofs.lemmas.List.{drop-drop, take_all}
use Rattle.piper_lines.specs.Sends.{Sends}
use Rattle.piper_lines.proofs.Sending.{sends_none, sends_more}
use Rattle.piper_lines.proofs.write_all.poll_write_all.Goals as goal

pub loop-written-init : goal.loop-written-init
loop-written-init g c = record {
  within = search rules;
  sends = sends_none (drop c.args.written.now c.args.bytes.now) (g.W.AsyncWrite.sent c.args.writer.now) _ _;
  stays = (λ seen. seen, λ woken. woken);
  kept = λ fact held. held;
}

pub loop-written-preserved : goal.loop-written-preserved
loop-written-preserved g c =
    let n : ℕ = c.in-Ready-Ok.n in
    let left : List ℕ = drop c.loop-written.written c.args.bytes.now in
    let lent : take (length c.args.bytes.now - c.loop-written.written) left ≡ left = take_all _ left (omega (arith, length-drop c.loop-written.written c.args.bytes.now)) in
    let written = rw lent at (rw c.in-Ready-Ok.field-0-is at c.in-Ready-Ok.ensures.written) in
    let unseen : ¬ (g.W.AsyncWrite.saw c.loop-written.writer ≡ true) = λ saw.
    let over = (c.poll_write.ensures.over saw).0 in
    let none : n ≡ 0 = cc in c.in-Ready-Ok.n-test.1 none in
    let sends = sends_more _ left _ _ _ written.1.0 n _ _ _ c.loop-written.invariant.sends c.loop-written.invariant.stays.0 unseen written.1.1 written.1.2 written.1.3 in
    record {
      within = omega (arith, written.0, length-drop c.loop-written.written c.args.bytes.now);
      sends = subst (λ ws. Sends (drop c.args.written.now c.args.bytes.now) ws (g.W.AsyncWrite.sent c.args.writer.now) (g.W.AsyncWrite.sent c.poll_write.new.self) (g.W.AsyncWrite.saw c.args.writer.now) (g.W.AsyncWrite.saw c.poll_write.new.self)) (drop-drop n c.loop-written.written c.args.bytes.now) sends;
      stays = (λ seen. (c.poll_write.ensures.over (c.loop-written.invariant.stays.0 seen)).1, λ woken. c.poll_write.ensures.woken (c.loop-written.invariant.stays.1 woken));
      kept = λ fact held. c.poll_write.ensures.kept fact (c.loop-written.invariant.kept fact held);
    }
