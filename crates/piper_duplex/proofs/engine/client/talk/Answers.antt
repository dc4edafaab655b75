use Rattle.std.proofs.Common.{ap, rules, take}
use Rattle.piper_duplex.proofs.Talking.{prints_none, prints_then, sent_all, sent_none, sent_then}
use Rattle.piper_duplex.proofs.engine.client.talk.Goals as goal

pub loop-init : goal.loop-init
loop-init g c = (tt, tt, (c.new-line.ensures.whole, c.requires), sent_none _ _ _ _ _ c.new-line.ensures.sent, λ seen. seen, prints_none _ _)

pub loop-preserved : goal.loop-preserved
loop-preserved g c =
    let lines = c.in_ok-send_lines.ensures in (
      tt,
      tt,
      (lines.next, lines.flushed),
      sent_then _ _ _ _ _ _ _ _ _ _ _ _ _ _ _ _ c.loop.invariant.3 c.in_ok-count.ensures.read.0 lines.sent.2 c.loop.invariant.4 lines.stays (lines.sent.1, lines.all),
      λ seen. lines.stays (c.loop.invariant.4 seen),
      prints_then _ _ _ _ _ _ c.loop.invariant.5 lines.printed,
    )

pub returns-in_err-send_lines-clause-sent : goal.returns-in_err-send_lines-clause-sent
returns-in_err-send_lines-clause-sent g c =
    let lines = c.in_err-send_lines.ensures in
    sent_then _ _ _ _ _ _ _ _ _ _ _ _ _ _ _ _ c.loop.invariant.3 c.in_ok-count.ensures.read.0 lines.sent.2 c.loop.invariant.4 lines.stays (search rules)

pub returns-then-count-eq0-clause-sent : goal.returns-then-count-eq0-clause-sent
returns-then-count-eq0-clause-sent g c =
    let none = ap (λ n. take n c.read_some.new.place) c.if-count-eq0.true in
    sent_all _ _ _ _ _ _ _ _ _ _ _ _ c.loop.invariant.3 c.in_ok-count.ensures.read.0 none c.sent.ensures
