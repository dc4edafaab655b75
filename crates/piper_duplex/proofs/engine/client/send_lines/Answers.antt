use Rattle.std.proofs.Common.{rules, arith, drop}
use Rattle.piper_lines.proofs.Sending.{sends_none, sends_then}
use Rattle.piper_duplex.proofs.Talking.{prints_none, prints_then}
use Rattle.piper_duplex.proofs.engine.client.send_lines.Goals as goal

pub loop-at-init : goal.loop-at-init
loop-at-init g c = record {
  within = omega arith;
  next = c.requires.next;
  flushed = c.requires.flushed;
  sent = sends_none _ _ _ _;
  stays = λ seen. seen;
  printed = prints_none _ _;
  all = omega arith;
}

pub returns-in_err-send-clause-sent : goal.returns-in_err-send-clause-sent
returns-in_err-send-clause-sent g c =
    (drop c.send.new.at c.args.bytes.now, (search rules), sends_then _ _ _ _ _ _ _ _ _ c.loop-at.invariant.sent c.send.ensures.sends c.loop-at.invariant.stays c.send.ensures.stays)

pub returns-in_err-print-clause-sent : goal.returns-in_err-print-clause-sent
returns-in_err-print-clause-sent g c =
    (drop c.send.new.at c.args.bytes.now, (search rules), sends_then _ _ _ _ _ _ _ _ _ c.loop-at.invariant.sent c.send.ensures.sends c.loop-at.invariant.stays c.send.ensures.stays)

pub loop-at-preserved-in-Continue-branch-2 : goal.loop-at-preserved-in-Continue-branch-2
loop-at-preserved-in-Continue-branch-2 g c = record {
  within = c.send.ensures.within;
  next = c.in_ok-print.ensures.whole;
  flushed = c.in_ok-print.ensures.flushed;
  sent = sends_then _ _ _ _ _ _ _ _ _ c.loop-at.invariant.sent c.send.ensures.sends c.loop-at.invariant.stays c.send.ensures.stays;
  stays = λ seen. c.send.ensures.stays (c.loop-at.invariant.stays seen);
  printed = prints_then _ _ _ _ _ _ c.loop-at.invariant.printed c.print.ensures.printed;
  all = omega (arith, c.loop-at.invariant.all, c.in_ok-send.ensures.counted, c.in_ok-print.ensures.all, c.in_ok-print.ensures.sent);
}

pub loop-at-preserved : goal.loop-at-preserved
loop-at-preserved g c = record {
  within = c.send.ensures.within;
  next = search rules;
  flushed = c.loop-at.invariant.flushed;
  sent = sends_then _ _ _ _ _ _ _ _ _ c.loop-at.invariant.sent c.send.ensures.sends c.loop-at.invariant.stays c.send.ensures.stays;
  stays = λ seen. c.send.ensures.stays (c.loop-at.invariant.stays seen);
  printed = c.loop-at.invariant.printed;
  all = omega (arith, c.loop-at.invariant.all, c.in_ok-send.ensures.counted);
}
