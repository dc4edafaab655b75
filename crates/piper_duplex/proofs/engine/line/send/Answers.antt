use Rattle.piper_lines.proofs.Sending.{sends_none, sends_then}
use Rattle.piper_duplex.proofs.engine.line.send.Goals as goal

pub returns-in_err-turns-clause-sends : goal.returns-in_err-turns-clause-sends
returns-in_err-turns-clause-sends g c = sends_none _ _ _ _

pub loop-init : goal.loop-init
loop-init g c = (tt, tt, c.requires, sends_none _ _ _ _, λ seen. seen)

pub loop-preserved : goal.loop-preserved
loop-preserved g c =
    let sent = c.send_in_turn.ensures in
    (tt, tt, sent.within, sends_then _ _ _ _ _ _ _ _ _ c.loop.invariant.3 sent.sends c.loop.invariant.4 sent.stays, λ seen. sent.stays (c.loop.invariant.4 seen))

pub returns-in-Ready-clause-sends : goal.returns-in-Ready-clause-sends
returns-in-Ready-clause-sends g c = sends_then _ _ _ _ _ _ _ _ _ c.loop.invariant.3 c.send_in_turn.ensures.sends c.loop.invariant.4 c.send_in_turn.ensures.stays
