-- What the input gave before a look, and what it gives after it.
use Rattle.std.proofs.Common.{ap, ◌∙◌}
use Rattle.piper.specs.WriteView.{WriteView}
use Rattle.piper_transfer.proofs.Sides.{fed_none, fed_same, fed_looked, fed_round}
use Rattle.piper_transfer.proofs.filling.fill_turn.Goals as goal

pub loop-init : goal.loop-init
loop-init g c = (tt, tt, fed_none _ _, c.requires.is_open)

pub returns-then-is_over-clause-fed : goal.returns-then-is_over-clause-fed
returns-then-is_over-clause-fed g c = c.loop.invariant.2

pub returns-in-Pending-clause-fed : goal.returns-in-Pending-clause-fed
returns-in-Pending-clause-fed g c = fed_looked _ _ _ _ _ c.loop.invariant.2 c.poll.ensures.polled.looked

pub returns-in-Ok-false-clause-fed : goal.returns-in-Ok-false-clause-fed
returns-in-Ok-false-clause-fed g c = fed_looked _ _ _ _ _ c.loop.invariant.2 c.poll.ensures.polled.looked

pub returns-in-Err-clause-fed : goal.returns-in-Err-clause-fed
returns-in-Err-clause-fed g c =
    let looked = c.poll.ensures.polled.looked in
    let closed = c.close.ensures in
    fed_same _ _ _ _ _ c.loop.invariant.2 (closed.sent ∙ ap (λ (v : WriteView). v.sent) looked.rest) (closed.ring ∙ ap (λ (v : WriteView). v.ring) looked.rest)

pub returns-in-Ok-eq0-clause-fed : goal.returns-in-Ok-eq0-clause-fed
returns-in-Ok-eq0-clause-fed g c =
    let read = fed_round _ _ _ _ _ _ _ c.loop.invariant.2 c.poll.ensures.polled.looked c.read_chunk.ensures.fed in
    let closed = c.close-in-Ok-eq0.ensures in
    fed_same _ _ _ _ _ read closed.sent closed.ring

pub returns-in-Err-Failed-clause-fed : goal.returns-in-Err-Failed-clause-fed
returns-in-Err-Failed-clause-fed g c =
    let read = fed_round _ _ _ _ _ _ _ c.loop.invariant.2 c.poll.ensures.polled.looked c.read_chunk.ensures.fed in
    let closed = c.close-in-Err-Failed.ensures in
    fed_same _ _ _ _ _ read closed.sent closed.ring

pub returns-in-Err-Told-clause-fed : goal.returns-in-Err-Told-clause-fed
returns-in-Err-Told-clause-fed g c = fed_round _ _ _ _ _ _ _ c.loop.invariant.2 c.poll.ensures.polled.looked c.read_chunk.ensures.fed

pub loop-preserved : goal.loop-preserved
loop-preserved g c =
    (tt, tt, fed_round _ _ _ _ _ _ _ c.loop.invariant.2 c.poll.ensures.polled.looked c.read_chunk.ensures.fed, c.read_chunk.ensures.is_open)
