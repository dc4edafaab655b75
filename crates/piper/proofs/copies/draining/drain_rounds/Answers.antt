-- One more round was made, and whom it took was called.
use Rattle.std.proofs.Common.{ap, rules, ◌∙◌}
use Rattle.piper_ring.specs.SlotsView.{SlotsView}
use Rattle.piper.proofs.Calling.{calls_then}
use Rattle.piper.proofs.Rounds.{round_out}
use Rattle.piper.proofs.RoundsOut.{drained_more}
use Rattle.piper.proofs.copies.draining.drain_rounds.Goals as goal

pub rounds-preserved : goal.rounds-preserved
rounds-preserved g c =
    let before = c.rounds.invariant in record {
      ran = round_out _ _ c.in-Ok.n _ _ _ _ _ _ before.ran c.in-Ok.ensures.log (search rules) c.store_head.ensures.log c.wake_other.ensures.log;
      drained = drained_more _ g.met.W.WriteLike.takes_in_order _ _ _ _ _ _ before.drained _ c.in-Ok.n c.in-Ok.ensures.bound c.in-Ok.ensures.bytes
          (rw c.drain_round.ensures.end at (c.wake_other.ensures.rest.0 ∙ c.store_head.ensures.end));
      failures = search rules;
      rest = search rules;
      called = calls_then c.args.side.now.slots c.rounds.side.slots c.wake_other.new.side.slots (ap (λ (s : SlotsView). s.names) before.rest.0) before.called
          (rw (c.store_head.ensures.slots, c.drain_round.ensures.rest.0) at c.wake_other.ensures.called);
      notifies = search rules;
    }
