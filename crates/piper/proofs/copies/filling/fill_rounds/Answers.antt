-- The rounds end with what was published so far, or with a round that the close lost.
use Rattle.std.proofs.Common.{Ok, ap, rules, refl, ◌∙◌, inr, arith}
use Rattle.piper_ring.specs.SlotsView.{SlotsView}
use Rattle.piper_ring.specs.WriteView.{WriteView}
use Rattle.piper.proofs.Calling.{calls_then}
use Rattle.piper.proofs.Rounds.{round_in}
use Rattle.piper.proofs.RoundsIn.{fill_ended, fill_closed, fill_failed, filled_more}
use Rattle.piper.proofs.copies.filling.fill_rounds.Goals as goal

pub returns-then-asks-eq0-clause-filled : goal.returns-then-asks-eq0-clause-filled
returns-then-asks-eq0-clause-filled g c =
    let before = c.rounds.invariant in
    rw c.note.ensures.end (fill_ended _ g.met.R.ReadLike.gives_in_order _ _ _ _ _ _ _ before.filled
    refl _ _
    (g.met.R.ReadLike.gives_nothing c.rounds.source) (inr (c.asks-asks.ensures.dry c.if-asks-eq0.true))
    (λ full. omega (arith, before.total, c.requires.some.0, full)))

pub returns-then-load_closed-clause-filled : goal.returns-then-load_closed-clause-filled
returns-then-load_closed-clause-filled g c =
    let before = c.rounds.invariant in
    let round = c.fill_round.ensures in
    fill_closed _ g.met.R.ReadLike.gives_in_order _ _ _ _ _ _ _ before.filled round.end _ _ _ _
    _ c.in-Ok.ensures.bound c.in-Ok.ensures.most c.in-Ok.ensures.bytes (ap (λ (w : WriteView). w.saw) round.end ∙ before.open_yet) c.load_closed.ensures.side.end c.if-load_closed.true

pub returns-in-Err-clause-filled : goal.returns-in-Err-clause-filled
returns-in-Err-clause-filled g c =
    fill_failed _ g.met.R.ReadLike.gives_in_order _ _ _ _ _ _ _ c.rounds.invariant.filled
    c.fill_round.ensures.end _ _ _ c.in-Err.ensures.bytes c.in-Err.ensures.error

pub returns-then-n-eq0-clause-filled : goal.returns-then-n-eq0-clause-filled
returns-then-n-eq0-clause-filled g c =
    let before = c.rounds.invariant in
    let round = c.fill_round.ensures in
    fill_ended _ g.met.R.ReadLike.gives_in_order _ _ _ _ _ _ _ before.filled round.end _ _
    (rw c.if-n-eq0.true at c.in-Ok.ensures.bytes) (c.in-Ok.ensures.dry (ap Ok c.if-n-eq0.true))
    (λ full. omega (arith, before.total, c.requires.some.0, full, ap (λ (w : WriteView). w.room) round.end))

pub rounds-preserved : goal.rounds-preserved
rounds-preserved g c =
    let before = c.rounds.invariant in record {
      ran = round_in _ _ c.in-Ok.n _ _ _ _ _ _ _ _ before.ran c.in-Ok.ensures.log (search rules) c.load_closed.ensures.side.log (search rules) c.store_tail.ensures.side.log c.wake_other.ensures.log;
      filled = filled_more _ g.met.R.ReadLike.gives_in_order _ _ _ _ _ _ _ before.filled c.fill_round.ensures.end _ _ _ _ c.in-Ok.ensures.bound c.in-Ok.ensures.bytes
          (ap (λ (w : WriteView). w.saw) c.fill_round.ensures.end ∙ before.open_yet) c.load_closed.ensures.side.end c.store_tail.ensures.room (c.wake_other.ensures.rest.0 ∙ c.store_tail.ensures.side.end);
      total = search rules;
      open_yet = search rules;
      failures = search rules;
      rest = search rules;
      called = calls_then c.args.side.now.slots c.rounds.side.slots c.wake_other.new.side.slots (ap (λ (s : SlotsView). s.names) before.rest.0) before.called
          (rw (c.store_tail.ensures.side.slots, c.load_closed.ensures.side.slots, c.fill_round.ensures.rest.0) at c.wake_other.ensures.called);
      notifies = search rules;
    }
