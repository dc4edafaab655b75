-- What earlier turns read and wrote, and what the last one does.
use Rattle.std.proofs.Common.{◌<◌, ◌∙◌, ℕ, ap, sym, subst}
use Rattle.piper.specs.WriteView.{WriteView}
use Rattle.piper_transfer.proofs.Sides.{fed_none, fed_more, fed_still, poured_none, poured_more}
use Rattle.piper_transfer.proofs.one_thread.take_turns.Goals as goal

pub loop-init : goal.loop-init
loop-init g c = (tt, tt, fed_none _ _, c.requires.is_open, poured_none _ _ _ _, c.requires.pair, c.requires.some)

pub returns-in_err-pass_on-in-Ok-eq0-clause-fed : goal.returns-in_err-pass_on-in-Ok-eq0-clause-fed
returns-in_err-pass_on-in-Ok-eq0-clause-fed g c =
    fed_still _ _ _ _ _ (fed_more _ _ _ _ _ _ (fed_still _ _ _ _ _ c.loop.invariant.2 c.pass_on_from.ensures.writer) c.read_chunk.ensures.fed) c.pass_on.ensures.writer

pub returns-in_err-pass_on-in-Ok-eq0-clause-poured : goal.returns-in_err-pass_on-in-Ok-eq0-clause-poured
returns-in_err-pass_on-in-Ok-eq0-clause-poured g c =
    poured_more _ _ _ _ _ _ _ _ (poured_more _ _ _ _ _ _ _ _ c.loop.invariant.4 c.pass_on_from.ensures.poured) c.pass_on.ensures.poured

pub returns-in_err-pass_on-in-Err-Failed-clause-fed : goal.returns-in_err-pass_on-in-Err-Failed-clause-fed
returns-in_err-pass_on-in-Err-Failed-clause-fed g c =
    fed_still _ _ _ _ _ (fed_more _ _ _ _ _ _ (fed_still _ _ _ _ _ c.loop.invariant.2 c.pass_on_from.ensures.writer) c.read_chunk.ensures.fed) c.pass_on-in-Err-Failed.ensures.writer

pub returns-in_err-pass_on-in-Err-Failed-clause-poured : goal.returns-in_err-pass_on-in-Err-Failed-clause-poured
returns-in_err-pass_on-in-Err-Failed-clause-poured g c =
    poured_more _ _ _ _ _ _ _ _ (poured_more _ _ _ _ _ _ _ _ c.loop.invariant.4 c.pass_on_from.ensures.poured) c.pass_on-in-Err-Failed.ensures.poured

pub returns-in-Err-Failed-clause-fed : goal.returns-in-Err-Failed-clause-fed
returns-in-Err-Failed-clause-fed g c =
    fed_still _ _ _ _ _ (fed_more _ _ _ _ _ _ (fed_still _ _ _ _ _ c.loop.invariant.2 c.pass_on_from.ensures.writer) c.read_chunk.ensures.fed) c.pass_on-in-Err-Failed.ensures.writer

pub returns-in-Err-Failed-clause-poured : goal.returns-in-Err-Failed-clause-poured
returns-in-Err-Failed-clause-poured g c =
    poured_more _ _ _ _ _ _ _ _ (poured_more _ _ _ _ _ _ _ _ c.loop.invariant.4 c.pass_on_from.ensures.poured) c.pass_on-in-Err-Failed.ensures.poured

pub returns-in-Ok-eq0-clause-fed : goal.returns-in-Ok-eq0-clause-fed
returns-in-Ok-eq0-clause-fed g c =
    fed_still _ _ _ _ _ (fed_more _ _ _ _ _ _ (fed_still _ _ _ _ _ c.loop.invariant.2 c.pass_on_from.ensures.writer) c.read_chunk.ensures.fed) c.pass_on.ensures.writer

pub returns-in-Ok-eq0-clause-poured : goal.returns-in-Ok-eq0-clause-poured
returns-in-Ok-eq0-clause-poured g c =
    poured_more _ _ _ _ _ _ _ _ (poured_more _ _ _ _ _ _ _ _ c.loop.invariant.4 c.pass_on_from.ensures.poured) c.pass_on.ensures.poured

pub loop-preserved : goal.loop-preserved
loop-preserved g c =
    let fed = c.read_chunk.ensures.fed in
    let poured = c.pass_on_from.ensures.poured in (
      tt,
      tt,
      fed_more _ _ _ _ _ _ (fed_still _ _ _ _ _ c.loop.invariant.2 c.pass_on_from.ensures.writer) fed,
      c.read_chunk.ensures.is_open,
      poured_more _ _ _ _ _ _ _ _ c.loop.invariant.4 poured,
      fed.ring ∙ ap (λ (w : WriteView). w.ring) c.pass_on_from.ensures.writer ∙ c.loop.invariant.5 ∙ sym poured.ring,
      subst (λ (k : ℕ). 0 < k) (sym poured.capacity) c.loop.invariant.6,
    )
