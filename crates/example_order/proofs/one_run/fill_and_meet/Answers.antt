-- The handles of a new pipe have not met, nor have they in the fill.
use Rattle.std.proofs.Common.{◌∙◌, ap, refl}
use Rattle.piper_protocol.specs.Told.{have_met}
use Rattle.piper.specs.Handles.{LogsAreNew}
use Rattle.piper.proofs.Clients.{ran_apart}
use Rattle.example_order.proofs.one_run.fill_and_meet.Goals as goal

pub meet_first-requires-clause-first : goal.meet_first-requires-clause-first
unfolding LogsAreNew have_met
meet_first-requires-clause-first c =
    let fresh = c.in_ok-reader.ensures.fresh.1.logs in
    (ap have_met fresh.0, ran_apart _ _ _ _ refl c.try_fill.ensures.ran ∙ ap have_met fresh.1)
