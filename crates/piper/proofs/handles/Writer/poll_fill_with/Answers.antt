-- The context of a fill that waits is left as the fill leaves it.
use Rattle.std.proofs.Common.{[], ap, refl}
use Rattle.piper_ring.specs.WriteView.{WriteView}
use Rattle.piper.proofs.StaysRegistered.{stays_waiting}
use Rattle.piper.proofs.handles.Writer.poll_fill_with.Goals as goal

pub returns-clause-waiting : goal.returns-clause-waiting
returns-clause-waiting g c =
    let lent = c.unlend.ensures in
    stays_waiting c.fill_waiting-outcome.result c.args.self.now c.fill_waiting-outcome.new.self _ _ c.fill_waiting-outcome.new.cx lent.end
    (record { cells = lent.cells; source = refl; rng = refl; slots = lent.slots }) c.fill_waiting-outcome.ensures.waiting

pub returns-clause-filled : goal.returns-clause-filled
returns-clause-filled g c =
    let f = c.fill_waiting-outcome.ensures.filled in
    rw c.unlend.ensures.end (
      record {
        published = f.published;
        lost = f.lost;
        sent = f.sent;
        all = f.all;
        last = f.last;
        room = f.room;
        fresh = f.fresh;
        copied = f.copied;
        most = f.most;
        end = record { saw = f.end.saw; rest = ap (λ (w : WriteView). record w { lent = [] }) f.end.rest };
      },
      c.fill_waiting-outcome.ensures.failures,
    )
