-- A side that was granted a waker, and then found nothing to do, is pending.
use Rattle.std.proofs.Common.{◌≡◌, ℕ, ◌+◌, ◌≤◌, ◌++◌, Bool, true, false, true≢false, length, refl, sym, ap, ◌∙◌, append-nil, arith}
use Rattle.futures.specs.Task.{Covers}
use Rattle.futures.specs.declared.task.context.Context.{Context}
use Rattle.piper_ring.specs.Looks.{IfNotReady, ReaderSees, WriterSees}
use Rattle.piper_ring.specs.ReadView.{ReadView}
use Rattle.piper_ring.specs.SlotsView.{Registers, SlotsView}
use Rattle.piper_ring.specs.WriteView.{WriteView}
use Rattle.piper_ring.specs.declared.ends.slots.looks.Look.{Look}
use Rattle.piper_ring.specs.declared.ends.slots.looks.Look.TheVariants as look
use Rattle.piper.specs.Called.{RegistersTask}
use Rattle.piper.specs.Waits.{ReaderPendsAt, WriterPendsAt}

pub not_set : (a b : Bool) → (a ≡ true → b ≡ true) → b ≡ false → a ≡ false
not_set false b set none = refl
not_set true b set none = absurd (true≢false (sym (set refl) ∙ none))

pub reader_pends : (found : Look) (source : ℕ) (a : SlotsView) (r : ReadView) (b slots : SlotsView) (old left : Context)
    → ReaderSees found r → b ≡ slots → Covers left (λ s. s ≡ source)
    → length slots.heard.bytes ≤ length (r.taken ++ r.known)
    → (slots.heard.closed ≡ true → r.saw ≡ true)
    → Registers a slots × RegistersTask a slots old left → IfNotReady found (ReaderPendsAt source a r b old left)
reader_pends look.Ready source a r b slots old left sees same covered heard closed granted = tt
reader_pends look.Closed source a r b slots old left sees same covered heard closed granted = tt
reader_pends look.NotReady source a r b slots old left sees same covered heard closed granted = record {
  nothing = sees;
  covered = covered;
  waits = record {
    ticket = rw same (ap (λ (s : SlotsView). s.tickets) granted.0);
    pending = rw same (record {
      registered = ap (λ (s : SlotsView). s.waits) granted.0;
      none = sees.known;
      stays_open = sees.saw;
      looked = omega (arith, heard, ap length (ap (λ xs. r.taken ++ xs) sees.known ∙ append-nil r.taken));
      goes_on = not_set slots.heard.closed r.saw closed sees.saw;
    });
    task = rw same granted.1;
  };
}

pub writer_pends : (found : Look) (source : ℕ) (a : SlotsView) (w : WriteView) (b slots : SlotsView) (old left : Context)
    → WriterSees found w → b ≡ slots → Covers left (λ s. s ≡ source)
    → slots.heard.count + w.capacity ≤ length w.sent + w.room
    → IfNotReady found (slots.heard.closed ≡ false)
    → Registers a slots × RegistersTask a slots old left → IfNotReady found (WriterPendsAt source a w b old left)
writer_pends look.Ready source a w b slots old left sees same covered heard closed granted = tt
writer_pends look.Closed source a w b slots old left sees same covered heard closed granted = tt
writer_pends look.NotReady source a w b slots old left sees same covered heard closed granted = record {
  covered = covered;
  waits = record {
    ticket = rw same (ap (λ (s : SlotsView). s.tickets) granted.0);
    pending = rw same (record {
      registered = ap (λ (s : SlotsView). s.waits) granted.0;
      none = sees.0;
      stays_open = sees.2;
      looked = omega (arith, heard, sees.0);
      goes_on = closed;
    });
    task = rw same granted.1;
  };
}
