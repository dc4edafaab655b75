-- A writer that waits still waits once it has taken back what it lent.
use Rattle.std.proofs.Common.{◌≡◌, ℕ, [], Result, Ok, Err}
use Rattle.futures.specs.declared.task.context.Context.{Context}
use Rattle.futures.specs.declared.task.Poll.{Poll}
use Rattle.futures.specs.declared.task.Poll.TheVariants.{Ready, Pending}
use Rattle.futures.specs.Poll.{OnPending}
use Rattle.piper.specs.declared.handles.Writer.{Writer}
use Rattle.piper.specs.Handles.{SameWriter}
use Rattle.piper.specs.Waits.{WriterWaits}
use Rattle.piper.specs.WriterCalls.{FillDraws, FillPends, FillsWaiting}
use Rattle.piper.specs.declared.error.CopyError.{CopyError}
use Rattle.piper.specs.declared.error.CopyError.TheVariants.{Memory, Like}

draws : {E : Type 0} (r : Poll (Result ℕ (CopyError E))) (a b d : Writer) → d.side.end ≡ record b.side.end { lent = [] } → SameWriter (λ s t. t ≡ s) b d → FillDraws r a b → FillDraws r a d
draws (Ready (Ok n)) a b d end rest h = rw (rest.rng, end) h
draws (Ready (Err Memory)) a b d end rest h = rw rest.rng h
draws (Ready (Err (Like e))) a b d end rest h = rw rest.rng h
draws Pending a b d end rest h = rw (rest.rng, end) h

still : (a b d : Writer) (old left : Context) → d.side.end ≡ record b.side.end { lent = [] } → d.side.slots ≡ b.side.slots → WriterWaits a.side.slots b.side.end b.side.slots old left → WriterWaits a.side.slots d.side.end d.side.slots old left
still a b d old left end registrations w = record {
  ticket = rw registrations w.ticket;
  pending = record {
    registered = rw registrations w.pending.registered;
    none = rw end w.pending.none;
    stays_open = rw end w.pending.stays_open;
    looked = rw (registrations, end) w.pending.looked;
    goes_on = rw registrations w.pending.goes_on;
  };
  task = rw registrations w.task;
}

pending : {A : Type 0} (r : Poll A) (a b d : Writer) (old left : Context) → d.side.end ≡ record b.side.end { lent = [] } → SameWriter (λ s t. t ≡ s) b d
    → OnPending r (FillPends a b old left) → OnPending r (FillPends a d old left)
pending (Ready x) a b d old left end rest h = tt
pending Pending a b d old left end rest h = record {
  yields = rw end h.yields;
  covered = h.covered;
  waits = λ none. still a b d old left end rest.slots (h.waits (rw end at none));
}

-- and the whole fill waits as it did
pub stays_waiting : {E : Type 0} (r : Poll (Result ℕ (CopyError E))) (a b d : Writer) (old left : Context) → d.side.end ≡ record b.side.end { lent = [] } → SameWriter (λ s t. t ≡ s) b d
    → FillsWaiting r a b old left → FillsWaiting r a d old left
stays_waiting r a b d old left end rest h = record {
  draws = draws r a b d end rest h.draws;
  pending = pending r a b d old left end rest h.pending;
  memory = rw (rest.slots, end) h.memory;
  context = h.context;
}
