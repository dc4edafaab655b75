-- A copy of a slice is a read or a write of the traits, whose error is want of memory.
use Rattle.std.proofs.Common.{◌≡◌, ◌⊎◌, ℕ, zero, suc, ◌<◌, List, true, false, true≢false, Result, Ok, Err, ap, sym, refl, ◌∙◌, inl, inr, ⊎_elim, arith}
use Rattle.futures.specs.Poll.{OnPending}
use Rattle.futures.specs.Task.{Covers}
use Rattle.futures.specs.declared.task.context.Context.{Context}
use Rattle.futures.specs.declared.task.Poll.{Poll}
use Rattle.futures.specs.declared.task.Poll.TheVariants.{Ready, Pending}
use Rattle.piper_protocol.specs.declared.memory.OutOfMemory.{OutOfMemory}
use Rattle.piper_protocol.specs.declared.table.Form.TheVariants.{Polling}
use Rattle.piper_ring.specs.ReadView.{ReadView}
use Rattle.piper.specs.Contexts.{AsksAgain}
use Rattle.piper.specs.CopyAnswers.{of_bytes}
use Rattle.piper.specs.Drains.{found_len}
use Rattle.piper.specs.Handles.{read_source, write_source}
use Rattle.piper.specs.ReaderCalls.{DrainPends, DrainRest, DrainsSlice, DrainsWaiting, ReadsAsDrain, SameReaderButMoved}
use Rattle.piper.specs.Runs.{DrainRan, FillRan}
use Rattle.piper.specs.Traits.{as_pipe}
use Rattle.piper.specs.Waits.{ReaderIsWaiting, WriterIsWaiting}
use Rattle.piper.specs.WriterCalls.{FillPends, FillRest, FillsSlice, FillsWaiting, SameWriterButMoved, WritesAsFill}
use Rattle.piper.specs.declared.handles.Reader.{Reader}
use Rattle.piper.specs.declared.handles.Writer.{Writer}

pub reads : (r : Poll (Result ℕ OutOfMemory)) (a b : Reader) (old new : List ℕ) (cx left : Context)
    → DrainRan (Polling false) (of_bytes r) a b → DrainsSlice r a b old new
    → DrainsWaiting (of_bytes r) a b cx left → DrainRest (of_bytes r) a b
    → ReadsAsDrain a b (as_pipe r) old new cx left
reads (Ready (Ok n)) a b old new cx left ran drained waits rest = record {
  drained = drained;
  end = record { end = rest.end.end; after = rest.end.after; all = rest.end.all };
  draws = record { word = waits.draws.word; yields = waits.draws.yields; none = waits.draws.none };
  pending = waits.pending;
  refused = waits.memory;
  woken = rest.woken;
  rest = rest.same;
  ran = ran;
}
reads (Ready (Err e)) a b old new cx left ran drained waits rest = record {
  drained = drained;
  end = record { end = rest.end.end; after = rest.end.after; all = rest.end.all };
  draws = record { word = waits.draws.word; yields = waits.draws.yields; none = waits.draws.none };
  pending = waits.pending;
  refused = waits.memory;
  woken = rest.woken;
  rest = rest.same;
  ran = ran;
}
reads Pending a b old new cx left ran drained waits rest = record {
  drained = drained;
  end = record { end = rest.end.end; after = rest.end.after; all = rest.end.all };
  draws = record { word = waits.draws.word; yields = waits.draws.yields; none = waits.draws.none };
  pending = waits.pending;
  refused = waits.memory;
  woken = rest.woken;
  rest = rest.same;
  ran = ran;
}

pub writes : (r : Poll (Result ℕ OutOfMemory)) (a b : Writer) (bytes : List ℕ) (cx left : Context)
    → FillRan (Polling false) (of_bytes r) a b → FillsSlice r a b bytes
    → FillsWaiting (of_bytes r) a b cx left → FillRest (of_bytes r) a b
    → WritesAsFill a b (as_pipe r) bytes cx left
writes (Ready (Ok n)) a b bytes cx left ran filled waits rest = record {
  filled = filled;
  end = record { over = λ saw. ap as_pipe (rest.end.over saw); unseen = rest.end.unseen };
  draws = record { word = waits.draws.word; yields = waits.draws.yields; none = waits.draws.none };
  pending = waits.pending;
  refused = waits.memory;
  woken = rest.woken;
  rest = rest.same;
  ran = ran;
}
writes (Ready (Err e)) a b bytes cx left ran filled waits rest = record {
  filled = filled;
  end = record { over = λ saw. ap as_pipe (rest.end.over saw); unseen = rest.end.unseen };
  draws = record { word = waits.draws.word; yields = waits.draws.yields; none = waits.draws.none };
  pending = waits.pending;
  refused = waits.memory;
  woken = rest.woken;
  rest = rest.same;
  ran = ran;
}
writes Pending a b bytes cx left ran filled waits rest = record {
  filled = filled;
  end = record { over = λ saw. ap as_pipe (rest.end.over saw); unseen = rest.end.unseen };
  draws = record { word = waits.draws.word; yields = waits.draws.yields; none = waits.draws.none };
  pending = waits.pending;
  refused = waits.memory;
  woken = rest.woken;
  rest = rest.same;
  ran = ran;
}

-- a copy that is pending waits, or asked for another poll

none_or_some : (n : ℕ) → (n ≡ 0) ⊎ (0 < n)
none_or_some zero = inl refl
none_or_some (suc n) = inr (omega arith)

reads_on : (a b : Reader) (cx left : Context) → SameReaderButMoved a b → DrainPends a b cx left
    → Covers left (λ s. s ≡ read_source b) × (a.side.end.observed_shut ≡ true → AsksAgain left)
    × ReaderIsWaiting b left
reads_on a b cx left same h =
    let found = none_or_some (found_len a.side.end b.side.end) in
    (rw same.source h.covered, λ told. ⊎_elim (λ none. absurd (true≢false (sym told ∙ sym (ap (λ (v : ReadView). v.observed_shut) same.end.rest) ∙ (h.unseen none).1))) h.yields found, ⊎_elim (λ none. inl (h.waits none).pending) (λ some. inr (h.yields some)) found)

pub read_waits : (r : Poll (Result ℕ OutOfMemory)) (a b : Reader) (cx left : Context) → SameReaderButMoved a b
    → OnPending (of_bytes r) (DrainPends a b cx left)
    → OnPending (as_pipe r) (Covers left (λ s. s ≡ read_source b) × (a.side.end.observed_shut ≡ true → AsksAgain left) × ReaderIsWaiting b left)
read_waits (Ready (Ok n)) a b cx left same h = tt
read_waits (Ready (Err e)) a b cx left same h = tt
read_waits Pending a b cx left same h = reads_on a b cx left same h

writes_on : (a b : Writer) (cx left : Context) → SameWriterButMoved a b → FillPends a b cx left
    → Covers left (λ s. s ≡ write_source b) × WriterIsWaiting b left
writes_on a b cx left same h =
    (rw same.source h.covered, ⊎_elim (λ none. inl (h.waits none).pending) (λ some. inr (h.yields some)) (none_or_some b.side.end.room))

pub write_waits : (r : Poll (Result ℕ OutOfMemory)) (a b : Writer) (cx left : Context) → SameWriterButMoved a b
    → OnPending (of_bytes r) (FillPends a b cx left)
    → OnPending (as_pipe r) (Covers left (λ s. s ≡ write_source b) × WriterIsWaiting b left)
write_waits (Ready (Ok n)) a b cx left same h = tt
write_waits (Ready (Err e)) a b cx left same h = tt
write_waits Pending a b cx left same h = writes_on a b cx left same h
