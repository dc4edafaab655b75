-- What the looks of the two handles find and return.
use Rattle.std.specs.Prelude.{◌≡◌, ◌<◌, Bool, true, false, [], length, Result, Ok, Err, ⊤}
use Rattle.futures.specs.declared.task.Poll.{Poll}
use Rattle.futures.specs.declared.task.Poll.TheVariants.{Ready, Pending}
use Rattle.piper_ring.specs.Looks.{IfNotReady, NothingYet, ReaderSees, WriterSees}
pub use Rattle.piper_ring.specs.Looks.{IsEnded, ReaderIsUpToDate, WriterIsUpToDate}
use Rattle.piper_ring.specs.ReadView.{ReadView}
use Rattle.piper_ring.specs.WriteView.{WriteView}
use Rattle.piper_ring.specs.declared.ends.slots.looks.Look.{Look}

-- P holds if a look that may be refused a waker found nothing to do yet
abbrev pub IfPending : {E : Type 0} → Result Look E → Type 0 → Type 0
IfPending (Ok found) P = IfNotReady found P
IfPending (Err e) P = ⊤

-- what a look of the reader finds that may be refused a waker
abbrev pub ReaderWaited : {E : Type 0} → Result Look E → ReadView → Type 0
ReaderWaited (Ok found) r = ReaderSees found r
ReaderWaited (Err e) r = r.known ≡ []

-- what a poll of the reader returns: true with a byte known; false at the end; pending with nothing
-- to do yet
abbrev pub ReaderFound : {E : Type 0} → Poll (Result Bool E) → ReadView → Type 0
ReaderFound (Ready (Ok true)) r = 0 < length r.known
ReaderFound (Ready (Ok false)) r = IsEnded r
ReaderFound (Ready (Err e)) r = r.known ≡ []
ReaderFound Pending r = NothingYet r

-- and one of the writer
abbrev pub WriterWaited : {E : Type 0} → Result Look E → WriteView → Type 0
WriterWaited (Ok found) w = WriterSees found w
WriterWaited (Err e) w = (w.room ≡ 0) × (w.saw ≡ false)

-- what a poll of the writer returns: true with room known and closed not seen; false with closed
-- seen; else no room is known, and closed not seen
abbrev pub WriterFound : {E : Type 0} → Poll (Result Bool E) → WriteView → Type 0
WriterFound (Ready (Ok true)) w = (0 < w.room) × (w.saw ≡ false)
WriterFound (Ready (Ok false)) w = w.saw ≡ true
WriterFound (Ready (Err e)) w = (w.room ≡ 0) × (w.saw ≡ false)
WriterFound Pending w = (w.room ≡ 0) × (w.saw ≡ false)

-- P holds if the call was refused memory
abbrev pub OnRefused : {A E : Type 0} → Poll (Result A E) → Type 0 → Type 0
OnRefused (Ready (Ok x)) P = ⊤
OnRefused (Ready (Err e)) P = P
OnRefused Pending P = ⊤
