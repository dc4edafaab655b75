-- What a fill from a reader of std gives.
use Rattle.std.specs.Prelude.{◌≡◌, ◌<◌, ◌⊎◌, ℕ, length, Bool, true, false, List, [], ◌++◌, Option, Some, IsSomeAnd, Result, Ok, Err}
use Rattle.std.specs.Io.KnownBytes.{Consumes, IsAtEnd}
use Rattle.futures.specs.Poll.{OnPending}
use Rattle.futures.specs.declared.task.context.Context.{Context}
use Rattle.futures.specs.declared.task.Poll.{Poll}
use Rattle.piper.specs.Contexts.{AsksAgain}
use Rattle.piper.specs.Draws.{DrawsYield}
use Rattle.piper.specs.WriterCalls.{FillPends, SameWriterButMoved}
use Rattle.piper.specs.declared.handles.Writer.{Writer}
use Rattle.piper.specs.declared.error.PipeError.{PipeError}
use Rattle.piper.specs.declared.io.copy.Copied.{Copied}
use Rattle.piper.specs.declared.io.copy.Copied.TheVariants.{ToTheEnd, UntilClosed}
use Rattle.piper_futures.specs.Moving.{IsIo}
use Rattle.piper_futures.specs.Writing.{FailsOnce}
use Rattle.piper_futures.specs.declared.failed.Failed.{Failed}
use Rattle.piper_futures.specs.declared.fill.Filling.{Filling}

-- it is about to move from the source to the writer
abbrev pub StartsFilling : {W S : Type 0} → Filling W S → W → S → Type 0
StartsFilling future writer source = future.state ≡ Some (writer, source)

-- the writer and the source that the future holds
abbrev pub fill_ends : {W S : Type 0} → Filling W S → Option (W × S)
fill_ends future = future.state

-- why a fill is pending: its writer is; or bytes came, which are published unless the pipe was seen
-- closed meanwhile, and it asked for another poll itself. A pipe that was seen closed before is not
-- waited for
abbrev pub FillWaits : {W : Type 0} → (W → List ℕ) → (W → Bool) → (W → Context → Type 0)
    → W → W → Context → Type 0
FillWaits sent saw waits a b cx =
    (waits b cx
    ⊎ (((length (sent a) < length (sent b)) ⊎ (saw b ≡ true)) × AsksAgain cx))
    × ¬ (saw a ≡ true)

-- a fill through a handle leaves it the same, and doesn't close the pipe itself. Where it is
-- pending it published bytes, or saw the pipe closed meanwhile; or it waits as `poll_fill` does,
-- and where there is room its generator drew a yield
pub record FillsHandle {A : Type 0} (r : Poll A) (a b : Writer) (old left : Context) : Type 0 where
  pub same : SameWriterButMoved a b
  pub pends : OnPending r
      (((length a.side.end.sent < length b.side.end.sent) ⊎ (b.side.end.saw ≡ true))
      ⊎ (FillPends a b old left × (0 < b.side.end.room → DrawsYield a.rng)))

-- the front of what the source gave was published, and all of it unless the pipe
-- was seen closed; where it was seen closed before, the source gave none
abbrev pub FillsOn : Option (List ℕ) → Option (List ℕ) → List ℕ → List ℕ → Bool → Bool → Type 0
FillsOn left_before left_after sent_before sent_after saw_before saw_after =
    (front : List ℕ) × (lost : List ℕ) × Consumes left_before left_after (front ++ lost)
    × (sent_after ≡ sent_before ++ front) × (saw_after ≡ false → lost ≡ [])
    × (saw_before ≡ true → front ++ lost ≡ []) × (saw_before ≡ true → saw_after ≡ true)

module _ {W S : Type 0} (sent : W → List ℕ) (saw : W → Bool) (woken : W → Type 0)
    (fails : W → Context → PipeError → Type 0) (remaining : S → Option (List ℕ)) where
  -- why it ended holds of the ends that come back
  abbrev pub FillEnded : W → S → Copied → Type 0
  FillEnded w s ToTheEnd = IsAtEnd (remaining s)
  FillEnded w s UntilClosed = saw w ≡ true

  -- all was moved into the pipe; or the writer wanted memory, or the source failed
  abbrev pub FilledAll : W → S → Result (W × S × Copied) (Failed (W × S)) → Type 0
  FilledAll w s (Ok done) =
      FillsOn (remaining s) (remaining done.1) (sent w) (sent done.0) (saw w) (saw done.0)
      × FillEnded done.0 done.1 done.2 × (woken w → woken done.0)
  FilledAll w s (Err failed) =
      FillsOn (remaining s) (remaining failed.left.1) (sent w) (sent failed.left.0)
      (saw w) (saw failed.left.0)
      × (FailsOnce fails failed.left.0 failed.error ⊎ IsIo failed.error)
      × (woken w → woken failed.left.0)

  -- what the future may give, of the ends that it holds
  abbrev pub GivesFilled : Filling W S → Result (W × S × Copied) (Failed (W × S)) → Type 0
  GivesFilled future output = IsSomeAnd future.state (λ state. FilledAll state.0 state.1 output)
