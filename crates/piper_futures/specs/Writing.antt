-- What a future that writes gives.
use Rattle.std.specs.Prelude.{◌≡◌, ℕ, ◌<◌, ◌≤◌, Bool, true, List, drop, length, Option, Some, IsSome, IsSomeAnd, Result, Ok, Err}
use Rattle.futures.specs.declared.task.context.Context.{Context}
use Rattle.piper.specs.declared.error.PipeError.{PipeError}
use Rattle.piper_lines.specs.Sends.{Sends}
use Rattle.piper_lines.specs.Stays.{WriterStays}
use Rattle.piper_futures.specs.declared.failed.Failed.{Failed}
use Rattle.piper_futures.specs.declared.write_end.Closing.{Closing}
use Rattle.piper_futures.specs.declared.write_end.Flushing.{Flushing}
use Rattle.piper_futures.specs.declared.write_and_close.WriteAllAndClose.{WriteAllAndClose}
use Rattle.piper_futures.specs.declared.write_whole.WriteAll.{WriteAll}

-- it is about to write these bytes to the writer
abbrev pub StartsWriting : {W : Type 0} → WriteAll W → W → List ℕ → Type 0
StartsWriting future writer bytes =
    (future.writer ≡ Some writer) × (future.bytes.now ≡ bytes) × (future.written ≡ 0)

-- the same, and to close it then
abbrev pub StartsWritingToClose : {W : Type 0} → WriteAllAndClose W → W → List ℕ → Type 0
StartsWritingToClose future writer bytes =
    (future.writer ≡ Some writer) × (future.bytes.now ≡ bytes) × (future.written ≡ 0)

-- it is about to flush the writer
abbrev pub StartsFlushing : {W : Type 0} → Flushing W → W → Type 0
StartsFlushing future writer = future.writer ≡ Some writer

-- it is about to close it
abbrev pub StartsClosing : {W : Type 0} → Closing W → W → Type 0
StartsClosing future writer = future.writer ≡ Some writer

-- the writer that a future holds
abbrev pub write_end : {W : Type 0} → WriteAll W → Option W
write_end future = future.writer

abbrev pub closing_writer : {W : Type 0} → WriteAllAndClose W → Option W
closing_writer future = future.writer

abbrev pub flush_end : {W : Type 0} → Flushing W → Option W
flush_end future = future.writer

abbrev pub close_end : {W : Type 0} → Closing W → Option W
close_end future = future.writer

-- there is a writer, and no more bytes are counted as written than there are
abbrev pub WritesWithin : {W : Type 0} → WriteAll W → Type 0
WritesWithin future = IsSome future.writer × (future.written ≤ length future.bytes.now)

abbrev pub WritesToClose : {W : Type 0} → WriteAllAndClose W → Type 0
WritesToClose future = IsSome future.writer × (future.written ≤ length future.bytes.now)

-- some of the bytes are left to write
abbrev pub HasLeft : {W : Type 0} → WriteAll W → Type 0
HasLeft future = future.written < length future.bytes.now

-- the error is the end's own, in some poll
abbrev pub FailsOnce : {E : Type 0} → (E → Context → PipeError → Type 0) → E → PipeError → Type 0
FailsOnce fails end error = (cx : Context) × fails end cx error

module _ {W : Type 0} (sent : W → List ℕ) (saw : W → Bool) (woken : W → Type 0) where
  -- from one state of the writer to another the bytes were sent that are between these two counts
  abbrev pub WritesOn : List ℕ → W → ℕ → W → ℕ → Type 0
  WritesOn bytes w0 n0 w1 n1 =
      (n1 ≤ length bytes)
      × Sends (drop n0 bytes) (drop n1 bytes) (sent w0) (sent w1) (saw w0) (saw w1)
      × WriterStays saw woken w0 w1

  -- all were written, or the pipe was seen closed; or the writer failed
  abbrev pub WroteAll : (W → Context → PipeError → Type 0) → List ℕ → W → ℕ
      → Result (W × ℕ) (Failed (W × ℕ)) → Type 0
  WroteAll fails bytes w n (Ok done) =
      WritesOn bytes w n done.0 done.1 × (done.1 < length bytes → saw done.0 ≡ true)
  WroteAll fails bytes w n (Err failed) =
      WritesOn bytes w n failed.left.0 failed.left.1 × FailsOnce fails failed.left.0 failed.error

  -- the writer sent nothing
  abbrev pub Idles : W → W → Type 0
  Idles w0 w1 = (sent w1 ≡ sent w0) × WriterStays saw woken w0 w1

  -- it comes back, with P where it has not failed, and sent nothing
  abbrev pub ComesBack : (W → Context → PipeError → Type 0) → (W → Type 0) → W
      → Result W (Failed W) → Type 0
  ComesBack fails P w (Ok done) = Idles w done × P done
  ComesBack fails P w (Err failed) = Idles w failed.left × FailsOnce fails failed.left failed.error

  -- its pipe is closed, and what was written is on its way
  abbrev pub IsClosed : (W → Type 0) → W → Type 0
  IsClosed flushed closed = (saw closed ≡ true) × flushed closed

  -- all were written, as WroteAll says, and then the writer was closed; or the writer failed
  abbrev pub WroteAndClosed : (W → Context → PipeError → Type 0) → (W → Type 0) → List ℕ → W → ℕ
      → Result ℕ (Failed ℕ) → Type 0
  WroteAndClosed fails flushed bytes w n (Ok count) = (before : W) × (closed : W)
      × WroteAll fails bytes w n (Ok (before, count))
      × ComesBack fails (IsClosed flushed) before (Ok closed)
  WroteAndClosed fails flushed bytes w n (Err failed) = (last : W)
      × WritesOn bytes w n last failed.left × FailsOnce fails last failed.error

  -- what a future may give, of the writer that it holds
  abbrev pub GivesWritten : (W → Context → PipeError → Type 0) → WriteAll W
      → Result (W × ℕ) (Failed (W × ℕ)) → Type 0
  GivesWritten fails future output = IsSomeAnd future.writer (λ writer.
      WroteAll fails future.bytes.now writer future.written output)

  -- a writer that comes back without an error is flushed; and after a close its pipe is closed, too
  abbrev pub GivesFlushed : (W → Context → PipeError → Type 0) → (W → Type 0) → Flushing W
      → Result W (Failed W) → Type 0
  GivesFlushed fails flushed future output = IsSomeAnd future.writer (λ writer.
      ComesBack fails flushed writer output)

  abbrev pub GivesClosed : (W → Context → PipeError → Type 0) → (W → Type 0) → Closing W
      → Result W (Failed W) → Type 0
  GivesClosed fails flushed future output = IsSomeAnd future.writer (λ writer.
      ComesBack fails (IsClosed flushed) writer output)

  abbrev pub GivesWrittenAndClosed : (W → Context → PipeError → Type 0) → (W → Type 0)
      → WriteAllAndClose W → Result ℕ (Failed ℕ) → Type 0
  GivesWrittenAndClosed fails flushed future output = IsSomeAnd future.writer (λ writer.
      WroteAndClosed fails flushed future.bytes.now writer future.written output)
