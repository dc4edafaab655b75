-- What is written in two polls is written in order.
use Rattle.std.proofs.Common.{ℕ, Bool, List, drop, Result, Ok, Err}
use Rattle.futures.specs.declared.task.context.Context.{Context}
use Rattle.piper.specs.declared.error.PipeError.{PipeError}
use Rattle.piper_lines.proofs.Sending.{sends_then}
use Rattle.piper_lines.proofs.Staying.{writer_stays}
use Rattle.piper_futures.specs.Writing.{WritesOn, WroteAll, WroteAndClosed}
use Rattle.piper_futures.specs.declared.failed.Failed.{Failed}

module _ {W : Type 0} (sent : W → List ℕ) (saw : W → Bool) (woken : W → Type 0) where
  pub writes_then : (bytes : List ℕ) (w0 w1 w2 : W) (n0 n1 n2 : ℕ) → WritesOn sent saw woken bytes w0 n0 w1 n1 → WritesOn sent saw woken bytes w1 n1 w2 n2
      → WritesOn sent saw woken bytes w0 n0 w2 n2
  writes_then bytes w0 w1 w2 n0 n1 n2 first second = (
    second.0,
    sends_then (drop n0 bytes) (drop n1 bytes) (drop n2 bytes) (sent w0) (sent w1) (sent w2) (saw w0) (saw w1) (saw w2) first.1 second.1 first.2.0 second.2.0,
    writer_stays saw woken w0 w1 w2 first.2 second.2,
  )

  -- what may be given after a poll may be given before it
  pub wrote_then : (fails : W → Context → PipeError → Type 0) (bytes : List ℕ) (w0 w1 : W) (n0 n1 : ℕ) → WritesOn sent saw woken bytes w0 n0 w1 n1
      → (output : Result (W × ℕ) (Failed (W × ℕ))) → WroteAll sent saw woken fails bytes w1 n1 output → WroteAll sent saw woken fails bytes w0 n0 output
  wrote_then fails bytes w0 w1 n0 n1 first (Ok done) gave = (writes_then bytes w0 w1 done.0 n0 n1 done.1 first gave.0, gave.1)
  wrote_then fails bytes w0 w1 n0 n1 first (Err failed) gave =
      (writes_then bytes w0 w1 failed.left.0 n0 n1 failed.left.1 first gave.0, gave.1)

  -- the same of a writer that is closed then
  pub wrote_and_closed_then : (fails : W → Context → PipeError → Type 0) (flushed : W → Type 0) (bytes : List ℕ) (w0 w1 : W) (n0 n1 : ℕ) → WritesOn sent saw woken bytes w0 n0 w1 n1
      → (output : Result ℕ (Failed ℕ)) → WroteAndClosed sent saw woken fails flushed bytes w1 n1 output → WroteAndClosed sent saw woken fails flushed bytes w0 n0 output
  wrote_and_closed_then fails flushed bytes w0 w1 n0 n1 first (Ok count) gave =
      (gave.0, gave.1, wrote_then fails bytes w0 w1 n0 n1 first (Ok (gave.0, count)) gave.2, gave.3)
  wrote_and_closed_then fails flushed bytes w0 w1 n0 n1 first (Err failed) gave =
      (gave.0, writes_then bytes w0 w1 gave.0 n0 n1 failed.left first gave.1, gave.2)
