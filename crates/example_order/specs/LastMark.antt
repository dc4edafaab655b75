-- What the last mark of a writer reports.
use Rattle.std.specs.Prelude.{◌≡◌, ℕ, Bool, true, List, take}
use Rattle.piper.specs.Shared.{Names}

-- a mark of the ring `own`, which reports `sent` and `shut`, is of the ring `names`: all that its
-- writer ever published is a beginning of the bytes, and after that it closed the pipe
pub record ReportsFront (names own : Names) (bytes sent : List ℕ) (shut : Bool) : Type 0 where
  pub ring : own ≡ names
  pub front : (m : ℕ) × (sent ≡ take m bytes)
  pub closed : shut ≡ true
