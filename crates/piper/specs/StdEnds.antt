-- What a call of a reader or a writer of std returned. Std's own clauses relate no answer but its
-- bytes to a call, so these are sealed: no proof looks into them, and only those of `std_read`,
-- `std_write` and `std_flush` use the lemmas below. So such an answer is just what std returned.
use Rattle.std.specs.Prelude.{ℕ, Result, ⊤}
use Rattle.std.specs.declared.io.Error.{Error}

-- a read on the one state returned this, and left the other
pub WasRead : {S : Type 0} → S → Result ℕ Error → S → Type 0
WasRead before answer after = ⊤

pub as_read : {S : Type 0} (before : S) (answer : Result ℕ Error) (after : S) → WasRead before answer after
unfolding WasRead
as_read before answer after = tt

-- a write did
pub WasWritten : {S : Type 0} → S → Result ℕ Error → S → Type 0
WasWritten before answer after = ⊤

pub as_written : {S : Type 0} (before : S) (answer : Result ℕ Error) (after : S) → WasWritten before answer after
unfolding WasWritten
as_written before answer after = tt

-- a flush did
pub WasFlushed : {S : Type 0} → S → Result Unit Error → S → Type 0
WasFlushed before answer after = ⊤

pub as_flushed : {S : Type 0} (before : S) (answer : Result Unit Error) (after : S) → WasFlushed before answer after
unfolding WasFlushed
as_flushed before answer after = tt
