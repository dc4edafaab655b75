-- The most that is lent at once.
use Rattle.std.specs.Prelude.{ℕ, ◌+◌, ◌*◌}

-- what is lent grows with the number of places that were set already,
-- so that no call sets a whole large buffer
abbrev pub lend_bound : ℕ → ℕ
lend_bound zeroed = 2 * zeroed + 4096
