-- Indices of a ring of `capacity` places: they lie in 0..2 * capacity,
-- so that a full ring differs from an empty one.
use Rattle.std.specs.Prelude.{ℕ, ◌+◌, ◌-◌, ◌*◌, ◌%◌, ◌^◌, ◌<◌, ◌≤◌, if◌then◌else◌, nat_lt, nat_le}

-- a capacity whose indices fit a machine word
abbrev pub IsCapacity : ℕ → Type 0
IsCapacity capacity = (1 ≤ capacity) × (2 * capacity < 2 ^ 64)

-- how far the index `to` is past the index `from`
abbrev pub distance : ℕ → ℕ → ℕ → ℕ
distance capacity from to = if nat_le from to then to - from else 2 * capacity - from + to

-- the place in the buffer of an index
abbrev pub offset_of : ℕ → ℕ → ℕ
offset_of capacity i = if nat_lt i capacity then i else i - capacity

-- the index n places further on
abbrev pub advanced : ℕ → ℕ → ℕ → ℕ
advanced capacity i n = if nat_lt (i + n) (2 * capacity) then i + n else i + n - 2 * capacity

-- the index one turn of the buffer further on, which is also the one a turn before
abbrev pub turned : ℕ → ℕ → ℕ
turned capacity i = if nat_lt i capacity then i + capacity else i - capacity

-- the distance as a remainder modulo two laps
abbrev pub lap_remainder : ℕ → ℕ → ℕ → ℕ
lap_remainder capacity from to = (2 * capacity + to - from) % (2 * capacity)
