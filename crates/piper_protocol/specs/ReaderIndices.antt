-- The reader's indices: its own, and the writer's as it last saw it.
use Rattle.std.specs.Prelude.{ℕ, ◌-◌, ◌*◌, ◌<◌, ◌≤◌, min}
use Rattle.piper_protocol.specs.Index.{IsCapacity, distance, offset_of, advanced}

pub record ReaderIndices : Type 0 where
  pub capacity : ℕ
  -- the reader's own index
  pub head : ℕ
  -- the writer's index, as last seen
  pub tail : ℕ

-- the bytes that the reader knows of
abbrev pub known_in : ReaderIndices → ℕ
known_in r = distance r.capacity r.head r.tail

-- those of them that are contiguous
abbrev pub peekable_in : ReaderIndices → ℕ
peekable_in r = min (known_in r) (r.capacity - offset_of r.capacity r.head)

-- the writer's index was seen there
abbrev pub tail_seen : ℕ → ReaderIndices → ReaderIndices
tail_seen tail r = record r { tail = tail }

-- the reader's own index has passed n bytes
abbrev pub head_passed : ℕ → ReaderIndices → ReaderIndices
head_passed n r = record r { head = advanced r.capacity r.head n }

-- the reader of an empty pipe
abbrev pub fresh_reader : ℕ → ReaderIndices
fresh_reader capacity = record { capacity = capacity; head = 0; tail = 0 }

pub record AreReaderIndices (r : ReaderIndices) : Type 0 where
  pub capacity : IsCapacity r.capacity
  pub head : r.head < 2 * r.capacity
  pub tail : r.tail < 2 * r.capacity
  pub known : known_in r ≤ r.capacity
