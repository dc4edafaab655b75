-- The writer's indices: its own, and the reader's
-- as it last saw it; with what is lent between them.
use Rattle.std.specs.Prelude.{◌≡◌, ℕ, ◌+◌, ◌-◌, ◌*◌, ◌<◌, ◌≤◌, min, max, Bool, true, false, if◌then◌else◌}
use Rattle.piper_protocol.specs.Index.{IsCapacity, distance, offset_of, advanced}
use Rattle.piper_protocol.specs.LendBound.{lend_bound}

pub record WriterIndices : Type 0 where
  pub capacity : ℕ
  -- the writer's own index
  pub tail : ℕ
  -- the reader's index, as last seen
  pub head : ℕ
  -- how many places at the buffer's beginning were set
  pub zeroed : ℕ
  -- how many places are lent, from the writer's own place on
  pub lent : ℕ
  pub is_shut : Bool

-- the free places that the writer knows of
abbrev pub room_in : WriterIndices → ℕ
room_in w = w.capacity - distance w.capacity w.head w.tail

-- the places from the writer's own up to the end of the buffer
abbrev pub left_in : WriterIndices → ℕ
left_in w = w.capacity - offset_of w.capacity w.tail

-- how many places are lent where `most` are asked for
abbrev pub lendable_in : ℕ → WriterIndices → ℕ
lendable_in most w =
    if w.is_shut then 0 else min (min most (lend_bound w.zeroed)) (min (room_in w) (left_in w))

-- lent from the writer's place on, and set up to the end of that
abbrev pub lent_from : ℕ → WriterIndices → WriterIndices
lent_from count w =
    record w { lent = count; zeroed = max w.zeroed (offset_of w.capacity w.tail + count) }

-- the reader's index was seen there
abbrev pub head_seen : ℕ → WriterIndices → WriterIndices
head_seen head w = record w { head = head }

-- the writer's own index has passed the first n lent places
abbrev pub tail_passed : ℕ → WriterIndices → WriterIndices
tail_passed n w = record w { tail = advanced w.capacity w.tail n; lent = w.lent - n }

-- the writer of an empty pipe
abbrev pub fresh_writer : ℕ → WriterIndices
fresh_writer capacity = record {
  capacity = capacity;
  tail = 0;
  head = 0;
  zeroed = 0;
  lent = 0;
  is_shut = false;
}

pub record AreWriterIndices (w : WriterIndices) : Type 0 where
  pub capacity : IsCapacity w.capacity
  pub tail : w.tail < 2 * w.capacity
  pub head : w.head < 2 * w.capacity
  pub within : distance w.capacity w.head w.tail ≤ w.capacity
  pub lent_room : w.lent ≤ room_in w
  pub lent_place : w.lent ≤ left_in w
  pub zeroed : w.zeroed ≤ w.capacity
  pub lent_zeroed : offset_of w.capacity w.tail + w.lent ≤ w.zeroed
  pub shut : w.is_shut ≡ true → w.lent ≡ 0
