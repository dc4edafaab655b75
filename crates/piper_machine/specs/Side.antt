-- What each side keeps: its own index,
-- the other's as it last saw it, and its point inside the open call.
use Rattle.std.specs.Prelude.{◌≡◌, ℕ, ◌+◌, ◌*◌, ◌<◌, ◌≤◌, max, Bool, true, false}
use Rattle.piper_machine.specs.Types.{ReadPoint, WritePoint}
use Rattle.piper_protocol.specs.Index.{IsCapacity, distance, offset_of}
use Rattle.piper_protocol.specs.ReaderIndices.{ReaderIndices, known_in, peekable_in}
use Rattle.piper_protocol.specs.Table.{head_store, tail_store, read_sum, write_sum}
use Rattle.piper_protocol.specs.WriterIndices.{WriterIndices, room_in, left_in, lendable_in}

pub record Reading : Type 0 where
  pub capacity : ℕ
  -- the reader's own index
  pub head : ℕ
  -- the writer's index, as last seen
  pub tail : ℕ
  pub point : ReadPoint

pub record Writing : Type 0 where
  pub capacity : ℕ
  -- the writer's own index
  pub tail : ℕ
  -- the reader's index, as last seen
  pub head : ℕ
  -- how many places at the buffer's beginning were set
  pub zeroed : ℕ
  -- how many places are lent, from the writer's own place on
  pub lent : ℕ
  pub is_shut : Bool
  pub point : WritePoint

abbrev pub reader_indices : Reading → ReaderIndices
reader_indices r = record { capacity = r.capacity; head = r.head; tail = r.tail }

abbrev pub writer_indices : Writing → WriterIndices
writer_indices w = record {
  capacity = w.capacity;
  tail = w.tail;
  head = w.head;
  zeroed = w.zeroed;
  lent = w.lent;
  is_shut = w.is_shut;
}

abbrev pub known_of : Reading → ℕ
known_of r = known_in (reader_indices r)

abbrev pub peekable_of : Reading → ℕ
peekable_of r = peekable_in (reader_indices r)

abbrev pub room_of : Writing → ℕ
room_of w = room_in (writer_indices w)

abbrev pub left_of : Writing → ℕ
left_of w = left_in (writer_indices w)

abbrev pub lend_length : ℕ → Writing → ℕ
lend_length most w = lendable_in most (writer_indices w)

-- lent from the writer's place on, and set up to the end of that
abbrev pub lent_out : ℕ → Writing → Writing
lent_out count w =
    record w { lent = count; zeroed = max w.zeroed (offset_of w.capacity w.tail + count) }

-- the sides of an empty pipe
abbrev pub fresh_reading : ℕ → Reading
fresh_reading capacity = record { capacity = capacity; head = 0; tail = 0; point = ReadPoint.Idle }

abbrev pub fresh_writing : ℕ → Writing
fresh_writing capacity = record {
  capacity = capacity;
  tail = 0;
  head = 0;
  zeroed = 0;
  lent = 0;
  is_shut = false;
  point = WritePoint.Idle;
}

pub record IsReading (r : Reading) : Type 0 where
  pub capacity : IsCapacity r.capacity
  pub head : r.head < 2 * r.capacity
  pub tail : r.tail < 2 * r.capacity
  pub known : known_of r ≤ r.capacity
  pub store : head_store r.point ≤ peekable_of r
  -- a copy moves no more than its look left known
  pub sum : read_sum r.point + known_of r ≤ r.capacity + head_store r.point

pub record IsWriting (w : Writing) : Type 0 where
  pub capacity : IsCapacity w.capacity
  pub tail : w.tail < 2 * w.capacity
  pub head : w.head < 2 * w.capacity
  pub within : distance w.capacity w.head w.tail ≤ w.capacity
  pub lent_room : w.lent ≤ room_of w
  pub lent_place : w.lent ≤ left_of w
  pub zeroed : w.zeroed ≤ w.capacity
  pub lent_zeroed : offset_of w.capacity w.tail + w.lent ≤ w.zeroed
  pub shut : w.is_shut ≡ true → w.lent ≡ 0
  pub store : tail_store w.point ≤ w.lent
  -- a copy moves no more than its look left room for
  pub sum : write_sum w.point + room_of w ≤ w.capacity + tail_store w.point
