-- What a step leaves of a side, by what it found, and what the call returns with it.
use Rattle.std.specs.Prelude.{ℕ, ◌-◌, ◌==◌, Option}
use Rattle.piper_machine.specs.Types.{Answer, ReadPoint, WritePoint, Found, IndexLoaded as index_loaded}
use Rattle.piper_protocol.specs.Index.{distance}
use Rattle.piper_protocol.specs.ReaderIndices.{ReaderIndices}
use Rattle.piper_protocol.specs.WriterIndices.{WriterIndices}
use Rattle.piper_machine.specs.Side.{Reading, Writing, room_of}
use Rattle.piper_protocol.specs.Table.{read_after, write_after}

-- a side is its indices and its point
abbrev pub reading_of : ReaderIndices → ReadPoint → Reading
reading_of r point = record { capacity = r.capacity; head = r.head; tail = r.tail; point = point }

abbrev pub writing_of : WriterIndices → WritePoint → Writing
writing_of w point = record {
  capacity = w.capacity;
  tail = w.tail;
  head = w.head;
  zeroed = w.zeroed;
  lent = w.lent;
  is_shut = w.is_shut;
  point = point;
}

-- the reader goes on to where the table leads; what else it keeps stays
abbrev pub reading_after : Found → Reading → Reading
reading_after found r = record r { point = (read_after r.capacity r.point found).point }

-- what its call returns, if this was the last step
abbrev pub reading_answer : Found → Reading → Option Answer
reading_answer found r = (read_after r.capacity r.point found).answer

-- what a look finds that loads this index of the writer
abbrev pub tail_found : ℕ → Reading → Found
tail_found tail r = index_loaded (distance r.capacity r.head tail == 0)

-- the same of the writer
abbrev pub writing_after : Found → Writing → Writing
writing_after found w =
    record w { point = (write_after w.capacity (room_of w) w.point found).point }

abbrev pub writing_answer : Found → Writing → Option Answer
writing_answer found w = (write_after w.capacity (room_of w) w.point found).answer

abbrev pub head_found : ℕ → Writing → Found
head_found head w = index_loaded (w.capacity - distance w.capacity head w.tail == 0)
