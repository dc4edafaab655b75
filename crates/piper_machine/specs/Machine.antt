-- How the fields of a machine represent a pipe.
use Rattle.std.specs.Prelude.{◌≡◌, ◌≤◌, [], length, take, drop, true}
use Rattle.piper_machine.specs.Open.{no_call}
use Rattle.piper_protocol.specs.Index.{distance, offset_of}
use Rattle.piper_machine.specs.Types.{ReadPoint, WritePoint, Slice}
use Rattle.piper_machine.specs.Buffer.{between}
use Rattle.piper_machine.specs.Pipe.{Pipe}
use Rattle.piper_machine.specs.Side.{IsReading, IsWriting, known_of, room_of}
use Rattle.piper_machine.specs.declared.machine.Machine.TheInside.{Inside}

abbrev pub pipe_of : Inside → Pipe
pipe_of m =
    record {
      capacity = m.read.capacity;
      unread = between m.read.capacity m.read.head m.write.tail m.bytes.items;
      start = offset_of m.read.capacity m.read.head;
      known = known_of m.read;
      room = room_of m.write;
      lent = take m.write.lent (drop (offset_of m.write.capacity m.write.tail) m.bytes.items);
      is_closed = m.is_closed;
      is_shut = m.write.is_shut;
      reader_waker = m.reader_slot;
      writer_waker = m.writer_slot;
      woken = m.woken;
      reader = m.read.point;
      reader_call = m.reader_call;
      writer = m.write.point;
      writer_call = m.writer_call;
      destination = m.destination;
      source = m.source;
    }

pub record IsMachine (m : Inside) : Type 0 where
  pub reading : IsReading m.read
  pub writing : IsWriting m.write
  pub capacity : m.write.capacity ≡ m.read.capacity
  pub bytes : length m.bytes.items ≡ m.read.capacity
  pub unread : distance m.read.capacity m.read.head m.write.tail ≤ m.read.capacity
  pub known : known_of m.read ≤ distance m.read.capacity m.read.head m.write.tail
  pub room : distance m.read.capacity m.read.head m.write.tail
      ≤ distance m.write.capacity m.write.head m.write.tail
  pub shut : m.write.is_shut ≡ true → m.is_closed ≡ true
  pub reader_call : m.read.point ≡ ReadPoint.Idle → m.reader_call ≡ no_call
  pub writer_call : m.write.point ≡ WritePoint.Idle → m.writer_call ≡ no_call
  pub destination : m.read.point ≡ ReadPoint.Idle → m.destination ≡ Slice 0
  pub source : m.write.point ≡ WritePoint.Idle → m.source ≡ []
