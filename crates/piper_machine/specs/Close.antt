-- The end: a close by the writer, or a side that is dropped.
-- The unread bytes stay, and a pipe once closed stays closed.
use Rattle.std.specs.Prelude.{true, []}
use Rattle.piper_machine.specs.Types.{ReadPoint, WritePoint, Side, Reader, Writer}
use Rattle.piper_machine.specs.Pipe.{Pipe}
use Rattle.piper_machine.specs.Move.{reader_woken, writer_woken}

-- the writer closes: what it was lent is taken back, and both sides are woken
abbrev pub close : Pipe → Pipe
close p = writer_woken (reader_woken (record p { is_closed = true; is_shut = true; lent = [] }))

-- a side is dropped: the other side is woken
abbrev pub dropped : Side → Pipe → Pipe
dropped Reader p = writer_woken (record p { is_closed = true; reader = ReadPoint.Dropped })
dropped Writer p = reader_woken (record p { is_closed = true; writer = WritePoint.Dropped })
