-- The look that a polling or copying call begins with,
-- run whole: is there something to read, or room to write?
use Rattle.std.specs.Prelude.{ℕ, Bool, true, false, Option, None, Some, ◌==◌}
use Rattle.piper_machine.specs.Types.{Side, Context, Luck, Polled, Reader, Writer, Pending, Ready, Memory}
use Rattle.piper_protocol.specs.Table.{end_or_pending}
use Rattle.piper_machine.specs.Pipe.{Pipe}
use Rattle.piper_machine.specs.LoadIfNone.{tail_loaded_if_empty, head_loaded_if_full}

-- the context of a polling call; the try forms have none
abbrev pub context : ℕ → Luck → Context
context waker luck = record { waker = waker; luck = luck }

-- what a look returns, and the pipe that it leaves
pub record Look : Type 0 where
  pub answer : Polled Bool
  pub pipe : Pipe

abbrev pub looked : Polled Bool → Pipe → Look
looked answer p = record { answer = answer; pipe = p }

-- the reader's waker is registered, if its clone is granted
abbrev pub reader_registers : Bool → ℕ → Pipe → Look
reader_registers false waker p = looked Memory p
reader_registers true waker p =
    looked (end_or_pending p.is_closed) (record p { reader_waker = Some waker })

-- the reader found no byte
abbrev pub reader_waits : Option Context → Pipe → Look
reader_waits None p = looked (end_or_pending p.is_closed) p
reader_waits (Some cx) p = reader_registers cx.luck.register_granted cx.waker p

-- the reader found a byte: a waker that it left earlier is of no use any more
abbrev pub reader_finds : Option Context → Pipe → Look
reader_finds None p = looked (Ready true) p
reader_finds (Some cx) p = looked (Ready true) (record p { reader_waker = None })

abbrev pub reader_looks : Bool → Option Context → Pipe → Look
reader_looks true cx p = reader_waits cx p
reader_looks false cx p = reader_finds cx p

abbrev pub reader_look : Option Context → Pipe → Look
reader_look cx p = reader_looks ((tail_loaded_if_empty p).known == 0) cx (tail_loaded_if_empty p)

-- the writer's waker is registered, if its clone is granted
abbrev pub writer_registers : Bool → ℕ → Pipe → Look
writer_registers false waker p = looked Memory p
writer_registers true waker p = looked Pending (record p { writer_waker = Some waker })

-- the writer found no room
abbrev pub writer_waits : Option Context → Pipe → Look
writer_waits None p = looked Pending p
writer_waits (Some cx) p = writer_registers cx.luck.register_granted cx.waker p

-- the writer found room
abbrev pub writer_finds : Option Context → Pipe → Look
writer_finds None p = looked (Ready true) p
writer_finds (Some cx) p = looked (Ready true) (record p { writer_waker = None })

abbrev pub writer_looks : Bool → Option Context → Pipe → Look
writer_looks true cx p = writer_waits cx p
writer_looks false cx p = writer_finds cx p

-- a closed pipe is the end before anything else is checked
abbrev pub writer_looks_if_closed : Bool → Option Context → Pipe → Look
writer_looks_if_closed true cx p = looked (Ready false) p
writer_looks_if_closed false cx p =
    writer_looks ((head_loaded_if_full p).room == 0) cx (head_loaded_if_full p)

abbrev pub writer_look : Option Context → Pipe → Look
writer_look cx p = writer_looks_if_closed p.is_closed cx p

abbrev pub look_of : Side → Option Context → Pipe → Look
look_of Reader cx p = reader_look cx p
look_of Writer cx p = writer_look cx p
