-- The two handles of a pipe.
use Rattle.std.specs.Prelude.{◌≡◌, ℕ, false, List, [], bit_xor}
use Rattle.std.specs.Borrow.{Fml, MutBor, Array, Lends}
use denote.Builtin.{u8}
use Rattle.piper_ring.specs.LendsBuffer.{with_lent}
use Rattle.piper_ring.specs.SlotsView.{IsWriterAtRest, IsReaderAtRest, SlotsView}
use Rattle.piper_ring.specs.Opened.{FreshReadEnd, FreshWriteEnd}
use Rattle.piper.specs.Generator.{generator}
use Rattle.piper.specs.declared.handles.Reader.{Reader}
use Rattle.piper.specs.declared.handles.Writer.{Writer}
use Rattle.piper.specs.contracts.handles.Writer.{the_row}

-- the handles of one pipe: each wakes the other's slot
pub record ArePair (reader : Reader) (writer : Writer) : Type 0 where
  pub ring : writer.side.end.ring ≡ reader.side.end.ring
  pub cells : writer.side.cells ≡ reader.side.cells

-- the source at which a task waits that polls the reader
abbrev pub read_source : Reader → ℕ
read_source reader = reader.source.id

-- the source at which a task waits that polls the writer
abbrev pub write_source : Writer → ℕ
write_source writer = writer.source.id

-- the reader checked the writer's slot after all that it consumed, and took who waited there
abbrev pub NotifiesWriter : Reader → Type 0
NotifiesWriter reader = IsReaderAtRest reader.side.end reader.side.slots

-- the writer checked the reader's slot after all that it published, and after its close if it
-- closed the pipe, and took who waited there
abbrev pub NotifiesReader : Writer → Type 0
NotifiesReader writer = IsWriterAtRest writer.side.end writer.side.slots

-- neither made an access. No search of a client looks into it
unfoldable pub LogsAreNew : Reader → Writer → Type 0
LogsAreNew r w = (r.side.log.lines ≡ []) × (w.side.log.lines ≡ [])

-- the handles of a pipe that was just opened: nothing was done or stored, and nobody waits
pub record AreFresh (cap : ℕ) (r : Reader) (w : Writer) : Type 0 where
  pub reader : FreshReadEnd cap r.side.end
  pub writer : FreshWriteEnd cap w.side.end
  pub woken : NotifiesWriter r × NotifiesReader w
  pub nobody : (r.side.slots.waits ≡ false) × (w.side.slots.waits ≡ false)
  pub logs : LogsAreNew r w

-- the generators of the handles, before their first draw
pub record DrawFrom (seed : ℕ) (r : Reader) (w : Writer) : Type 0 where
  pub reader : r.rng ≡ generator seed
  pub writer : w.rng ≡ generator (bit_xor seed 1)

-- the same reader: its cells are the same, its task has the same source, and its generator draws
-- the same numbers next. What happened at its slots is said by the first argument
pub record SameReader (did : SlotsView → SlotsView → Type 0) (a b : Reader) : Type 0 where
  pub cells : b.side.cells ≡ a.side.cells
  pub source : b.source ≡ a.source
  pub rng : b.rng ≡ a.rng
  pub slots : did a.side.slots b.side.slots

-- the same writer
pub record SameWriter (did : SlotsView → SlotsView → Type 0) (a b : Writer) : Type 0 where
  pub cells : b.side.cells ≡ a.side.cells
  pub source : b.source ≡ a.source
  pub rng : b.rng ≡ a.rng
  pub slots : did a.side.slots b.side.slots

-- the handle that writes, once a `&mut` into the slice that
-- it lent has ended: what is lent holds what was written there
abbrev pub lends_room : MutBor Writer → MutBor (List ℕ) → Fml
lends_room writer room =
    Lends the_row (Array u8 0) writer room
    (λ bytes. record writer.now
    { side = record writer.now.side { end = with_lent writer.now.side.end room.now bytes } })
