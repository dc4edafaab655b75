-- Looks of the two sides: what they find, where they lead, and what they leave of their end.
use Rattle.std.specs.Prelude.{◌≡◌, ◌+◌, ◌*◌, ◌^◌, ◌<◌, ◌≤◌, ◌++◌, ◌==◌, true, false, [], length, ⊤}
use Rattle.piper_protocol.specs.Table.{Next, ends, goes_on, look_answer, reader_looks_for, writer_found, writer_found_none}
use Rattle.piper_protocol.specs.declared.answer.Polled.TheVariants.{Pending, Ready}
use Rattle.piper_protocol.specs.declared.table.Point.{Point}
use Rattle.piper_protocol.specs.declared.table.Point.TheVariants.{Reader, Writer}
use Rattle.piper_protocol.specs.declared.table.Purpose.{Purpose}
use Rattle.piper_ring.specs.Log.{idle}
use Rattle.piper_ring.specs.ReadView.{HasLoadedTail, KeepsAll, ReadView}
use Rattle.piper_ring.specs.WriteView.{HasLoadedHead, WriteView}
use Rattle.piper_ring.specs.declared.ends.slots.looks.Look.{Look}
use Rattle.piper_ring.specs.declared.ends.slots.looks.Look.TheVariants as look

-- where a look leads by what it found: there, if it is something to do
abbrev pub look_next : Look → Purpose → Point → Next Point
look_next look.Ready purpose there = goes_on there
look_next look.Closed purpose there = ends (idle there) (look_answer purpose (Ready false))
look_next look.NotReady purpose there = ends (idle there) (look_answer purpose Pending)

-- where the first look of the writer leads
abbrev pub first_next : Look → Purpose → Next Point
first_next look.NotReady purpose = goes_on (Writer (writer_found_none purpose))
first_next found purpose = look_next found purpose (Writer (writer_found purpose))

-- where a call of the reader begins that looks: a known byte needs no load
abbrev pub looks_at : ReadView → Purpose → Point
looks_at r purpose = Reader (reader_looks_for (length r.known == 0) purpose)

-- P holds where the look found nothing to do yet
abbrev pub IfNotReady : Look → Type 0 → Type 0
IfNotReady look.NotReady P = P
IfNotReady found P = ⊤

-- the reader has loaded the tail, and knows, or knew, of just what was published then: also of all
-- that it was told of
abbrev pub ReaderIsUpToDate : ReadView → Type 0
ReaderIsUpToDate r = (r.observed ≤ length (r.taken ++ r.known)) × HasLoadedTail r

-- the writer has loaded the head, and knows, or knew, of just the room that there was then: also of
-- all that it was told of
abbrev pub WriterIsUpToDate : WriteView → Type 0
WriterIsUpToDate w = (w.observed + w.capacity ≤ length w.sent + w.room) × HasLoadedHead w

-- the reader found the end: it saw the pipe closed, and all that was ever published has been taken
pub record IsEnded (r : ReadView) : Type 0 where
  pub known : r.known ≡ []
  pub saw : r.saw ≡ true
  pub all : r.taken ≡ r.all

-- there is nothing to do for the reader: no byte is known, the pipe was not seen closed, and no
-- mark reported that the writer closed it
pub record NothingYet (r : ReadView) : Type 0 where
  pub known : r.known ≡ []
  pub saw : r.saw ≡ false
  pub observed : r.observed_shut ≡ false

-- the reader knows of a byte, and of so few that twice their count is no overflow
abbrev pub HasBytes : ReadView → Type 0
HasBytes r = (0 < length r.known) × (2 * length r.known < 2 ^ 64)

-- the writer knows of room for a byte, and for so few that twice their count is no overflow
abbrev pub HasRoom : WriteView → Type 0
HasRoom w = (0 < w.room) × (2 * w.room < 2 ^ 64)

-- what a look of the reader finds: a byte; or none, and the end; or none, and the pipe open
abbrev pub ReaderSees : Look → ReadView → Type 0
ReaderSees look.Ready r = HasBytes r
ReaderSees look.Closed r = IsEnded r
ReaderSees look.NotReady r = NothingYet r

-- a look of the reader takes no byte, and what it saw of closed, or knows of the end, it keeps. It
-- checks only where no byte is known, and then finds at least what the reader was told of
pub record ReaderLooked (a b : ReadView) : Type 0 where
  pub known : 0 < length a.known → b ≡ a
  pub fresh : a.known ≡ [] → ReaderIsUpToDate b
  pub saw : a.saw ≡ true → b.saw ≡ true
  pub all : KeepsAll a b
  pub ended : IsEnded a → IsEnded b
  pub rest : b ≡ record a { known = b.known; saw = b.saw; all = b.all }

-- what a look of the writer finds: room, and the pipe open; or the pipe closed; or neither
abbrev pub WriterSees : Look → WriteView → Type 0
WriterSees look.Ready w = HasRoom w × (w.shut ≡ false) × (w.saw ≡ false)
WriterSees look.Closed w = w.saw ≡ true
WriterSees look.NotReady w = (w.room ≡ 0) × (w.shut ≡ false) × (w.saw ≡ false)

-- a look of the writer publishes and takes back nothing, and what it saw of closed it keeps. It
-- checks for room only where none is known, and then, unless it saw closed, finds at least what the
-- writer was told of
pub record WriterLooked (a b : WriteView) : Type 0 where
  pub known : 0 < a.room → b.room ≡ a.room
  pub fresh : a.room ≡ 0 → b.saw ≡ false → WriterIsUpToDate b
  pub saw : a.saw ≡ true → b.saw ≡ true
  pub rest : b ≡ record a { room = b.room; saw = b.saw }
