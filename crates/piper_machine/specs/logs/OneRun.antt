-- What both sides did is one accepted list of the machine's steps.
use Rattle.std.specs.Prelude.{◌≡◌, ℕ, ◌≤◌, List, [], ◌++◌, drop}
use Rattle.piper_machine.specs.Types.{Step, Reader, Writer}
use Rattle.piper_machine.specs.Front.{Front}
use Rattle.piper_machine.specs.Lawful.{IsLawful}
use Rattle.piper_machine.specs.Pipe.{Pipe, fresh}
use Rattle.piper_machine.specs.Run.{Runs}
use Rattle.piper_machine.specs.logs.Line.{Line}
use Rattle.piper_machine.specs.logs.Moved.{consumed, published}
use Rattle.piper_machine.specs.logs.OneList.{By, Words, did, words_of, AreInOrder, AreListed, AreOneList, FindsCount}
use Rattle.piper_machine.specs.logs.Reading.{AreReaderRuns, known_to, reader_at}
use Rattle.piper_machine.specs.logs.Writing.{AreWriterRuns, room_to, writer_at}
use Rattle.piper_machine.specs.logs.Reports.{events_of}

-- what two sides of a pipe of this capacity wrote down: they accessed the same words, and each log
-- is a list of runs of the call table, of which the last may be open
pub record AreLogs (capacity : ℕ) (reader writer : List Line) : Type 0 where
  pub some : 1 ≤ capacity
  pub list : AreOneList reader writer
  pub reads : AreReaderRuns capacity reader
  pub writes : AreWriterRuns capacity writer

-- the same, if the list is known to be right in its counts alone, and what the reader consumed is
-- the beginning of what the writer published
pub record AreCountedLogs (capacity : ℕ) (reader writer : List Line) : Type 0 where
  pub some : 1 ≤ capacity
  pub list : AreListed FindsCount reader writer
  pub reads : AreReaderRuns capacity reader
  pub writes : AreWriterRuns capacity writer
  pub rest : List ℕ
  pub bytes : consumed reader ++ rest ≡ published writer

-- the pipe is as both logs leave it
pub record IsLeft (capacity : ℕ) (reader writer : List Line) (s : Words) (p : Pipe) : Type 0 where
  pub places : p.capacity ≡ capacity
  pub unread : p.unread ≡ drop s.head s.sent
  pub is_closed : p.is_closed ≡ s.is_closed
  pub reader_slot : p.reader_waker ≡ s.reader_slot
  pub writer_slot : p.writer_waker ≡ s.writer_slot
  -- what each side knows, and where it is inside its last call
  pub known : p.known ≡ known_to (reader_at capacity reader)
  pub room : p.room ≡ room_to capacity (writer_at capacity writer)
  pub reading : p.reader ≡ (reader_at capacity reader).point
  pub writing : p.writer ≡ (writer_at capacity writer).point
  pub reader_taken : p.reader_call.taken ≡ (reader_at capacity reader).calling.taken
  pub writer_taken : p.writer_call.taken ≡ (writer_at capacity writer).calling.taken

pub record IsOneRun (capacity : ℕ) (reader writer : List Line) : Type 0 where
  -- the lines of both logs in one order, in which each access finds what the last one before it
  -- left
  pub turns : List (By Line)
  pub order : AreInOrder turns
  pub reader_did : did Reader turns ≡ reader
  pub writer_did : did Writer turns ≡ writer
  -- the machine accepts these steps, which do and report what these lines say, in their order
  pub steps : List Step
  pub pipe : Pipe
  pub runs : Runs (fresh capacity) [] steps pipe (events_of capacity turns)
  -- they lead to what both logs leave
  pub left : IsLeft capacity reader writer (words_of turns) pipe
  -- so the laws of the machine hold of what both sides did
  pub lawful : IsLawful capacity steps pipe (events_of capacity turns)
  -- and at each moment before
  pub fronts : (i : ℕ) → Front capacity steps i pipe (events_of capacity turns)
