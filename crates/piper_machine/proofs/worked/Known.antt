-- What a log reports of what a side knows, and the counts by it.
use Rattle.std.specs.Prelude.{◌≡◌, List, [], ◌∷◌, ◌++◌, take, Some, None, true, false, refl}
use Rattle.piper_machine.specs.Types.{Call, Kind, Step, Event, Reader, Writer, Len, Begin, Go, Began, Looked, Consumed, Answered, Count}
use Rattle.piper_machine.specs.declared.events.Seen.TheVariants.{Tail}
use Rattle.piper_machine.specs.Pipe.{Pipe, fresh}
use Rattle.piper_machine.specs.Step.{stepped}
use Rattle.piper_machine.specs.Known.{knowledge_of}
use Rattle.piper_machine.specs.Counts.{most_steps, tally_of}
use Rattle.piper_machine.specs.Run.{Runs}
use Rattle.piper_machine.specs.Called.{calls_from}
use Rattle.piper_machine.proofs.worked.Gone.{by, gone}

abbrev log_of : List Step → List Event
log_of steps = (gone steps (fresh 4)).events

-- three bytes are published on a pipe of four places
abbrev three_published : List Step
three_published = Begin (Call.WriteBuf 3) ∷ Begin (Call.Produced 3) ∷ Go Writer ∷ Go Writer ∷ []

-- the writer knows of the fourth place, and found four as its call began; the reader has not looked
known_to_the_writer : knowledge_of 4 Writer (log_of three_published) ≡ record { known = 1; found = 4; is_query = false }
known_to_the_writer = refl

unknown_to_the_reader : knowledge_of 4 Reader (log_of three_published) ≡ record { known = 0; found = 0; is_query = false }
unknown_to_the_reader = refl

-- a query loads both indices, and takes in neither
after_a_query : knowledge_of 4 Reader (log_of (three_published ++ (Begin (Call.Query Reader Len) ∷ Go Reader ∷ Go Reader ∷ []))) ≡ record { known = 0; found = 0; is_query = true }
after_a_query = refl

-- a poll takes in what it finds
abbrev polled : List Step
polled = three_published ++ (Begin (Call.Poll Reader 1 (by 1).luck) ∷ Go Reader ∷ [])

after_a_look : knowledge_of 4 Reader (log_of polled) ≡ record { known = 3; found = 3; is_query = false }
after_a_look = refl

-- A drain begins with the three bytes that the poll left known, and needs no look: the fourth byte
-- that is published meanwhile it does not come to know.
abbrev drained : List Step
drained =
    (polled ++ (Go Reader ∷ Begin (Call.TryDrain 8) ∷ Begin (Call.WriteBuf 1) ∷ Begin (Call.Produced 1) ∷ Go Writer ∷ Go Writer ∷ []))
    ++ (Go Reader ∷ Go Reader ∷ Go Reader ∷ Go Reader ∷ [])

after_a_drain : knowledge_of 4 Reader (log_of drained) ≡ record { known = 0; found = 3; is_query = false }
after_a_drain = refl

steps_of_the_drain : (tally_of Reader drained ≡ record { made = 4; call = Some (Call.TryDrain 8) }) × (most_steps 3 (Call.TryDrain 8) ≡ 18)
steps_of_the_drain = (refl, refl)

left_by_the_drain : (gone drained (fresh 4)).pipe.unread ≡ 0 ∷ []
left_by_the_drain = refl

-- A drain that finds one byte calls its destination twice, as often as it may: the second time
-- there is no byte left.
abbrev one_unread : Pipe
one_unread = record (fresh 2) { unread = 5 ∷ [] }

abbrev one_drained : List Step
one_drained = Begin (Call.TryDrain 9) ∷ Go Reader ∷ Go Reader ∷ Go Reader ∷ Go Reader ∷ Go Reader ∷ []

abbrev one_logged : List Event
one_logged = Began Reader Kind.TryDrain None ∷ Looked Reader (Tail 1) ∷ Consumed (5 ∷ []) ∷ Answered Reader (Count 1) ∷ []

abbrev drain_opened : Pipe
drain_opened = (stepped [] (Begin (Call.TryDrain 9)) one_unread).pipe

abbrev has_looked : Pipe
has_looked = (stepped [] (Go Reader) drain_opened).pipe

abbrev has_called : Pipe
has_called = (stepped [] (Go Reader) has_looked).pipe

abbrev has_stored : Pipe
has_stored = (stepped [] (Go Reader) has_called).pipe

abbrev has_taken : Pipe
has_taken = (stepped [] (Go Reader) has_stored).pipe

abbrev has_answered : Pipe
has_answered = (stepped [] (Go Reader) has_taken).pipe

a_drain : Runs one_unread [] one_drained has_answered one_logged
a_drain = (
  drain_opened,
  take 1 one_logged,
  record { accepted = refl; made = record { lent = tt; pipe = refl; events = refl } },
  (
    has_looked,
    take 2 one_logged,
    record { accepted = refl; made = record { lent = tt; pipe = refl; events = refl } },
    (
      has_called,
      take 2 one_logged,
      record { accepted = refl; made = record { lent = tt; pipe = refl; events = refl } },
      (
        has_stored,
        take 3 one_logged,
        record { accepted = refl; made = record { lent = tt; pipe = refl; events = refl } },
        (
          has_taken,
          take 3 one_logged,
          record { accepted = refl; made = record { lent = tt; pipe = refl; events = refl } },
          (
            has_answered,
            one_logged,
            record { accepted = refl; made = record { lent = tt; pipe = refl; events = refl } },
            (refl, refl),
          ),
        ),
      ),
    ),
  ),
)

calls_of_the_drain : (calls_from Reader 0 one_drained one_unread [] has_answered one_logged a_drain ≡ 2) × ((knowledge_of 2 Reader one_logged).found ≡ 1)
unfolding a_drain
calls_of_the_drain = (refl, refl)
