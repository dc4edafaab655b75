-- What the log reports of calls of both sides, and what they return.
use Rattle.std.proofs.Common.{arith, ◌≡◌, List, [], ◌∷◌, ◌++◌, drop, true, false, None, Some, Err, refl}
use Rattle.piper_machine.specs.Types.{Answer, Call, DestAct, Kind, Polled, Seen, SourceAct, Side, Step, Event, Reader, Writer, Len, Begin, Go, Began, Looked, Published, Consumed, Closed, Answered}
use Rattle.piper_machine.specs.Pipe.{Pipe, fresh}
use Rattle.piper_machine.specs.Step.{stepped}
use Rattle.piper_machine.specs.Noted.{Noted, unnoted, calls_of, noted_from}
use Rattle.piper_machine.proofs.worked.Gone.{by}
use Rattle.piper_machine.specs.Outcome.{places_of, may_fail, HasFailed, IsFilled, number_found}

-- the events of these steps, where two places are lent to each call of a source
abbrev logged : List Step → Pipe → List Event
logged [] p = []
logged (s ∷ ss) p = let out = stepped (0 ∷ 0 ∷ []) s p in out.events ++ logged ss out.pipe

-- what they report of a side of which these steps are made
abbrev told_by : Side → List Step → List Event → Noted
told_by side steps events = noted_from side (unnoted (calls_of side steps)) events

abbrev reader_drops : List Step
reader_drops = Begin (Call.Drop Reader) ∷ Go Reader ∷ Go Reader ∷ []

-- A fill of two bytes has found the pipe open before the reader drops: it publishes them, and
-- counts them.
abbrev dropped_after_the_look : List Step
dropped_after_the_look = Begin (Call.TryFill (1 ∷ 2 ∷ [])) ∷ Go Writer ∷ Go Writer ∷ Go Writer ∷ reader_drops ++ Go Writer ∷ Go Writer ∷ Go Writer ∷ []

abbrev logged_of_the_published : List Event
logged_of_the_published =
    Began Writer Kind.TryFill None ∷ Looked Writer (Seen.Closed false) ∷ Looked Writer (Seen.Closed false)
    ∷ Began Reader Kind.Drop None ∷ Closed Reader ∷ Answered Reader Answer.Done
    ∷ Published (1 ∷ 2 ∷ []) ∷ []

reported_of_the_published :
    (logged dropped_after_the_look (fresh 4) ≡ logged_of_the_published ++ Answered Writer (Answer.Count 2) ∷ [])
    × (told_by Writer dropped_after_the_look logged_of_the_published ≡ record {
      coming = [];
      call = Some (Call.TryFill (1 ∷ 2 ∷ []));
      looks = Seen.Closed false ∷ Seen.Closed false ∷ [];
      moved = 1 ∷ 2 ∷ [];
    })
reported_of_the_published = (refl, refl)

-- Its source has given them, and then it finds the pipe closed: it counts them, and publishes none.
abbrev dropped_before_the_look : List Step
dropped_before_the_look = Begin (Call.TryFill (1 ∷ 2 ∷ [])) ∷ Go Writer ∷ Go Writer ∷ reader_drops ++ Go Writer ∷ []

abbrev logged_of_the_counted : List Event
logged_of_the_counted =
    Began Writer Kind.TryFill None ∷ Looked Writer (Seen.Closed false)
    ∷ Began Reader Kind.Drop None ∷ Closed Reader ∷ Answered Reader Answer.Done
    ∷ Looked Writer (Seen.Closed true) ∷ []

reported_of_the_counted :
    (logged dropped_before_the_look (fresh 4) ≡ logged_of_the_counted ++ Answered Writer (Answer.Count 2) ∷ [])
    × (told_by Writer dropped_before_the_look logged_of_the_counted ≡ record {
      coming = [];
      call = Some (Call.TryFill (1 ∷ 2 ∷ []));
      looks = Seen.Closed true ∷ Seen.Closed false ∷ [];
      moved = [];
    })
reported_of_the_counted = (refl, refl)

-- Both counts are right. A count of 2 is wrong of a fill that found the pipe open and published
-- nothing.
counts_of_fills :
    IsFilled (1 ∷ 2 ∷ []) (Seen.Closed false ∷ Seen.Closed false ∷ []) (1 ∷ 2 ∷ []) 2
    × IsFilled (1 ∷ 2 ∷ []) (Seen.Closed true ∷ Seen.Closed false ∷ []) [] 2
    × (IsFilled (1 ∷ 2 ∷ []) (Seen.Closed false ∷ Seen.Closed false ∷ []) [] 2 → ⊥)
counts_of_fills = (
  record { published = λ is_open. refl; none = λ is_closed. absurd (cc); at_least = omega arith; at_most = omega arith },
  record { published = λ is_open. absurd (cc); none = λ is_closed. absurd (cc); at_least = omega arith; at_most = omega arith },
  λ filled. absurd (let two = filled.published refl in omega arith),
)

-- A fill that finds the pipe closed at first counts nothing.
abbrev dropped_before_the_fill : List Step
dropped_before_the_fill = reader_drops ++ Begin (Call.TryFill (1 ∷ 2 ∷ [])) ∷ Go Writer ∷ []

logged_of_the_closed : logged dropped_before_the_fill (fresh 4) ≡ (
    Began Reader Kind.Drop None ∷ Closed Reader ∷ Answered Reader Answer.Done
    ∷ Began Writer Kind.TryFill None ∷ Looked Writer (Seen.Closed true) ∷ Answered Writer (Answer.Count 0) ∷ [])
logged_of_the_closed = refl

counts_of_a_closed_pipe :
    IsFilled (1 ∷ 2 ∷ []) (Seen.Closed true ∷ []) [] 0
    × (IsFilled (1 ∷ 2 ∷ []) (Seen.Closed true ∷ []) [] 2 → ⊥)
counts_of_a_closed_pipe = (
  record { published = λ is_open. refl; none = λ is_closed. refl; at_least = omega arith; at_most = omega arith },
  λ filled. absurd (let zero = filled.none refl in omega arith),
)

-- A source fails after its first byte: the fill has published that byte, and returns the failure.
abbrev fails_after_a_byte : List Step
fails_after_a_byte = Begin (Call.PollFill 1 (by 1).luck (SourceAct.Bytes (9 ∷ []) ∷ SourceAct.Fail ∷ [])) ∷ Go Writer ∷ Go Writer ∷ Go Writer ∷ Go Writer ∷ Go Writer ∷ Go Writer ∷ Go Writer ∷ []

abbrev logged_of_the_failure : List Event
logged_of_the_failure =
    Began Writer Kind.PollFill (Some 1) ∷ Looked Writer (Seen.Closed false) ∷ Looked Writer (Seen.Closed false) ∷ Published (9 ∷ []) ∷ []

reported_of_the_failure :
    (logged fails_after_a_byte (fresh 4) ≡ logged_of_the_failure ++ Answered Writer (Answer.Copy (Polled.Ready (Err (record {})))) ∷ [])
    × HasFailed (SourceAct.Bytes (9 ∷ []) ∷ SourceAct.Fail ∷ []) (told_by Writer fails_after_a_byte logged_of_the_failure).moved
reported_of_the_failure = (refl, record { fails = refl; published = refl })

-- A drain of at most three bytes of a pipe that holds two, between the two looks of the writer's
-- query.
abbrev drained_between_the_looks : List Step
drained_between_the_looks =
    Begin (Call.TryFill (7 ∷ 8 ∷ [])) ∷ Go Writer ∷ Go Writer ∷ Go Writer ∷ Go Writer ∷ Go Writer ∷ Go Writer
    ∷ Begin (Call.Query Writer Len) ∷ Go Writer
    ∷ Begin (Call.TryDrain 3) ∷ Go Reader ∷ Go Reader ∷ Go Reader ∷ Go Reader ∷ Go Reader
    ∷ Go Writer ∷ []

abbrev logged_of_the_drained : List Event
logged_of_the_drained =
    Began Writer Kind.TryFill None ∷ Looked Writer (Seen.Closed false) ∷ Looked Writer (Seen.Closed false) ∷ Published (7 ∷ 8 ∷ []) ∷ Answered Writer (Answer.Count 2)
    ∷ Began Writer (Kind.Query Len) None ∷ Looked Writer (Seen.Head 2)
    ∷ Began Reader Kind.TryDrain None ∷ Looked Reader (Seen.Tail 2) ∷ Consumed (7 ∷ 8 ∷ []) ∷ []

abbrev logged_of_the_length : List Event
logged_of_the_length = logged_of_the_drained ++ Answered Reader (Answer.Count 2) ∷ Looked Writer (Seen.Tail 0) ∷ []

reported_of_the_drained :
    (logged drained_between_the_looks (fresh 4) ≡ logged_of_the_length ++ Answered Writer (Answer.Count 2) ∷ [])
    × (told_by Reader drained_between_the_looks logged_of_the_drained ≡ record {
      coming = [];
      call = Some (Call.TryDrain 3);
      looks = Seen.Tail 2 ∷ [];
      moved = 7 ∷ 8 ∷ [];
    })
    × (told_by Writer drained_between_the_looks logged_of_the_length ≡ record {
      coming = [];
      call = Some (Call.Query Writer Len);
      looks = Seen.Tail 0 ∷ Seen.Head 2 ∷ [];
      moved = [];
    })
reported_of_the_drained = (refl, refl, refl)

-- A destination that takes one byte and then fails: it has places for one, and that byte stays
-- consumed.
abbrev destination_fails : List Step
destination_fails =
    Begin (Call.TryFill (7 ∷ 8 ∷ [])) ∷ Go Writer ∷ Go Writer ∷ Go Writer ∷ Go Writer ∷ Go Writer ∷ Go Writer
    ∷ Begin (Call.PollDrain 1 (by 1).luck (DestAct.Take 1 ∷ DestAct.Fail ∷ [])) ∷ Go Reader ∷ Go Reader ∷ Go Reader ∷ Go Reader ∷ Go Reader ∷ Go Reader ∷ []

logged_of_the_consumed : drop 5 (logged destination_fails (fresh 4)) ≡ (
    Began Reader Kind.PollDrain (Some 1) ∷ Looked Reader (Seen.Tail 2) ∷ Consumed (7 ∷ []) ∷ Answered Reader (Answer.Copy (Polled.Ready (Err (record {})))) ∷ [])
logged_of_the_consumed = refl

places_of_the_destination : (places_of (DestAct.Take 1 ∷ DestAct.Fail ∷ []) ≡ 1) × (may_fail (DestAct.Take 1 ∷ DestAct.Fail ∷ []) ≡ true)
places_of_the_destination = (refl, refl)

-- Of the same two looks the writer returns what it found first, and the reader what it found last.
numbers_found :
    (number_found Writer (Seen.Tail 0 ∷ Seen.Head 2 ∷ []) ≡ Some 2)
    × (number_found Reader (Seen.Tail 0 ∷ Seen.Head 2 ∷ []) ≡ Some 0)
    × (number_found Reader (Seen.Tail 0 ∷ []) ≡ None)
numbers_found = (refl, refl, refl)

-- After its answer a call is no longer open.
closed_by_its_answer : (told_by Writer drained_between_the_looks (logged drained_between_the_looks (fresh 4))).call ≡ None
closed_by_its_answer = refl
