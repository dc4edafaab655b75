-- A poll that returns false to the reader, what the log says of its last look, and where each side
-- is on the way.
use Rattle.std.specs.Prelude.{◌≡◌, List, [], ◌∷◌, ◌++◌, take, true, false, None, Some, refl}
use Rattle.piper_machine.specs.Types.{Answer, Call, Kind, Polled, Seen, Step, Event, Reader, Writer, Begin, Go, Began, Looked, Closed, Registered, Woken, Answered}
use Rattle.piper_machine.specs.Pipe.{Pipe, fresh}
use Rattle.piper_machine.specs.History.{unwritten, history_from}
use Rattle.piper_machine.specs.Waiting.{IsBlocked, is_between}
use Rattle.piper_machine.proofs.worked.Gone.{by, gone}

-- The reader registers, and only then the writer is dropped: it takes the reader's waker and calls
-- it.
abbrev dropped_while_it_looks : List Step
dropped_while_it_looks =
    Begin (Call.Poll Reader 1 (by 1).luck) ∷ Go Reader ∷ Go Reader
    ∷ Begin (Call.Drop Writer) ∷ Go Writer ∷ Go Writer ∷ Go Writer
    ∷ Go Reader ∷ Go Reader ∷ []

abbrev told_the_end : Event
told_the_end = Answered Reader (Answer.Poll (Polled.Ready false))

abbrev logged_up_to_the_end : List Event
logged_up_to_the_end =
    Began Reader Kind.Poll (Some 1) ∷ Looked Reader (Seen.Tail 0) ∷ Registered Reader 1
    ∷ Began Writer Kind.Drop None ∷ Closed Writer ∷ Woken 1 ∷ Answered Writer Answer.Done
    ∷ Looked Reader (Seen.Closed true) ∷ Looked Reader (Seen.Tail 0) ∷ []

told_after_the_last_look :
    ((gone dropped_while_it_looks (fresh 4)).events ≡ logged_up_to_the_end ++ told_the_end ∷ [])
    × ((history_from unwritten logged_up_to_the_end).last_look ≡ Some (record { count = 0; is_after_close = true }))
told_after_the_last_look = (refl, refl)

-- After each of these the poll may not return false to the reader: the close came after the look, a
-- byte was found, or the call has not looked yet.
abbrev first_look : List Event
first_look = Began Reader Kind.Poll (Some 1) ∷ Looked Reader (Seen.Tail 0) ∷ Closed Writer ∷ []

abbrev a_byte_left : List Event
a_byte_left = Closed Writer ∷ Began Reader Kind.Poll (Some 1) ∷ Looked Reader (Seen.Tail 1) ∷ []

abbrev no_look : List Event
no_look = Began Reader Kind.Poll (Some 1) ∷ Looked Reader (Seen.Tail 0) ∷ Closed Writer ∷ Began Reader Kind.Poll (Some 2) ∷ []

other_last_looks :
    ((history_from unwritten first_look).last_look ≡ Some (record { count = 0; is_after_close = false }))
    × ((history_from unwritten a_byte_left).last_look ≡ Some (record { count = 1; is_after_close = true }))
    × ((history_from unwritten no_look).last_look ≡ None)
other_last_looks = (refl, refl, refl)

-- An empty open pipe blocks the reader. From the store of closed to the call of its waker the
-- writer is between the two.
blocked_when_fresh : IsBlocked Reader (fresh 4)
blocked_when_fresh = (refl, refl)

abbrev after : List Step → Pipe
after steps = (gone steps (fresh 4)).pipe

between_store_and_wake :
    (is_between Reader (after (take 4 dropped_while_it_looks)) ≡ false)
    × (is_between Reader (after (take 5 dropped_while_it_looks)) ≡ true)
    × (is_between Reader (after (take 6 dropped_while_it_looks)) ≡ true)
    × (is_between Reader (after (take 7 dropped_while_it_looks)) ≡ false)
between_store_and_wake = (refl, refl, refl, refl)
