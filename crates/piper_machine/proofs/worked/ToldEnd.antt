-- A reported end, and what may be logged after it.
use Rattle.std.proofs.Common.{inl, inr, ◌≡◌, List, [], ◌∷◌, ◌++◌, true, false, None, Some, Ok, refl}
use Rattle.piper_machine.specs.Types.{Answer, Call, Kind, Polled, Seen, Step, Event, Reader, Writer, Len, Begin, Go, Began, Looked, Published, Closed, Registered, Answered}
use Rattle.piper_machine.specs.Pipe.{fresh}
use Rattle.piper_machine.specs.End.{saw_closed, found_none}
use Rattle.piper_machine.specs.Final.{told_end, IsAfterEnd}
use Rattle.piper_machine.proofs.worked.Gone.{by, gone}

-- A writer with a lent slice closes; a poll reports the end to the reader; then the writer can
-- publish no byte, and the end is reported again.
abbrev asked_twice : List Step
asked_twice =
    Begin (Call.WriteBuf 2) ∷ Begin Call.Close ∷ Go Writer ∷ Go Writer ∷ Go Writer
    ∷ Begin (Call.Poll Reader 1 (by 1).luck) ∷ Go Reader ∷ Go Reader ∷ Go Reader ∷ Go Reader
    ∷ Begin (Call.Produced 0) ∷ Go Writer ∷ []

abbrev before_the_end : List Event
before_the_end =
    Began Writer Kind.WriteBuf None ∷ Answered Writer (Answer.Lent 2) ∷ Began Writer Kind.Close None ∷ Closed Writer ∷ Answered Writer Answer.Done
    ∷ Began Reader Kind.Poll (Some 1) ∷ Looked Reader (Seen.Tail 0) ∷ Registered Reader 1 ∷ Looked Reader (Seen.Closed true) ∷ Looked Reader (Seen.Tail 0) ∷ []

abbrev after_the_end : List Event
after_the_end = Began Writer Kind.Produced None ∷ Published [] ∷ []

told_and_empty :
    ((gone asked_twice (fresh 4)).events ≡ before_the_end ++ told_end ∷ after_the_end)
    × ((gone asked_twice (fresh 4)).pipe.unread ≡ [])
told_and_empty = (refl, refl)

-- A drain finds the end as a poll does, and returns no byte; the writer checks the same empty pipe
-- after it.
abbrev drained_to_the_end : List Step
drained_to_the_end =
    Begin Call.Close ∷ Go Writer ∷ Go Writer ∷ Go Writer
    ∷ Begin (Call.TryDrain 4) ∷ Go Reader ∷ Go Reader ∷ Go Reader
    ∷ Begin (Call.Query Writer Len) ∷ Go Writer ∷ []

abbrev before_it_is_found : List Event
before_it_is_found =
    Began Writer Kind.Close None ∷ Closed Writer ∷ Answered Writer Answer.Done
    ∷ Began Reader Kind.TryDrain None ∷ Looked Reader (Seen.Tail 0) ∷ Looked Reader (Seen.Closed true) ∷ []

abbrev after_what_is_found : List Event
after_what_is_found = Answered Reader (Answer.Count 0) ∷ Began Writer (Kind.Query Len) None ∷ Looked Writer (Seen.Head 0) ∷ []

found_by_a_drain :
    ((gone drained_to_the_end (fresh 4)).events ≡ before_it_is_found ++ found_none ∷ after_what_is_found)
    × (saw_closed Reader before_it_is_found ≡ true)
found_by_a_drain = (refl, refl)

-- A drain that checked closed before the close returns 0 as well, and found no end: the writer may
-- have published in between.
abbrev drained_over_the_drop : List Step
drained_over_the_drop = Begin (Call.TryDrain 4) ∷ Go Reader ∷ Go Reader ∷ Begin (Call.Drop Writer) ∷ Go Writer ∷ Go Reader ∷ []

abbrev before_its_last_look : List Event
before_its_last_look =
    Began Reader Kind.TryDrain None ∷ Looked Reader (Seen.Tail 0) ∷ Looked Reader (Seen.Closed false)
    ∷ Began Writer Kind.Drop None ∷ Closed Writer ∷ []

zero_is_no_end :
    ((gone drained_over_the_drop (fresh 4)).events ≡ before_its_last_look ++ found_none ∷ Answered Reader (Answer.Count 0) ∷ [])
    × (saw_closed Reader before_its_last_look ≡ false)
zero_is_no_end = (refl, refl)

-- what a call saw is forgotten with the next
forgotten_by_the_next : saw_closed Reader (before_it_is_found ++ Began Reader (Kind.Query Len) None ∷ []) ≡ false
forgotten_by_the_next = refl

-- The reader closes its own end in the middle of a publication: a drop of the reader does not shut,
-- and the writer goes on. No end was reported, so this is allowed.
abbrev published_after_a_drop : List Step
published_after_a_drop = Begin (Call.WriteBuf 2) ∷ Begin (Call.Produced 1) ∷ Begin (Call.Drop Reader) ∷ Go Reader ∷ Go Writer ∷ []

drop_is_no_end : (gone published_after_a_drop (fresh 4)).pipe.unread ≡ 0 ∷ []
drop_is_no_end = refl

-- what may follow it, and what may not
allowed : IsAfterEnd told_end × IsAfterEnd (Answered Reader (Answer.Poll Polled.Memory)) × IsAfterEnd (Published [])
allowed = (inl refl, inr refl, refl)

byte_refused : IsAfterEnd (Published (7 ∷ [])) → ⊥
byte_refused none = absurd (cc)

true_refused : IsAfterEnd (Answered Reader (Answer.Poll (Polled.Ready true))) → ⊥
true_refused (inl same) = absurd (cc)
true_refused (inr same) = absurd (cc)

pending_refused : IsAfterEnd (Answered Reader (Answer.Poll Polled.Pending)) → ⊥
pending_refused (inl same) = absurd (cc)
pending_refused (inr same) = absurd (cc)

drains_allowed : IsAfterEnd (Answered Reader (Answer.Count 0)) × IsAfterEnd (Answered Reader (Answer.Copy (Polled.Ready (Ok 0)))) × IsAfterEnd (Answered Reader (Answer.Copy Polled.Memory))
drains_allowed = (refl, inl refl, inr refl)

waiting_drain_refused : IsAfterEnd (Answered Reader (Answer.Copy Polled.Pending)) → ⊥
waiting_drain_refused (inl same) = absurd (cc)
waiting_drain_refused (inr same) = absurd (cc)

open_pipe_refused : IsAfterEnd (Looked Reader (Seen.Closed false)) → ⊥
open_pipe_refused same = absurd (cc)
