-- The call table: which step a side makes at each point of a call, and where what it found leads.
use Rattle.std.specs.Prelude.{ℕ, ◌+◌, ◌<◌, ◌^◌, ⊤, Bool, true, false, Option, None, Some, ◌==◌, Result, Ok, Err}
use Rattle.piper_protocol.specs.declared.table.Side.TheVariants.{Reader, Writer}
use Rattle.piper_protocol.specs.declared.table.Query.{Query}
use Rattle.piper_protocol.specs.declared.table.Query.TheVariants.{Len, IsEmpty, IsFull}
use Rattle.piper_protocol.specs.declared.answer.Answer.{Answer}
use Rattle.piper_protocol.specs.declared.answer.Answer.TheVariants.{Count, Flag, Poll, Copy, Done}
use Rattle.piper_protocol.specs.declared.answer.Polled.{Polled}
use Rattle.piper_protocol.specs.declared.answer.Polled.TheVariants.{Pending, Ready, Memory}
use Rattle.piper_protocol.specs.declared.answer.Failed.{Failed}
use Rattle.piper_protocol.specs.declared.table.Action.{Action}
use Rattle.piper_protocol.specs.declared.table.Action.TheVariants as does
use Rattle.piper_protocol.specs.declared.table.Form.{Form}
use Rattle.piper_protocol.specs.declared.table.Form.TheVariants.{Try, Polling}
use Rattle.piper_protocol.specs.declared.table.Purpose.{Purpose}
use Rattle.piper_protocol.specs.declared.table.Purpose.TheVariants as purpose
use Rattle.piper_protocol.specs.declared.table.AfterRead.{AfterRead}
use Rattle.piper_protocol.specs.declared.table.AfterRead.TheVariants as after_read
use Rattle.piper_protocol.specs.declared.table.AfterWrite.{AfterWrite}
use Rattle.piper_protocol.specs.declared.table.AfterWrite.TheVariants as after_write
use Rattle.piper_protocol.specs.declared.table.Found.{Found}
use Rattle.piper_protocol.specs.declared.table.Found.TheVariants.{Unread as unread, IndexLoaded as index_loaded, Flag as flag, Granted as granted, Waker as waker, Moved as moved, Failed as failed}
use Rattle.piper_protocol.specs.declared.table.ReadPoint.{ReadPoint}
use Rattle.piper_protocol.specs.declared.table.ReadPoint.TheVariants as at
use Rattle.piper_protocol.specs.declared.table.WritePoint.{WritePoint}
use Rattle.piper_protocol.specs.declared.table.WritePoint.TheVariants as on

-- where a step leads, and what the call returns if that was its last step
pub record Next (P : Type 0) : Type 0 where
  pub point : P
  pub answer : Option Answer

abbrev pub goes_on : {P : Type 0} → P → Next P
goes_on point = record { point = point; answer = None }

abbrev pub ends : {P : Type 0} → P → Answer → Next P
ends point answer = record { point = point; answer = Some answer }

-- the count of bytes that a copy has moved stays a machine's number
abbrev pub SumFits : ℕ → Found → Type 0
SumFits sum (moved n) = sum + n < 2 ^ 64
SumFits sum found = ⊤

-- how many bytes the source gave or the destination took
abbrev pub moved_in : Found → ℕ
moved_in (moved n) = n
moved_in found = 0

abbrev pub query_answer : Query → ℕ → ℕ → Answer
query_answer Len capacity count = Count count
query_answer IsEmpty capacity count = Flag (count == 0)
query_answer IsFull capacity count = Flag (count == capacity)

-- false is the end of a closed pipe; without it the caller has to wait
abbrev pub end_or_pending : Bool → Polled Bool
end_or_pending true = Ready false
end_or_pending false = Pending

-- what a copying call returns: one without a context a count, 0 where it would wait
abbrev pub count_answer : Form → ℕ → Answer
count_answer Try count = Count count
count_answer (Polling is_drawn) count = Copy (Ready (Ok count))

abbrev pub failed_answer : Answer
failed_answer = Copy (Ready (Err (record {})))

-- the answer of a yield: the caller's own waker was called, or its clone was refused
abbrev pub yield_answer : Bool → Answer
yield_answer true = Copy Pending
yield_answer false = Copy Memory

-- what a look that is not true moves: nothing
abbrev pub none_moved : Polled Bool → Polled (Result ℕ Failed)
none_moved (Ready answer) = Ready (Ok 0)
none_moved Pending = Pending
none_moved Memory = Memory

abbrev pub copy_answer : Form → Polled Bool → Answer
copy_answer Try answer = Count 0
copy_answer (Polling is_drawn) answer = Copy (none_moved answer)

-- what the call returns where its look is not true
abbrev pub look_answer : Purpose → Polled Bool → Answer
look_answer purpose.Poll answer = Poll answer
look_answer (purpose.Copy form) answer = copy_answer form answer

-- the reader

abbrev pub read_action : ReadPoint → Action
read_action at.Idle = does.Rest
read_action at.Dropped = does.Rest
read_action (at.QueryHead query) = does.LoadHead
read_action (at.QueryTail query) = does.LoadTail
read_action at.QueryClosed = does.LoadClosed
read_action (at.LookTail l) = does.LoadIndex
read_action (at.LookRegister l) = does.Register
read_action (at.LookClosed l) = does.LoadClosed
read_action (at.LookTailAgain l was_closed) = does.LoadIndex
read_action (at.LookTake l) = does.Take Reader
read_action at.Yield = does.Yield
read_action (at.CallDestination form sum) = does.CallDestination
read_action (at.StoreHead n next) = does.StoreHead n
read_action (at.TakeWriter next) = does.Take Writer
read_action (at.WakeWriter next) = does.Wake
read_action at.StoreClosed = does.StoreClosed false

-- a look finds a byte, or none: without a context neither slot nor waker is touched
abbrev pub reader_found : Purpose → ReadPoint
reader_found purpose.Poll = at.LookTake purpose.Poll
reader_found (purpose.Copy Try) = at.CallDestination Try 0
reader_found (purpose.Copy (Polling is_drawn)) = at.LookTake (purpose.Copy (Polling is_drawn))

abbrev pub reader_found_none : Purpose → ReadPoint
reader_found_none purpose.Poll = at.LookRegister purpose.Poll
reader_found_none (purpose.Copy Try) = at.LookClosed (purpose.Copy Try)
reader_found_none (purpose.Copy (Polling is_drawn)) =
    at.LookRegister (purpose.Copy (Polling is_drawn))

abbrev pub reader_looked : Bool → Purpose → ReadPoint
reader_looked true l = reader_found_none l
reader_looked false l = reader_found l

abbrev pub reader_registered : Bool → Purpose → Next ReadPoint
reader_registered true l = goes_on (at.LookClosed l)
reader_registered false l = ends at.Idle (look_answer l Memory)

abbrev pub reader_looked_again : Bool → Purpose → Bool → Next ReadPoint
reader_looked_again true l was_closed = ends at.Idle (look_answer l (end_or_pending was_closed))
reader_looked_again false l was_closed = goes_on (reader_found l)

-- where a call that looks begins: a known byte needs no load
abbrev pub reader_looks_for : Bool → Purpose → ReadPoint
reader_looks_for true l = at.LookTail l
reader_looks_for false l = reader_found l

-- a copy moves bytes, or yields
abbrev pub reader_draws : Form → ReadPoint
reader_draws (Polling true) = at.Yield
reader_draws form = at.CallDestination form 0

-- the look is true
abbrev pub reader_is_true : Purpose → Next ReadPoint
reader_is_true purpose.Poll = ends at.Idle (Poll (Ready true))
reader_is_true (purpose.Copy form) = goes_on (reader_draws form)

-- a round: a destination that takes nothing ends the call
abbrev pub reader_moved : Bool → ℕ → Form → ℕ → Next ReadPoint
reader_moved true n form sum = ends at.Idle (count_answer form sum)
reader_moved false n form sum = goes_on (at.StoreHead n (after_read.Round form (sum + n)))

abbrev pub read_done : AfterRead → Next ReadPoint
read_done after_read.Answer = ends at.Idle Done
read_done after_read.Drop = ends at.Dropped Done
read_done (after_read.Round form sum) = goes_on (at.CallDestination form sum)

abbrev pub writer_taken : AfterRead → Bool → Next ReadPoint
writer_taken next false = read_done next
writer_taken next true = goes_on (at.WakeWriter next)

-- where the reader comes to from a point, by what its step found, whatever the capacity; a query's
-- last load, which compares with the capacity, is in read_after. What has no row leads elsewhere
abbrev pub read_row : Next ReadPoint → ReadPoint → Found → Next ReadPoint
read_row elsewhere (at.QueryHead query) found = goes_on (at.QueryTail query)
read_row elsewhere at.QueryClosed (flag is_closed) = ends at.Idle (Flag is_closed)
read_row elsewhere (at.LookTail l) (index_loaded none) = goes_on (reader_looked none l)
read_row elsewhere (at.LookRegister l) (granted is_granted) = reader_registered is_granted l
read_row elsewhere (at.LookClosed l) (flag is_closed) = goes_on (at.LookTailAgain l is_closed)
read_row elsewhere (at.LookTailAgain l was_closed) (index_loaded none) = reader_looked_again none l was_closed
read_row elsewhere (at.LookTake l) found = reader_is_true l
read_row elsewhere at.Yield (granted is_granted) = ends at.Idle (yield_answer is_granted)
read_row elsewhere (at.CallDestination form sum) (moved n) = reader_moved (n == 0) n form sum
read_row elsewhere (at.CallDestination form sum) failed = ends at.Idle failed_answer
read_row elsewhere (at.StoreHead n next) found = goes_on (at.TakeWriter next)
read_row elsewhere (at.TakeWriter next) (waker is_found) = writer_taken next is_found
read_row elsewhere (at.WakeWriter next) found = read_done next
read_row elsewhere at.StoreClosed found = goes_on (at.TakeWriter after_read.Drop)
read_row elsewhere point found = elsewhere

-- the model stays where it is
abbrev pub read_step : ReadPoint → Found → Next ReadPoint
read_step point found = read_row (goes_on point) point found

-- where the reader of a pipe of this capacity comes to from a point, by what its step found
abbrev pub read_after : ℕ → ReadPoint → Found → Next ReadPoint
read_after capacity (at.QueryTail query) (unread count) =
    ends at.Idle (query_answer query capacity count)
read_after capacity point found = read_step point found

-- the writer

abbrev pub write_action : WritePoint → Action
write_action on.Idle = does.Rest
write_action on.Dropped = does.Rest
write_action (on.QueryHead query) = does.LoadHead
write_action (on.QueryTail query count) = does.LoadTail
write_action on.QueryClosed = does.LoadClosed
write_action (on.LookClosed l) = does.LoadClosed
write_action (on.LookHead l) = does.LoadIndex
write_action (on.LookRegister l) = does.Register
write_action (on.LookHeadAgain l) = does.LoadIndex
write_action (on.LookClosedAgain l) = does.LoadClosed
write_action (on.LookTake l) = does.Take Writer
write_action on.Yield = does.Yield
write_action (on.CallSource form sum) = does.CallSource
write_action (on.RoundClosed n form sum) = does.LoadClosed
write_action (on.StoreTail n next) = does.StoreTail n
write_action (on.TakeReader next) = does.Take Reader
write_action (on.WakeReader next) = does.Wake
write_action (on.StoreClosed after_write.WakeWriter) = does.StoreClosed true
write_action (on.StoreClosed next) = does.StoreClosed false
write_action on.TakeWriter = does.Take Writer
write_action on.WakeWriter = does.Wake

-- a look finds room, or none: without a context neither slot nor waker is touched
abbrev pub writer_found : Purpose → WritePoint
writer_found purpose.Poll = on.LookTake purpose.Poll
writer_found (purpose.Copy Try) = on.CallSource Try 0
writer_found (purpose.Copy (Polling is_drawn)) = on.LookTake (purpose.Copy (Polling is_drawn))

abbrev pub writer_found_none : Purpose → WritePoint
writer_found_none purpose.Poll = on.LookRegister purpose.Poll
writer_found_none (purpose.Copy Try) = on.LookHeadAgain (purpose.Copy Try)
writer_found_none (purpose.Copy (Polling is_drawn)) =
    on.LookRegister (purpose.Copy (Polling is_drawn))

-- the first load of closed: the end, or the look goes on at the known room
abbrev pub writer_is_open : Bool → Bool → Purpose → Next WritePoint
writer_is_open true none l = ends on.Idle (look_answer l (Ready false))
writer_is_open false true l = goes_on (on.LookHead l)
writer_is_open false false l = goes_on (writer_found l)

abbrev pub writer_looked : Bool → Purpose → WritePoint
writer_looked true l = writer_found_none l
writer_looked false l = writer_found l

abbrev pub writer_registered : Bool → Purpose → Next WritePoint
writer_registered true l = goes_on (on.LookHeadAgain l)
writer_registered false l = ends on.Idle (look_answer l Memory)

abbrev pub writer_looked_again : Bool → Purpose → WritePoint
writer_looked_again true l = on.LookClosedAgain l
writer_looked_again false l = writer_found l

-- a copy moves bytes, or yields
abbrev pub writer_draws : Form → WritePoint
writer_draws (Polling true) = on.Yield
writer_draws form = on.CallSource form 0

-- the look is true
abbrev pub writer_is_true : Purpose → Next WritePoint
writer_is_true purpose.Poll = ends on.Idle (Poll (Ready true))
writer_is_true (purpose.Copy form) = goes_on (writer_draws form)

-- a round: a source that gives nothing ends the call
abbrev pub writer_moved : Bool → ℕ → Form → ℕ → Next WritePoint
writer_moved true n form sum = ends on.Idle (count_answer form sum)
writer_moved false n form sum = goes_on (on.RoundClosed n form (sum + n))

-- what was given to a closed pipe is counted and not published
abbrev pub writer_rounds : Bool → ℕ → Form → ℕ → Next WritePoint
writer_rounds true n form sum = ends on.Idle (count_answer form sum)
writer_rounds false n form sum = goes_on (on.StoreTail n (after_write.Round form sum))

abbrev pub write_done : AfterWrite → Next WritePoint
write_done after_write.Answer = ends on.Idle Done
write_done after_write.Drop = ends on.Dropped Done
write_done after_write.WakeWriter = goes_on on.TakeWriter
write_done (after_write.Round form sum) = goes_on (on.CallSource form sum)

abbrev pub reader_taken : AfterWrite → Bool → Next WritePoint
reader_taken next false = write_done next
reader_taken next true = goes_on (on.WakeReader next)

abbrev pub own_taken : Bool → Next WritePoint
own_taken false = ends on.Idle Done
own_taken true = goes_on on.WakeWriter

-- where the writer comes to from a point, by what its step found, whatever the capacity and the
-- known room; a query's last load, which compares with the capacity, and the load of closed that a
-- look begins with, which goes on by the known room, are in write_after. What has no row leads
-- elsewhere
abbrev pub write_row : Next WritePoint → WritePoint → Found → Next WritePoint
write_row elsewhere (on.QueryHead query) (unread count) = goes_on (on.QueryTail query count)
write_row elsewhere on.QueryClosed (flag is_closed) = ends on.Idle (Flag is_closed)
write_row elsewhere (on.LookHead l) (index_loaded none) = goes_on (writer_looked none l)
write_row elsewhere (on.LookRegister l) (granted is_granted) = writer_registered is_granted l
write_row elsewhere (on.LookHeadAgain l) (index_loaded none) = goes_on (writer_looked_again none l)
write_row elsewhere (on.LookClosedAgain l) (flag is_closed) =
    ends on.Idle (look_answer l (end_or_pending is_closed))
write_row elsewhere (on.LookTake l) found = writer_is_true l
write_row elsewhere on.Yield (granted is_granted) = ends on.Idle (yield_answer is_granted)
write_row elsewhere (on.CallSource form sum) (moved n) = writer_moved (n == 0) n form sum
write_row elsewhere (on.CallSource form sum) failed = ends on.Idle failed_answer
write_row elsewhere (on.RoundClosed n form sum) (flag is_closed) = writer_rounds is_closed n form sum
write_row elsewhere (on.StoreTail n next) found = goes_on (on.TakeReader next)
write_row elsewhere (on.TakeReader next) (waker is_found) = reader_taken next is_found
write_row elsewhere (on.WakeReader next) found = write_done next
write_row elsewhere (on.StoreClosed next) found = goes_on (on.TakeReader next)
write_row elsewhere on.TakeWriter (waker is_found) = own_taken is_found
write_row elsewhere on.WakeWriter found = ends on.Idle Done
write_row elsewhere point found = elsewhere

abbrev pub write_step : WritePoint → Found → Next WritePoint
write_step point found = write_row (goes_on point) point found

-- where a look goes on after the load of closed that it begins with: `none` is whether no room is
-- known. Any other point leads elsewhere
abbrev pub look_begun : Next WritePoint → Bool → WritePoint → Bool → Next WritePoint
look_begun elsewhere none (on.LookClosed l) is_closed = writer_is_open is_closed none l
look_begun elsewhere none point is_closed = elsewhere

-- where the writer of a pipe of this capacity and known
-- room comes to from a point, by what its step found
abbrev pub write_after : ℕ → ℕ → WritePoint → Found → Next WritePoint
write_after capacity room (on.QueryTail query count) found =
    ends on.Idle (query_answer query capacity count)
write_after capacity room (on.LookClosed l) (flag is_closed) =
    writer_is_open is_closed (room == 0) l
write_after capacity room point found = write_step point found

-- whether the answer of a step at this point would end a fill
abbrev pub is_copy : Purpose → Bool
is_copy purpose.Poll = false
is_copy (purpose.Copy form) = true

abbrev pub ends_fill : WritePoint → Bool
ends_fill (on.LookClosed l) = is_copy l
ends_fill (on.LookRegister l) = is_copy l
ends_fill (on.LookClosedAgain l) = is_copy l
ends_fill on.Yield = true
ends_fill (on.CallSource form sum) = true
ends_fill (on.RoundClosed n form sum) = true
ends_fill point = false

-- what a point says of the bytes that its call moves

-- how many bytes a store gives up that is next
abbrev pub head_store : ReadPoint → ℕ
head_store (at.StoreHead n next) = n
head_store point = 0

-- how many bytes a store publishes that is next
abbrev pub tail_store : WritePoint → ℕ
tail_store (on.RoundClosed n form sum) = n
tail_store (on.StoreTail n next) = n
tail_store point = 0

-- whether the step that comes next publishes bytes
abbrev pub publishes : WritePoint → Bool
publishes (on.StoreTail n next) = true
publishes point = false

-- how many bytes the open copy has moved, with those of a store that is next
abbrev pub read_round : AfterRead → ℕ
read_round (after_read.Round form sum) = sum
read_round next = 0

abbrev pub read_sum : ReadPoint → ℕ
read_sum (at.CallDestination form sum) = sum
read_sum (at.StoreHead n next) = read_round next
read_sum (at.TakeWriter next) = read_round next
read_sum (at.WakeWriter next) = read_round next
read_sum point = 0

abbrev pub write_round : AfterWrite → ℕ
write_round (after_write.Round form sum) = sum
write_round next = 0

abbrev pub write_sum : WritePoint → ℕ
write_sum (on.CallSource form sum) = sum
write_sum (on.RoundClosed n form sum) = sum
write_sum (on.StoreTail n next) = write_round next
write_sum (on.TakeReader next) = write_round next
write_sum (on.WakeReader next) = write_round next
write_sum (on.StoreClosed next) = write_round next
write_sum point = 0
