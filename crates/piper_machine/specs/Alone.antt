-- What remains of a call from any point inside it, if the other side makes no step until it
-- returns.
use Rattle.std.specs.Prelude.{ℕ, ◌+◌, ◌-◌, ◌*◌, min, [], length, Bool, true, false, Option, None, Some, ◌==◌, Result, Ok}
use Rattle.piper_machine.specs.Types.{Side, Answer, Context, Polled, Failed, Form, Action, Purpose, AfterRead, AfterWrite, ReadPoint, WritePoint, Destination, Reader, Writer, Count, Done, Ready, Memory, Try, Polling, Slice, Acts}
use Rattle.piper_protocol.specs.declared.answer.Answer.TheVariants.{Flag, Poll, Copy}
use Rattle.piper_machine.specs.Open.{no_call, is_granted, is_yield_granted}
use Rattle.piper_machine.specs.Pipe.{Pipe}
use Rattle.piper_protocol.specs.Table.{count_answer, end_or_pending, is_copy, look_answer, query_answer, yield_answer}
use Rattle.piper_machine.specs.Move.{with_waker, reader_woken, writer_woken, published, consumed}
use Rattle.piper_machine.specs.Copy.{Copied, answered, drained}
use Rattle.piper_machine.specs.Scripted.{drain_moves_to, fill_moves_more}
use Rattle.piper_machine.specs.Action.{call_of, index_loaded_by, registered_in, closed_by}

-- what a call ends with
pub record Ended : Type 0 where
  pub answer : Answer
  pub pipe : Pipe

-- a step of a call that is run whole: a waker that it calls joins those that the call has called
abbrev pub waker_if : Bool → ℕ → Option ℕ
waker_if false name = None
waker_if true name = Some name

abbrev pub yield_waker : Option Context → Option ℕ
yield_waker None = None
yield_waker (Some cx) = waker_if cx.luck.yield_granted cx.waker

abbrev pub heard : Side → Action → Pipe → Pipe
heard side Action.Wake p = record p { woken = with_waker p.woken (call_of side p).taken }
heard side Action.Yield p =
    record p { woken = with_waker p.woken (yield_waker (call_of side p).context) }
heard side action p = p

-- what the rounds of a copy answer: one without a context a count,
-- and then neither end of it can fail
abbrev pub moved_answer : Form → Polled (Result ℕ Failed) → Answer
moved_answer Try (Ready (Ok n)) = Count n
moved_answer form copied = Copy copied

-- the reader

-- a call that has returned holds nothing
abbrev pub reader_left : ReadPoint → Pipe → Pipe
reader_left point p = record p { reader = point; reader_call = no_call; destination = Slice 0 }

abbrev pub reader_ended : ReadPoint → Answer → Pipe → Ended
reader_ended point answer p = record { answer = answer; pipe = reader_left point p }

-- the rounds of a drain, where so many bytes have moved before
abbrev pub drain_moves_on : Destination → ℕ → Pipe → Copied (Result ℕ Failed)
drain_moves_on (Slice size) sum p =
    let n = min size p.known in answered (Ready (Ok (sum + n))) (drained n p)
drain_moves_on (Acts acts) sum p = drain_moves_to acts sum p

abbrev pub reader_moves_alone : Form → ℕ → Pipe → Ended
reader_moves_alone form sum p =
    let moved = drain_moves_on p.destination sum (reader_left ReadPoint.Idle p) in
    record { answer = moved_answer form moved.answer; pipe = moved.pipe }

abbrev pub reader_yields_alone : Pipe → Ended
reader_yields_alone p =
    let context = p.reader_call.context in
    reader_ended ReadPoint.Idle (yield_answer (is_yield_granted context))
    (record p { woken = with_waker p.woken (yield_waker context) })

abbrev pub reader_draws_alone : Form → Pipe → Ended
reader_draws_alone (Polling true) p = reader_yields_alone p
reader_draws_alone form p = reader_moves_alone form 0 p

-- the look is true
abbrev pub reader_takes_alone : Purpose → Pipe → Ended
reader_takes_alone Purpose.Poll p =
    reader_ended ReadPoint.Idle (Poll (Ready true)) (record p { reader_waker = None })
reader_takes_alone (Purpose.Copy form) p =
    reader_draws_alone form (record p { reader_waker = None })

-- a byte is known
abbrev pub reader_finds_alone : Purpose → Pipe → Ended
reader_finds_alone (Purpose.Copy Try) p = reader_moves_alone Try 0 p
reader_finds_alone l p = reader_takes_alone l p

abbrev pub reader_again_alone : Bool → Purpose → Bool → Pipe → Ended
reader_again_alone true l was_closed p =
    reader_ended ReadPoint.Idle (look_answer l (end_or_pending was_closed)) p
reader_again_alone false l was_closed p = reader_finds_alone l p

-- the second load of tail
abbrev pub reader_looks_again_alone : Purpose → Bool → Pipe → Ended
reader_looks_again_alone l was_closed p =
    reader_again_alone (length p.unread == 0) l was_closed (index_loaded_by Reader p)

abbrev pub reader_granted_alone : Bool → Purpose → Pipe → Ended
reader_granted_alone true l p = reader_looks_again_alone l p.is_closed p
reader_granted_alone false l p = reader_ended ReadPoint.Idle (look_answer l Memory) p

abbrev pub reader_registers_alone : Purpose → Pipe → Ended
reader_registers_alone l p =
    let context = p.reader_call.context in
    reader_granted_alone (is_granted context) l
    (record p { reader_waker = registered_in context p.reader_waker })

-- no byte is known
abbrev pub reader_nobody_waits_alone : Purpose → Pipe → Ended
reader_nobody_waits_alone (Purpose.Copy Try) p =
    reader_looks_again_alone (Purpose.Copy Try) p.is_closed p
reader_nobody_waits_alone l p = reader_registers_alone l p

-- the first load of tail
abbrev pub reader_looks_alone : Bool → Purpose → Pipe → Ended
reader_looks_alone true l p = reader_nobody_waits_alone l p
reader_looks_alone false l p = reader_finds_alone l p

-- the writer was woken
abbrev pub reader_done_alone : AfterRead → Pipe → Ended
reader_done_alone AfterRead.Answer p = reader_ended ReadPoint.Idle Done p
reader_done_alone AfterRead.Drop p = reader_ended ReadPoint.Dropped Done p
reader_done_alone (AfterRead.Round form sum) p = reader_moves_alone form sum p

abbrev pub reader_remains : ReadPoint → Pipe → Ended
reader_remains ReadPoint.Idle p = reader_ended ReadPoint.Idle Done p
reader_remains ReadPoint.Dropped p = reader_ended ReadPoint.Dropped Done p
reader_remains (ReadPoint.QueryHead query) p =
    reader_ended ReadPoint.Idle (query_answer query p.capacity (length p.unread)) p
reader_remains (ReadPoint.QueryTail query) p =
    reader_ended ReadPoint.Idle (query_answer query p.capacity (length p.unread)) p
reader_remains ReadPoint.QueryClosed p = reader_ended ReadPoint.Idle (Flag p.is_closed) p
reader_remains (ReadPoint.LookTail l) p =
    reader_looks_alone (length p.unread == 0) l (index_loaded_by Reader p)
reader_remains (ReadPoint.LookRegister l) p = reader_registers_alone l p
reader_remains (ReadPoint.LookClosed l) p = reader_looks_again_alone l p.is_closed p
reader_remains (ReadPoint.LookTailAgain l was_closed) p = reader_looks_again_alone l was_closed p
reader_remains (ReadPoint.LookTake l) p = reader_takes_alone l p
reader_remains ReadPoint.Yield p = reader_yields_alone p
reader_remains (ReadPoint.CallDestination form sum) p = reader_moves_alone form sum p
reader_remains (ReadPoint.StoreHead n next) p = reader_done_alone next (writer_woken (consumed n p))
reader_remains (ReadPoint.TakeWriter next) p = reader_done_alone next (writer_woken p)
reader_remains (ReadPoint.WakeWriter next) p =
    reader_done_alone next (record p { woken = with_waker p.woken p.reader_call.taken })
reader_remains ReadPoint.StoreClosed p =
    reader_done_alone AfterRead.Drop (writer_woken (closed_by false p))

-- the point itself is of no more use
abbrev pub reader_alone : ReadPoint → Pipe → Ended
reader_alone point p = reader_remains point (record p { reader = ReadPoint.Idle })

-- the most steps of the rounds that remain, where so many bytes are known:
-- a round makes four, and a last one calls the destination
abbrev pub drain_steps : ℕ → ℕ
drain_steps known = 1 + 4 * known

abbrev pub read_look_steps : ℕ → ℕ → Purpose → ℕ
read_look_steps own known Purpose.Poll = own
read_look_steps own known (Purpose.Copy form) = own + drain_steps known

abbrev pub read_steps_after : ℕ → AfterRead → ℕ
read_steps_after known (AfterRead.Round form sum) = drain_steps known
read_steps_after known next = 0

-- the most steps that remain, where the look finds so many bytes and so many are known
abbrev pub read_steps : ℕ → ℕ → ReadPoint → ℕ
read_steps found known ReadPoint.Idle = 0
read_steps found known ReadPoint.Dropped = 0
read_steps found known (ReadPoint.QueryHead query) = 2
read_steps found known (ReadPoint.QueryTail query) = 1
read_steps found known ReadPoint.QueryClosed = 1
read_steps found known (ReadPoint.LookTail l) = read_look_steps 5 found l
read_steps found known (ReadPoint.LookRegister l) = read_look_steps 4 found l
read_steps found known (ReadPoint.LookClosed l) = read_look_steps 3 found l
read_steps found known (ReadPoint.LookTailAgain l was_closed) = read_look_steps 2 found l
read_steps found known (ReadPoint.LookTake l) = read_look_steps 1 known l
read_steps found known ReadPoint.Yield = 1
read_steps found known (ReadPoint.CallDestination form sum) = drain_steps known
read_steps found known (ReadPoint.StoreHead n next) = 3 + read_steps_after (known - n) next
read_steps found known (ReadPoint.TakeWriter next) = 2 + read_steps_after known next
read_steps found known (ReadPoint.WakeWriter next) = 1 + read_steps_after known next
read_steps found known ReadPoint.StoreClosed = 3

-- the open call is a drain
abbrev pub is_drain_round : AfterRead → Bool
is_drain_round (AfterRead.Round form sum) = true
is_drain_round next = false

abbrev pub is_draining : ReadPoint → Bool
is_draining (ReadPoint.LookTail l) = is_copy l
is_draining (ReadPoint.LookRegister l) = is_copy l
is_draining (ReadPoint.LookClosed l) = is_copy l
is_draining (ReadPoint.LookTailAgain l was_closed) = is_copy l
is_draining (ReadPoint.LookTake l) = is_copy l
is_draining ReadPoint.Yield = true
is_draining (ReadPoint.CallDestination form sum) = true
is_draining (ReadPoint.StoreHead n next) = is_drain_round next
is_draining (ReadPoint.TakeWriter next) = is_drain_round next
is_draining (ReadPoint.WakeWriter next) = is_drain_round next
is_draining point = false

-- the most wakers that a call which copies nothing still calls
abbrev pub read_wakes : ReadPoint → ℕ
read_wakes (ReadPoint.StoreHead n next) = 1
read_wakes (ReadPoint.TakeWriter next) = 1
read_wakes (ReadPoint.WakeWriter next) = 1
read_wakes ReadPoint.StoreClosed = 1
read_wakes point = 0

-- the writer

abbrev pub writer_left : WritePoint → Pipe → Pipe
writer_left point p = record p { writer = point; writer_call = no_call; source = [] }

abbrev pub writer_ended : WritePoint → Answer → Pipe → Ended
writer_ended point answer p = record { answer = answer; pipe = writer_left point p }

-- a fill leaves nothing lent
abbrev pub writer_filled : Answer → Pipe → Ended
writer_filled answer p = writer_ended WritePoint.Idle answer (record p { lent = [] })

abbrev pub writer_looked_alone : Purpose → Polled Bool → Pipe → Ended
writer_looked_alone Purpose.Poll answer p = writer_ended WritePoint.Idle (Poll answer) p
writer_looked_alone (Purpose.Copy form) answer p =
    writer_filled (look_answer (Purpose.Copy form) answer) p

-- the rounds of a fill of an open pipe, where so many bytes have moved before
abbrev pub writer_moves_alone : Form → ℕ → Pipe → Ended
writer_moves_alone form sum p =
    let moved = fill_moves_more sum p.source p in
    writer_ended WritePoint.Idle (moved_answer form moved.answer) moved.pipe

abbrev pub writer_yields_alone : Pipe → Ended
writer_yields_alone p =
    let context = p.writer_call.context in
    writer_filled (yield_answer (is_yield_granted context))
    (record p { woken = with_waker p.woken (yield_waker context) })

abbrev pub writer_draws_alone : Form → Pipe → Ended
writer_draws_alone (Polling true) p = writer_yields_alone p
writer_draws_alone form p = writer_moves_alone form 0 p

-- the look is true
abbrev pub writer_takes_alone : Purpose → Pipe → Ended
writer_takes_alone Purpose.Poll p =
    writer_ended WritePoint.Idle (Poll (Ready true)) (record p { writer_waker = None })
writer_takes_alone (Purpose.Copy form) p =
    writer_draws_alone form (record p { writer_waker = None })

-- room is known
abbrev pub writer_finds_alone : Purpose → Pipe → Ended
writer_finds_alone (Purpose.Copy Try) p = writer_moves_alone Try 0 p
writer_finds_alone l p = writer_takes_alone l p

abbrev pub writer_again_alone : Bool → Purpose → Pipe → Ended
writer_again_alone true l p = writer_looked_alone l (end_or_pending p.is_closed) p
writer_again_alone false l p = writer_finds_alone l p

-- the second load of head
abbrev pub writer_looks_again_alone : Purpose → Pipe → Ended
writer_looks_again_alone l p = let q = index_loaded_by Writer p in writer_again_alone (q.room == 0) l q

abbrev pub writer_granted_alone : Bool → Purpose → Pipe → Ended
writer_granted_alone true l p = writer_looks_again_alone l p
writer_granted_alone false l p = writer_looked_alone l Memory p

abbrev pub writer_registers_alone : Purpose → Pipe → Ended
writer_registers_alone l p =
    let context = p.writer_call.context in
    writer_granted_alone (is_granted context) l
    (record p { writer_waker = registered_in context p.writer_waker })

-- no room is known
abbrev pub writer_nobody_waits_alone : Purpose → Pipe → Ended
writer_nobody_waits_alone (Purpose.Copy Try) p = writer_looks_again_alone (Purpose.Copy Try) p
writer_nobody_waits_alone l p = writer_registers_alone l p

-- the first load of head
abbrev pub writer_looks_alone : Bool → Purpose → Pipe → Ended
writer_looks_alone true l p = writer_nobody_waits_alone l p
writer_looks_alone false l p = writer_finds_alone l p

abbrev pub writer_loads_alone : Purpose → Pipe → Ended
writer_loads_alone l p = let q = index_loaded_by Writer p in writer_looks_alone (q.room == 0) l q

-- the first load of closed
abbrev pub writer_open_alone : Bool → Bool → Purpose → Pipe → Ended
writer_open_alone true none l p = writer_looked_alone l (Ready false) p
writer_open_alone false true l p = writer_loads_alone l p
writer_open_alone false false l p = writer_finds_alone l p

-- the reader was woken; a close wakes the writer too
abbrev pub writer_done_alone : AfterWrite → Pipe → Ended
writer_done_alone AfterWrite.Answer p = writer_ended WritePoint.Idle Done p
writer_done_alone AfterWrite.Drop p = writer_ended WritePoint.Dropped Done p
writer_done_alone AfterWrite.WakeWriter p = writer_ended WritePoint.Idle Done (writer_woken p)
writer_done_alone (AfterWrite.Round form sum) p = writer_moves_alone form sum p

-- a round that was given n bytes
abbrev pub writer_rounds_alone : Bool → ℕ → Form → ℕ → Pipe → Ended
writer_rounds_alone true n form sum p = writer_filled (count_answer form sum) p
writer_rounds_alone false n form sum p = writer_moves_alone form sum (reader_woken (published n p))

-- only a close shuts
abbrev pub shuts : AfterWrite → Bool
shuts AfterWrite.WakeWriter = true
shuts next = false

abbrev pub writer_remains : WritePoint → Pipe → Ended
writer_remains WritePoint.Idle p = writer_ended WritePoint.Idle Done p
writer_remains WritePoint.Dropped p = writer_ended WritePoint.Dropped Done p
writer_remains (WritePoint.QueryHead query) p =
    writer_ended WritePoint.Idle (query_answer query p.capacity (length p.unread)) p
writer_remains (WritePoint.QueryTail query count) p =
    writer_ended WritePoint.Idle (query_answer query p.capacity count) p
writer_remains WritePoint.QueryClosed p = writer_ended WritePoint.Idle (Flag p.is_closed) p
writer_remains (WritePoint.LookClosed l) p = writer_open_alone p.is_closed (p.room == 0) l p
writer_remains (WritePoint.LookHead l) p = writer_loads_alone l p
writer_remains (WritePoint.LookRegister l) p = writer_registers_alone l p
writer_remains (WritePoint.LookHeadAgain l) p = writer_looks_again_alone l p
writer_remains (WritePoint.LookClosedAgain l) p = writer_looked_alone l (end_or_pending p.is_closed) p
writer_remains (WritePoint.LookTake l) p = writer_takes_alone l p
writer_remains WritePoint.Yield p = writer_yields_alone p
writer_remains (WritePoint.CallSource form sum) p = writer_moves_alone form sum p
writer_remains (WritePoint.RoundClosed n form sum) p = writer_rounds_alone p.is_closed n form sum p
writer_remains (WritePoint.StoreTail n next) p = writer_done_alone next (reader_woken (published n p))
writer_remains (WritePoint.TakeReader next) p = writer_done_alone next (reader_woken p)
writer_remains (WritePoint.WakeReader next) p =
    writer_done_alone next (record p { woken = with_waker p.woken p.writer_call.taken })
writer_remains (WritePoint.StoreClosed next) p =
    writer_done_alone next (reader_woken (closed_by (shuts next) p))
writer_remains WritePoint.TakeWriter p = writer_ended WritePoint.Idle Done (writer_woken p)
writer_remains WritePoint.WakeWriter p =
    writer_ended WritePoint.Idle Done (record p { woken = with_waker p.woken p.writer_call.taken })

abbrev pub writer_alone : WritePoint → Pipe → Ended
writer_alone point p = writer_remains point (record p { writer = WritePoint.Idle })

-- the most steps of the rounds that remain, where so much room is known:
-- a round makes five, and a last one calls the source
abbrev pub fill_steps : ℕ → ℕ
fill_steps room = 1 + 5 * room

abbrev pub write_look_steps : ℕ → ℕ → Purpose → ℕ
write_look_steps own room Purpose.Poll = own
write_look_steps own room (Purpose.Copy form) = own + fill_steps room

-- what a close or the next round adds
abbrev pub steps_after : ℕ → AfterWrite → ℕ
steps_after room AfterWrite.WakeWriter = 2
steps_after room (AfterWrite.Round form sum) = fill_steps room
steps_after room next = 0

abbrev pub wakes_after : AfterWrite → ℕ
wakes_after AfterWrite.WakeWriter = 1
wakes_after next = 0

-- the most steps that remain, where the look finds so much room and so much is known
abbrev pub write_steps : ℕ → ℕ → WritePoint → ℕ
write_steps found room WritePoint.Idle = 0
write_steps found room WritePoint.Dropped = 0
write_steps found room (WritePoint.QueryHead query) = 2
write_steps found room (WritePoint.QueryTail query count) = 1
write_steps found room WritePoint.QueryClosed = 1
write_steps found room (WritePoint.LookClosed l) = write_look_steps 5 found l
write_steps found room (WritePoint.LookHead l) = write_look_steps 4 found l
write_steps found room (WritePoint.LookRegister l) = write_look_steps 3 found l
write_steps found room (WritePoint.LookHeadAgain l) = write_look_steps 2 found l
write_steps found room (WritePoint.LookClosedAgain l) = 1
write_steps found room (WritePoint.LookTake l) = write_look_steps 1 room l
write_steps found room WritePoint.Yield = 1
write_steps found room (WritePoint.CallSource form sum) = fill_steps room
write_steps found room (WritePoint.RoundClosed n form sum) = 4 + fill_steps (room - n)
write_steps found room (WritePoint.StoreTail n next) = 3 + steps_after (room - n) next
write_steps found room (WritePoint.TakeReader next) = 2 + steps_after room next
write_steps found room (WritePoint.WakeReader next) = 1 + steps_after room next
write_steps found room (WritePoint.StoreClosed next) = 3 + steps_after room next
write_steps found room WritePoint.TakeWriter = 2
write_steps found room WritePoint.WakeWriter = 1

-- the open call is a fill
abbrev pub is_fill_round : AfterWrite → Bool
is_fill_round (AfterWrite.Round form sum) = true
is_fill_round next = false

abbrev pub is_filling : WritePoint → Bool
is_filling (WritePoint.LookClosed l) = is_copy l
is_filling (WritePoint.LookHead l) = is_copy l
is_filling (WritePoint.LookRegister l) = is_copy l
is_filling (WritePoint.LookHeadAgain l) = is_copy l
is_filling (WritePoint.LookClosedAgain l) = is_copy l
is_filling (WritePoint.LookTake l) = is_copy l
is_filling WritePoint.Yield = true
is_filling (WritePoint.CallSource form sum) = true
is_filling (WritePoint.RoundClosed n form sum) = true
is_filling (WritePoint.StoreTail n next) = is_fill_round next
is_filling (WritePoint.TakeReader next) = is_fill_round next
is_filling (WritePoint.WakeReader next) = is_fill_round next
is_filling (WritePoint.StoreClosed next) = is_fill_round next
is_filling point = false

abbrev pub write_wakes : WritePoint → ℕ
write_wakes (WritePoint.StoreTail n next) = 1 + wakes_after next
write_wakes (WritePoint.TakeReader next) = 1 + wakes_after next
write_wakes (WritePoint.WakeReader next) = 1 + wakes_after next
write_wakes (WritePoint.StoreClosed next) = 1 + wakes_after next
write_wakes WritePoint.TakeWriter = 1
write_wakes WritePoint.WakeWriter = 1
write_wakes point = 0

-- either side

-- between two calls a side holds nothing of one
abbrev pub resting : Side → Pipe → Pipe
resting Reader p = reader_left ReadPoint.Idle p
resting Writer p = writer_left WritePoint.Idle p

-- what remains of its open call
abbrev pub alone_of : Side → Pipe → Ended
alone_of Reader p = reader_alone p.reader p
alone_of Writer p = writer_alone p.writer p

-- that call is a copy
abbrev pub is_copying : Side → Pipe → Bool
is_copying Reader p = is_draining p.reader
is_copying Writer p = is_filling p.writer

-- the most wakers that it still calls, if it is none
abbrev pub wakes_of : Side → Pipe → ℕ
wakes_of Reader p = read_wakes p.reader
wakes_of Writer p = write_wakes p.writer
