-- Where a step of the writer leads: fewer steps remain, no more calls of the source, and a poll is
-- true only where room is known.
use Rattle.std.proofs.Common.{◌≡◌, ℕ, ◌+◌, ◌-◌, ◌<◌, ◌≤◌, List, true, false, None, arith}
use Rattle.std.specs.Prelude.{⊤}
use Rattle.piper_machine.specs.Types.{Purpose, AfterWrite, WritePoint, Writer}
use Rattle.piper_protocol.specs.Table.{Next, write_action, write_after}
use Rattle.piper_machine.specs.Pipe.{Pipe}
use Rattle.piper_machine.specs.Action.{performed, found_by}
use Rattle.piper_machine.specs.Step.{MayOffer, offering}
use Rattle.piper_machine.specs.Refusal.{writer_state, cannot_go}
use Rattle.piper_machine.specs.Alone.{write_steps}
use Rattle.piper_machine.specs.Known.{Knowledge}
use Rattle.piper_machine.specs.Called.{calls_of}
use Rattle.piper_machine.proofs.Knowing.{Fits, learned, IsReadyNext}

-- the calls of the source that remain at most
abbrev look_calls : ℕ → Purpose → ℕ
look_calls room Purpose.Poll = 0
look_calls room (Purpose.Copy form) = 1 + room

abbrev calls_after : ℕ → AfterWrite → ℕ
calls_after room (AfterWrite.Round form sum) = 1 + room
calls_after room next = 0

abbrev pub write_calls : ℕ → ℕ → WritePoint → ℕ
write_calls found room (WritePoint.LookClosed l) = look_calls found l
write_calls found room (WritePoint.LookHead l) = look_calls found l
write_calls found room (WritePoint.LookRegister l) = look_calls found l
write_calls found room (WritePoint.LookHeadAgain l) = look_calls found l
write_calls found room (WritePoint.LookTake l) = look_calls room l
write_calls found room (WritePoint.CallSource form sum) = 1 + room
write_calls found room (WritePoint.RoundClosed n form sum) = 1 + (room - n)
write_calls found room (WritePoint.StoreTail n next) = calls_after (room - n) next
write_calls found room (WritePoint.TakeReader next) = calls_after room next
write_calls found room (WritePoint.WakeReader next) = calls_after room next
write_calls found room (WritePoint.StoreClosed next) = calls_after room next
write_calls found room point = 0

-- before a look has found something it can still find anything
abbrev pub write_least : ℕ → WritePoint → ℕ
write_least found (WritePoint.LookClosed l) = 0
write_least found (WritePoint.LookHead l) = 0
write_least found (WritePoint.LookRegister l) = 0
write_least found (WritePoint.LookHeadAgain l) = 0
write_least found (WritePoint.LookClosedAgain l) = 0
write_least found point = found

-- what the writer's point reports of what it knows
abbrev pub WriterSees : WritePoint → ℕ → Knowledge → Type 0
WriterSees (WritePoint.QueryHead query) room k = (k.is_query ≡ true)
WriterSees (WritePoint.LookClosed l) room k = (k.is_query ≡ false) × (room ≤ k.found)
WriterSees (WritePoint.LookHead l) room k = (k.is_query ≡ false)
WriterSees (WritePoint.LookRegister l) room k = (k.is_query ≡ false)
WriterSees (WritePoint.LookHeadAgain l) room k = (k.is_query ≡ false)
WriterSees (WritePoint.LookTake l) room k = (1 ≤ room)
WriterSees point room k = ⊤

pub writer-fits : (point : WritePoint) (room : ℕ) (k : Knowledge) → WriterSees point room k → Fits Writer (write_action point) k
writer-fits point room k sees = grind arith

-- where a look finds so much
pub record WriteNearer (f : ℕ) (point : WritePoint) (found room : ℕ) (next : WritePoint) (room_next : ℕ) : Type 0 where
  pub from : write_least found point ≤ f
  pub steps : write_steps f room_next next < write_steps f room point
  pub calls : calls_of (write_action point) + write_calls f room_next next ≤ write_calls f room point

pub record WriterGoes (point : WritePoint) (room : ℕ) (k : Knowledge) (next : Next WritePoint) (room_next : ℕ) (k_next : Knowledge) : Type 0 where
  pub sees : WriterSees next.point room_next k_next
  pub ready : room_next ≤ k_next.known → IsReadyNext Writer k_next next.answer
  pub nearer : (f : ℕ) → write_least k_next.found next.point ≤ f → WriteNearer f point k.found room next.point room_next

-- the writer makes its step, with what is lent to a call of the source
abbrev pub writer_next : WritePoint → Pipe → Next WritePoint
writer_next point p = write_after p.capacity p.room point (found_by Writer (write_action point) p)

pub writer-goes : (point : WritePoint) (lent : List ℕ) (p : Pipe) (k : Knowledge) → WriterSees point p.room k → MayOffer point p.source lent p → cannot_go (writer_state point) ≡ None
    → let q = offering lent (record p { writer = point }) in WriterGoes point p.room k (writer_next point q) (performed Writer (write_action point) q).room (learned Writer (write_action point) q k)
writer-goes point lent p k sees may busy = grind arith
