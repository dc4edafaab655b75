-- The writer as a waiter, from point to point of its own calls, and what each of its steps is to a
-- waiting reader.
use Rattle.std.proofs.Common.{◌≡◌, ℕ, List, length, Bool, true, Option, None, Some, ◌==◌, refl, arith, []}
use Rattle.std.proofs.lemmas.Grind.{common_steps}
use Rattle.std.specs.Bool.{⊤}
use Rattle.piper_machine.specs.Types.{Context, SourceAct, Purpose, AfterWrite, WritePoint, Reader, Writer, Done}
use Rattle.piper_protocol.specs.Table.{Next, write_action, writer_is_open, yield_answer, write_done}
use Rattle.piper_machine.specs.Log.{answer_event}
use Rattle.piper_machine.specs.Open.{is_yield_granted}
use Rattle.piper_machine.specs.Pipe.{Pipe}
use Rattle.piper_machine.specs.Sound.{IsSound}
use Rattle.piper_machine.specs.Action.{logged_of, registration_of, wake_of, yield_of}
use Rattle.piper_machine.specs.Step.{call_after, went, offering}
use Rattle.piper_machine.specs.Waiting.{IsBlocked}
use Rattle.piper_machine.specs.Wait.{Wait, wait_from}
use Rattle.piper_machine.proofs.Watching.{Errand, write_errand, Watched, same, Touch, rests, stores, finds, misses, calls, IsHanded, HasBegun, Awaits, yielded, yield-heard, answered-passes, registration-passes, wake-heard, context_of}

-- what holds of the pipe while the waker is registered in the slot: nothing any more once the
-- writer itself has closed; after its own take it is not there, and a close that wakes the reader
-- alone does not occur
abbrev pub write_calm : WritePoint → Pipe → Type 0
write_calm WritePoint.Dropped p = ⊤
write_calm (WritePoint.TakeReader AfterWrite.Drop) p = ⊤
write_calm (WritePoint.TakeReader AfterWrite.WakeWriter) p = ⊤
write_calm (WritePoint.WakeReader AfterWrite.Drop) p = ⊤
write_calm (WritePoint.WakeReader AfterWrite.WakeWriter) p = ⊤
write_calm WritePoint.TakeWriter p = ⊤
write_calm WritePoint.WakeWriter p = ⊥
write_calm (WritePoint.StoreClosed AfterWrite.Answer) p = ⊥
write_calm (WritePoint.StoreClosed (AfterWrite.Round form sum)) p = ⊥
write_calm point p = IsBlocked Writer p

-- what the writer took from its own slot
abbrev pub write_held : WritePoint → Option ℕ → Option ℕ
write_held WritePoint.WakeWriter taken = taken
write_held point taken = None

-- inside a look: handed over, and after the registration watched over
abbrev pub WriteLook : WritePoint → Pipe → Errand → Wait → Type 0
WriteLook (WritePoint.LookClosed l) p e w = HasBegun l p.writer_call.context w
WriteLook (WritePoint.LookHead l) p e w = HasBegun l p.writer_call.context w
WriteLook (WritePoint.LookRegister l) p e w = IsHanded p.writer_call.context w
WriteLook (WritePoint.LookHeadAgain l) p e w = HasBegun l p.writer_call.context w × Awaits l w p.writer_waker ⊤ e
WriteLook (WritePoint.LookClosedAgain l) p e w = HasBegun l p.writer_call.context w × Awaits l w p.writer_waker (length p.unread ≡ p.capacity) e
WriteLook (WritePoint.LookTake l) p e w = IsHanded p.writer_call.context w
WriteLook WritePoint.Yield p e w = IsHanded p.writer_call.context w
WriteLook point p e w = ⊤

pub record WriteWaits (p : Pipe) (e : Errand) (w : Wait) : Type 0 where
  pub waiting : w.is_pending ≡ true → Watched w p.writer_waker (write_held p.writer p.writer_call.taken) (write_calm p.writer p) e
  pub look : WriteLook p.writer p e w

-- a step of the reader

pub writer-touched : (p q : Pipe) (e e_after : Errand) (w v : Wait) → q.writer ≡ p.writer → q.writer_call ≡ p.writer_call → Touch p q p.writer_waker q.writer_waker e e_after w v → WriteWaits p e w → WriteWaits q e_after v
writer-touched p q e e_after w v point call t h = grind arith

-- the writer's own steps

-- the writer makes its next step
abbrev Goes : Pipe → Errand → Wait → Type 0
Goes p e w = WriteWaits p e w → let to = went Writer p in WriteWaits to.pipe e (wait_from Writer w to.events)

-- a call that goes on, or has returned, with this left of its source and of what is lent
abbrev IsValid : Next WritePoint → List SourceAct → List ℕ → Pipe → Errand → Wait → Type 0
IsValid next source lent p e w =
    WriteWaits (record p { writer = next.point; writer_call = call_after next.answer p.writer_call; source = source; lent = lent }) e (wait_from Writer w (answer_event Writer next.answer))

opens : (l : Purpose) (is_closed none : Bool) (source : List SourceAct) (lent : List ℕ) (p : Pipe) (e : Errand) (w : Wait) → WriteWaits (record p { writer = WritePoint.LookClosed l }) e w → IsValid (writer_is_open is_closed none l) source lent p e w
opens l is_closed none source lent p e w h = grind arith

abbrev with_context : Option Context → Option ℕ → Purpose → Pipe → Pipe
with_context context taken l p = record p { writer = WritePoint.LookRegister l; writer_call = record { context = context; taken = taken } }

registers : (l : Purpose) (granted : Bool) (waker draw : ℕ) (yields : Bool) (taken : Option ℕ) (p : Pipe) (e : Errand) (w : Wait)
    → Goes (with_context (Some (context_of granted waker draw yields)) taken l p) e w
registers l granted waker draw yields taken p e w h = grind arith

-- a yield: the call returns pending, and its waker was called
yields : (granted : Bool) (waker draw : ℕ) (registers : Bool) (taken : Option ℕ) (p : Pipe) (e : Errand) (w : Wait)
    → Goes (record p { writer = WritePoint.Yield; writer_call = record { context = Some (record { waker = waker; luck = record { draw = draw; register_granted = registers; yield_granted = granted } }); taken = taken } }) e w
yields granted waker draw registers taken p e w h = grind arith

publishes : (next : AfterWrite) (n : ℕ) (p : Pipe) (e : Errand) (w : Wait) → IsSound (record p { writer = WritePoint.StoreTail n next }) → Goes (record p { writer = WritePoint.StoreTail n next }) e w
publishes next n p e w sound h = grind (arith, common_steps)

-- the writer makes its next step, where a call of the source is lent these places first
abbrev pub GoesOffered : List ℕ → Pipe → Errand → Wait → Type 0
GoesOffered offered p e w = WriteWaits p e w → let to = went Writer (offering offered p) in WriteWaits to.pipe e (wait_from Writer w to.events)

pub writer-goes : (offered : List ℕ) (point : WritePoint) (p : Pipe) (e : Errand) (w : Wait) → IsSound (record p { writer = point }) → GoesOffered offered (record p { writer = point }) e w
writer-goes offered WritePoint.Idle p e w sound h = record { waiting = h.waiting; look = tt }
writer-goes offered WritePoint.Dropped p e w sound h = record { waiting = h.waiting; look = tt }
writer-goes offered (WritePoint.QueryHead query) p e w sound h = record { waiting = h.waiting; look = tt }
writer-goes offered (WritePoint.QueryTail query count) p e w sound h = grind arith
writer-goes offered WritePoint.QueryClosed p e w sound h = record { waiting = h.waiting; look = tt }
writer-goes offered (WritePoint.LookClosed l) p e w sound h = opens l p.is_closed (p.room == 0) _ _ p e w h
writer-goes offered (WritePoint.LookHead l) p e w sound h = grind arith
writer-goes offered (WritePoint.LookRegister l) p e w sound h = grind arith
writer-goes offered (WritePoint.LookHeadAgain l) p e w sound h = grind arith
writer-goes offered (WritePoint.LookClosedAgain l) p e w sound h = grind arith
writer-goes offered (WritePoint.LookTake l) p e w sound h = grind arith
writer-goes offered WritePoint.Yield p e w sound h = grind arith
writer-goes offered (WritePoint.CallSource form sum) p e w sound h = grind arith
writer-goes offered (WritePoint.RoundClosed n form sum) p e w sound h = grind arith
writer-goes offered (WritePoint.StoreTail n next) p e w sound h = publishes next n p e w sound h
writer-goes offered (WritePoint.TakeReader next) p e w sound h = grind arith
writer-goes offered (WritePoint.WakeReader next) p e w sound h = grind arith
writer-goes offered (WritePoint.StoreClosed next) p e w sound h = grind arith
writer-goes offered WritePoint.TakeWriter p e w sound h = grind arith
writer-goes offered WritePoint.WakeWriter p e w sound h = grind arith

-- what each step is to a waiting reader

abbrev Touches : Pipe → Wait → Type 0
Touches p w =
    let to = went Writer p in
    Touch p to.pipe p.reader_waker to.pipe.reader_waker (write_errand p.writer p.writer_call) (write_errand to.pipe.writer to.pipe.writer_call) w (wait_from Reader w to.events)

takes-touch : (next : AfterWrite) (slot : Option ℕ) (p : Pipe) (w : Wait) → Touches (record p { writer = WritePoint.TakeReader next; reader_waker = slot }) w
takes-touch next None p w = misses refl refl (answered-passes Reader Writer w w [] (write_done next).answer refl refl)
takes-touch next (Some waker) p w = finds waker refl refl refl refl

closes-touch : (next : AfterWrite) (p : Pipe) (w : Wait) → Touches (record p { writer = WritePoint.StoreClosed next }) w
closes-touch next p w = grind arith

abbrev pub TouchesOffered : List ℕ → Pipe → Wait → Type 0
TouchesOffered offered p w =
    let to = went Writer (offering offered p) in
    Touch p to.pipe p.reader_waker to.pipe.reader_waker (write_errand p.writer p.writer_call) (write_errand to.pipe.writer to.pipe.writer_call) w (wait_from Reader w to.events)

pub writer-touches : (offered : List ℕ) (point : WritePoint) (p : Pipe) (w : Wait) → TouchesOffered offered (record p { writer = point }) w
writer-touches offered WritePoint.Idle p w = rests None (same _ _ refl refl refl) refl refl refl
writer-touches offered WritePoint.Dropped p w = rests None (same _ _ refl refl refl) refl refl refl
writer-touches offered (WritePoint.QueryHead query) p w = rests None (same _ _ refl refl refl) refl refl refl
writer-touches offered (WritePoint.QueryTail query count) p w = rests None (same _ _ refl refl refl) refl refl refl
writer-touches offered WritePoint.QueryClosed p w = rests None (same _ _ refl refl refl) refl refl refl
writer-touches offered (WritePoint.LookClosed l) p w = rests None (same _ _ refl refl refl) refl refl (answered-passes Reader Writer w w (logged_of Writer (write_action (WritePoint.LookClosed l)) p) _ refl refl)
writer-touches offered (WritePoint.LookHead l) p w = rests None (same _ _ refl refl refl) refl refl refl
writer-touches offered (WritePoint.LookRegister l) p w = rests None (same _ _ refl refl refl) refl refl
    (answered-passes Reader Writer w w (registration_of Writer p.writer_call.context) _ refl (registration-passes Reader Writer w p.writer_call.context refl))
writer-touches offered (WritePoint.LookHeadAgain l) p w = rests None (same _ _ refl refl refl) refl refl refl
writer-touches offered (WritePoint.LookClosedAgain l) p w = rests None (same _ _ refl refl refl) refl refl refl
writer-touches offered (WritePoint.LookTake l) p w = rests None (same _ _ refl refl refl) refl refl (answered-passes Reader Writer w w [] _ refl refl)
writer-touches offered WritePoint.Yield p w = rests (yielded p.writer_call.context) (same _ _ refl refl refl) refl refl
    (answered-passes Reader Writer w _ (yield_of p.writer_call.context) (Some (yield_answer (is_yield_granted p.writer_call.context))) refl (yield-heard Reader w p.writer_call.context))
writer-touches offered (WritePoint.CallSource form sum) p w = rests None (same _ _ refl refl refl) refl refl (answered-passes Reader Writer w w [] _ refl refl)
writer-touches offered (WritePoint.RoundClosed n form sum) p w = rests None (same _ _ refl refl refl) refl refl (answered-passes Reader Writer w w (logged_of Writer (write_action (WritePoint.RoundClosed n form sum)) p) _ refl refl)
writer-touches offered (WritePoint.StoreTail n next) p w = stores refl refl refl refl
writer-touches offered (WritePoint.TakeReader next) p w = takes-touch next p.reader_waker p w
writer-touches offered (WritePoint.WakeReader next) p w = calls p.writer_call.taken (same _ _ refl refl refl) refl refl (answered-passes Reader Writer w _ (wake_of p.writer_call.taken) (write_done next).answer refl (wake-heard Reader w p.writer_call.taken))
writer-touches offered (WritePoint.StoreClosed next) p w = closes-touch next p w
writer-touches offered WritePoint.TakeWriter p w = rests None (same _ _ refl refl refl) refl refl (answered-passes Reader Writer w w [] _ refl refl)
writer-touches offered WritePoint.WakeWriter p w = rests p.writer_call.taken (same _ _ refl refl refl) refl refl (answered-passes Reader Writer w _ (wake_of p.writer_call.taken) (Some Done) refl (wake-heard Reader w p.writer_call.taken))
