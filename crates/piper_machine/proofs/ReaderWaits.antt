-- The reader as a waiter, from point to point of its own calls, and what each of its steps is to a
-- waiting writer.
use Rattle.std.proofs.Common.{◌≡◌, ℕ, List, length, drop, Bool, true, false, Option, None, Some, ◌==◌, refl, arith, []}
use Rattle.std.proofs.lemmas.Grind.{common_steps}
use Rattle.std.specs.Bool.{⊤}
use Rattle.piper_machine.specs.Types.{Context, Purpose, AfterRead, ReadPoint, Reader, Writer}
use Rattle.piper_protocol.specs.Table.{read_action, yield_answer, read_done}
use Rattle.piper_machine.specs.Open.{is_yield_granted}
use Rattle.piper_machine.specs.Pipe.{Pipe}
use Rattle.piper_machine.specs.Action.{logged_of, registration_of, wake_of, yield_of}
use Rattle.piper_machine.specs.Step.{went}
use Rattle.piper_machine.specs.Round.{taken}
use Rattle.piper_machine.specs.Waiting.{IsBlocked}
use Rattle.piper_machine.specs.Wait.{Wait, wait_from}
use Rattle.piper_machine.proofs.Watching.{Errand, read_errand, Watched, same, Touch, rests, stores, finds, misses, calls, IsHanded, HasBegun, Awaits, yielded, yield-heard, answered-passes, registration-passes, wake-heard, context_of}

-- what holds of the pipe while the waker is registered in the slot: nothing any more once the
-- reader itself has closed
abbrev pub read_calm : ReadPoint → Pipe → Type 0
read_calm ReadPoint.Dropped p = ⊤
read_calm (ReadPoint.TakeWriter AfterRead.Drop) p = ⊤
read_calm (ReadPoint.WakeWriter AfterRead.Drop) p = ⊤
read_calm point p = IsBlocked Reader p

-- inside a look: handed over, and after the registration watched over
abbrev pub ReadLook : ReadPoint → Pipe → Errand → Wait → Type 0
ReadLook (ReadPoint.LookTail l) p e w = HasBegun l p.reader_call.context w
ReadLook (ReadPoint.LookRegister l) p e w = IsHanded p.reader_call.context w
ReadLook (ReadPoint.LookClosed l) p e w = HasBegun l p.reader_call.context w × Awaits l w p.reader_waker ⊤ e
ReadLook (ReadPoint.LookTailAgain l was_closed) p e w = HasBegun l p.reader_call.context w × Awaits l w p.reader_waker (was_closed ≡ false → p.is_closed ≡ false) e
ReadLook (ReadPoint.LookTake l) p e w = IsHanded p.reader_call.context w
ReadLook ReadPoint.Yield p e w = IsHanded p.reader_call.context w
ReadLook point p e w = ⊤

pub record ReadWaits (p : Pipe) (e : Errand) (w : Wait) : Type 0 where
  pub waiting : w.is_pending ≡ true → Watched w p.reader_waker None (read_calm p.reader p) e
  pub look : ReadLook p.reader p e w

-- a step of the writer

pub reader-touched : (p q : Pipe) (e e_after : Errand) (w v : Wait) → q.reader ≡ p.reader → q.reader_call ≡ p.reader_call → Touch p q p.reader_waker q.reader_waker e e_after w v → ReadWaits p e w → ReadWaits q e_after v
reader-touched p q e e_after w v point call t h = grind arith

-- the reader's own steps

pub none_left : (xs : List ℕ) → (length xs == 0) ≡ true → xs ≡ []
none_left xs none = grind (arith, common_steps)

pub drop_none : (n : ℕ) (xs : List ℕ) → xs ≡ [] → drop n xs ≡ []
drop_none n xs h = grind arith

-- the reader makes its next step
abbrev Goes : Pipe → Errand → Wait → Type 0
Goes p e w = ReadWaits p e w → let to = went Reader p in ReadWaits to.pipe e (wait_from Reader w to.events)

abbrev with_context : Option Context → Option ℕ → Purpose → Pipe → Pipe
with_context context taken l p = record p { reader = ReadPoint.LookRegister l; reader_call = record { context = context; taken = taken } }

registers : (l : Purpose) (granted : Bool) (waker draw : ℕ) (yields : Bool) (taken : Option ℕ) (p : Pipe) (e : Errand) (w : Wait)
    → Goes (with_context (Some (context_of granted waker draw yields)) taken l p) e w
registers l granted waker draw yields taken p e w h = grind arith

-- a yield: the call returns pending, and its waker was called
yields : (granted : Bool) (waker draw : ℕ) (registers : Bool) (taken : Option ℕ) (p : Pipe) (e : Errand) (w : Wait)
    → Goes (record p { reader = ReadPoint.Yield; reader_call = record { context = Some (record { waker = waker; luck = record { draw = draw; register_granted = registers; yield_granted = granted } }); taken = taken } }) e w
yields granted waker draw registers taken p e w h = grind arith

pub reader-goes : (point : ReadPoint) (p : Pipe) (e : Errand) (w : Wait) → Goes (record p { reader = point }) e w
reader-goes point p e w h = grind (arith, common_steps)

-- what each step is to a waiting writer

abbrev Touches : Pipe → Wait → Type 0
Touches p w =
    let to = went Reader p in
    Touch p to.pipe p.writer_waker to.pipe.writer_waker (read_errand p.reader p.reader_call) (read_errand to.pipe.reader to.pipe.reader_call) w (wait_from Writer w to.events)

takes-touch : (next : AfterRead) (slot : Option ℕ) (p : Pipe) (w : Wait) → Touches (record p { reader = ReadPoint.TakeWriter next; writer_waker = slot }) w
takes-touch next None p w = misses refl refl (answered-passes Writer Reader w w [] (read_done next).answer refl refl)
takes-touch next (Some waker) p w = finds waker refl refl refl refl

pub reader-touches : (point : ReadPoint) (p : Pipe) (w : Wait) → Touches (record p { reader = point }) w
reader-touches ReadPoint.Idle p w = rests None (same _ _ refl refl refl) refl refl refl
reader-touches ReadPoint.Dropped p w = rests None (same _ _ refl refl refl) refl refl refl
reader-touches (ReadPoint.QueryHead query) p w = rests None (same _ _ refl refl refl) refl refl refl
reader-touches (ReadPoint.QueryTail query) p w = rests None (same _ _ refl refl refl) refl refl refl
reader-touches ReadPoint.QueryClosed p w = rests None (same _ _ refl refl refl) refl refl refl
reader-touches (ReadPoint.LookTail l) p w = rests None (same _ _ refl refl refl) refl refl refl
reader-touches (ReadPoint.LookRegister l) p w = rests None (same _ _ refl refl refl) refl refl
    (answered-passes Writer Reader w w (registration_of Reader p.reader_call.context) _ refl (registration-passes Writer Reader w p.reader_call.context refl))
reader-touches (ReadPoint.LookClosed l) p w = rests None (same _ _ refl refl refl) refl refl refl
reader-touches (ReadPoint.LookTailAgain l was_closed) p w = rests None (same _ _ refl refl refl) refl refl (answered-passes Writer Reader w w (logged_of Reader (read_action (ReadPoint.LookTailAgain l was_closed)) p) _ refl refl)
reader-touches (ReadPoint.LookTake l) p w = rests None (same _ _ refl refl refl) refl refl (answered-passes Writer Reader w w [] _ refl refl)
reader-touches ReadPoint.Yield p w = rests (yielded p.reader_call.context) (same _ _ refl refl refl) refl refl
    (answered-passes Writer Reader w _ (yield_of p.reader_call.context) (Some (yield_answer (is_yield_granted p.reader_call.context))) refl (yield-heard Writer w p.reader_call.context))
reader-touches (ReadPoint.CallDestination form sum) p w = rests None (same _ _ refl refl refl) refl refl (answered-passes Writer Reader w w [] _ refl refl)
reader-touches (ReadPoint.StoreHead n next) p w = stores refl refl refl refl
reader-touches (ReadPoint.TakeWriter next) p w = takes-touch next p.writer_waker p w
reader-touches (ReadPoint.WakeWriter next) p w = calls p.reader_call.taken (same _ _ refl refl refl) refl refl (answered-passes Writer Reader w _ (wake_of p.reader_call.taken) _ refl (wake-heard Writer w p.reader_call.taken))
reader-touches ReadPoint.StoreClosed p w = stores refl refl refl refl
