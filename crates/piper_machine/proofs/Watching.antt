-- A waiting side is watched over: what makes sure that its waker is called, and that no step of the
-- other side changes that.
use Rattle.std.proofs.Common.{◌≡◌, ℕ, List, ◌∷◌, ◌++◌, Bool, true, false, Option, None, Some, refl, ◌∙◌, arith, []}
use Rattle.std.specs.Bool.{⊤}
use Rattle.piper_machine.specs.Types.{Side, OpenCall, Answer, Event, Context, Purpose, ReadPoint, WritePoint, Try, Polling}
use Rattle.piper_machine.specs.Log.{answer_event}
use Rattle.piper_machine.specs.Pipe.{Pipe}
use Rattle.piper_machine.specs.Action.{registration_of, wake_of, yield_of}
use Rattle.piper_machine.specs.Counts.{is_same}
use Rattle.piper_machine.specs.Wait.{Wait, called, wait_after, wait_from}

-- how far the other side is with the wake that follows its store: away from it, about to empty the
-- slot, or with what it found there
pub data Errand : Type 0 where
  away : Errand
  takes : Errand
  wakes : Option ℕ → Errand

-- the reader's at the writer's slot
abbrev pub read_errand : ReadPoint → OpenCall → Errand
read_errand (ReadPoint.TakeWriter next) c = takes
read_errand (ReadPoint.WakeWriter next) c = wakes c.taken
read_errand point c = away

-- the writer's at the reader's slot
abbrev pub write_errand : WritePoint → OpenCall → Errand
write_errand (WritePoint.TakeReader next) c = takes
write_errand (WritePoint.WakeReader next) c = wakes c.taken
write_errand point c = away

-- of a side with this wait and slot, that holds what it took from its own slot: its waker was
-- called; or is registered in the slot while all is calm; or is there and the other side takes it
-- next; or is in the other side's hand; or in its own
pub data Watched (w : Wait) (slot held : Option ℕ) (calm : Type 0) (e : Errand) : Type 0 where
  woken : w.is_woken ≡ true → Watched w slot held calm e
  calmly : slot ≡ Some w.handed → calm → Watched w slot held calm e
  taking : slot ≡ Some w.handed → e ≡ takes → Watched w slot held calm e
  waking : e ≡ wakes (Some w.handed) → Watched w slot held calm e
  holding : held ≡ Some w.handed → Watched w slot held calm e

-- the bytes and the flag stay
pub record Same (p q : Pipe) : Type 0 where
  pub unread : q.unread ≡ p.unread
  pub capacity : q.capacity ≡ p.capacity
  pub closed : q.is_closed ≡ p.is_closed

pub same : (p q : Pipe) → q.unread ≡ p.unread → q.capacity ≡ p.capacity → q.is_closed ≡ p.is_closed → Same p q
same p q unread capacity closed = record { unread = unread; capacity = capacity; closed = closed }

-- a wait, after the call of a waker if there is one
abbrev pub hears : Option ℕ → Wait → Wait
hears None w = w
hears (Some waker) w = called waker w

-- all that one step of a side can be to the other one, which has this slot
pub data Touch (p q : Pipe) (slot slot_after : Option ℕ) (e e_after : Errand) (w w_after : Wait) : Type 0 where
  -- it may call its own waker
  rests : (name : Option ℕ) → Same p q → slot_after ≡ slot → e ≡ away → w_after ≡ hears name w → Touch p q slot slot_after e e_after w w_after
  stores : slot_after ≡ slot → e ≡ away → e_after ≡ takes → w_after ≡ w → Touch p q slot slot_after e e_after w w_after
  finds : (waker : ℕ) → slot ≡ Some waker → e ≡ takes → e_after ≡ wakes (Some waker) → w_after ≡ w → Touch p q slot slot_after e e_after w w_after
  misses : slot ≡ None → e ≡ takes → w_after ≡ w → Touch p q slot slot_after e e_after w w_after
  calls : (name : Option ℕ) → Same p q → slot_after ≡ slot → e ≡ wakes name → w_after ≡ hears name w → Touch p q slot slot_after e e_after w w_after

-- inside a look

-- the call of a look with a context began a wait of its own
abbrev pub HandedBy : Option Context → Wait → Type 0
HandedBy None w = ⊤
HandedBy (Some cx) w = (w.handed ≡ cx.waker)

abbrev pub IsHanded : Option Context → Wait → Type 0
IsHanded context w = (w.is_pending ≡ false) × HandedBy context w

-- so did every look that registers
abbrev pub HasBegun : Purpose → Option Context → Wait → Type 0
HasBegun Purpose.Poll context w = IsHanded context w
HasBegun (Purpose.Copy Try) context w = ⊤
HasBegun (Purpose.Copy (Polling is_drawn)) context w = IsHanded context w

-- after its registration a look that can return pending is watched over
abbrev pub Awaits : Purpose → Wait → Option ℕ → Type 0 → Errand → Type 0
Awaits Purpose.Poll w slot calm e = Watched w slot None calm e
Awaits (Purpose.Copy Try) w slot calm e = ⊤
Awaits (Purpose.Copy (Polling is_drawn)) w slot calm e = Watched w slot None calm e

-- what one side's events are to the other's wait

pub wait-append : (side : Side) (w : Wait) (es fs : List Event) → wait_from side w (es ++ fs) ≡ wait_from side (wait_from side w es) fs
wait-append side w [] fs = refl
wait-append side w (e ∷ es) fs = wait-append side (wait_after side w e) es fs

answer-passes : (side acting : Side) (w : Wait) (answer : Option Answer) → is_same side acting ≡ false → wait_from side w (answer_event acting answer) ≡ w
answer-passes side acting w answer apart = grind arith

-- an answer after what the other side's step logs
pub answered-passes : (side acting : Side) (w v : Wait) (es : List Event) (answer : Option Answer) → is_same side acting ≡ false → wait_from side w es ≡ v → wait_from side w (es ++ answer_event acting answer) ≡ v
answered-passes side acting w v es answer apart e = wait-append side w es (answer_event acting answer) ∙ answer-passes side acting _ answer apart ∙ e

pub registration-passes : (side acting : Side) (w : Wait) (context : Option Context) → is_same side acting ≡ false → wait_from side w (registration_of acting context) ≡ w
registration-passes side acting w context apart = grind arith

pub wake-heard : (side : Side) (w : Wait) (name : Option ℕ) → wait_from side w (wake_of name) ≡ hears name w
wake-heard side w name = grind arith

-- a yield calls the caller's own waker, if its clone is granted
abbrev pub named_if : Bool → ℕ → Option ℕ
named_if false waker = None
named_if true waker = Some waker

abbrev pub yielded : Option Context → Option ℕ
yielded None = None
yielded (Some cx) = named_if cx.luck.yield_granted cx.waker

pub yield-heard : (side : Side) (w : Wait) (context : Option Context) → wait_from side w (yield_of context) ≡ hears (yielded context) w
yield-heard side w context = grind arith

-- a context, part by part
abbrev pub context_of : Bool → ℕ → ℕ → Bool → Context
context_of granted waker draw yields = record { waker = waker; luck = record { draw = draw; register_granted = granted; yield_granted = yields } }
