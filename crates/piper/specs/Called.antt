-- What became of the wakers that a side took out of a slot.
use Rattle.std.specs.Prelude.{⊤, ◌≡◌, ℕ, ◌⊎◌, Bool, true, false, List, [], ◌∷◌, Option, Some, None, IfSome, is_some}
use Rattle.futures.specs.Task.{Wakes}
use Rattle.futures.specs.declared.task.context.Context.{Context}
use Rattle.futures.specs.declared.task.waker.Waker.{Waker}
use Rattle.piper_protocol.specs.declared.table.Point.{Point}
use Rattle.piper_ring.specs.Cells.{GetsLeft}
use Rattle.piper_ring.specs.Loads.{WasPut, WasTaken, WasTakenBack}
use Rattle.piper_ring.specs.Log.{HasLeft, IsUnregistered, Log, began}
use Rattle.piper_ring.specs.Shared.{Names}
use Rattle.piper_ring.specs.SlotsView.{Registers, SlotsView}
use Rattle.piper.specs.Contexts.{WasAsked}
use Rattle.piper_ring.specs.declared.ends.cells.LeftWakers.{LeftWakers}

-- The toolchain states nothing of a waker that is called or dropped. So these two are sealed: no proof
-- looks into them, and only those of `call` and `let_go` use the lemmas below.

-- this waker was called
pub WasCalled : Waker → Type 0
WasCalled waker = ⊤

pub as_called : (waker : Waker) → WasCalled waker
unfolding WasCalled
as_called waker = tt

-- this waker was dropped, which wakes its task as a call does
pub WasLetGo : Waker → Type 0
WasLetGo waker = ⊤

pub as_let_go : (waker : Option Waker) → IfSome waker WasLetGo
unfolding WasLetGo
as_let_go None = tt
as_let_go (Some waker) = tt

-- the other side's tickets that were taken after `old`, up to `new`: each came with one of these
-- wakers, which was called
abbrev pub AreCalled : Names → List Waker → ℕ → ℕ → Type 0
AreCalled names [] old new = new ≡ old
AreCalled names (waker ∷ wakers) old new =
    (ticket : ℕ) × WasTaken names old ticket (Some waker) × WasCalled waker
    × AreCalled names wakers ticket new

-- each waker that the side has taken out of the other's slot since a was called
abbrev pub CallsTaken : SlotsView → SlotsView → Type 0
CallsTaken a b = (wakers : List Waker) × AreCalled a.names wakers a.taken b.taken

-- the side's own waker came out of its slot, and this became of it; or none was registered there
abbrev pub TakesOwn : (Waker → Type 0) → Bool → SlotsView → Log → Type 0
TakesOwn became reads a after =
    ((waker : Waker) × WasTakenBack a.names a.waits a.tickets (Some waker) × became waker)
    ⊎ IsUnregistered reads a.waits after

-- a side that waited as in a, or has registered since, waits no more: its own waker came out of its
-- slot, and was dropped; or none was registered there
abbrev pub EmptiesOwn : Bool → SlotsView → SlotsView → Log → Type 0
EmptiesOwn reads a b after =
    (held : SlotsView) × ((held ≡ a) ⊎ Registers a held) × (b ≡ record held { waits = false })
    × TakesOwn WasLetGo reads held after

-- a side registered with a waker of the polled task: it asked the context for one, with what its slot
-- still held in hand, and for nothing else; and it put what it got into the slot. If none of the task
-- could be made, that is another's, and the task has asked for another poll
pub record RegistersTask (a b : SlotsView) (old left : Context) : Type 0 where
  pub held : Option Waker
  pub waker : Waker
  pub back : WasTakenBack a.names a.waits a.tickets held
  pub asked : WasAsked held (Some waker) old left
  pub put : WasPut b.names b.tickets waker
  pub task : (left.lacks_waker ≡ true) ⊎ Wakes waker left

-- a side left the ring with these names. Its last call began at this point: it closed, and checked the
-- other's slot after that. Whoever was registered there was called, and what lay in the slots, if the
-- other had left before, was dropped
pub record HasDropped (names : Names) (start : Point) (before : Log) : Type 0 where
  pub taken : Option Waker
  pub after : Log
  pub leaves : HasLeft (is_some taken) (began start before) after
  pub called : IfSome taken WasCalled
  pub left : LeftWakers Waker
  pub gets : GetsLeft names left
  pub reader : IfSome left.reader WasLetGo
  pub writer : IfSome left.writer WasLetGo
