-- The writer's table goes on in the same way, whatever a copy that has still to draw will draw.
use Rattle.std.proofs.Common.{◌≡◌, ℕ, List, Bool, Option, None, Some, arith, []}
use Rattle.piper_machine.specs.Types.{Action, Answer, Found, WritePoint, Writer}
use Rattle.piper_protocol.specs.Table.{Next, ends_fill, write_action, write_after, tail_store}
use Rattle.piper_machine.specs.Log.{answer_event}
use Rattle.piper_machine.specs.Refusal.{cannot_go, writer_state}
use Rattle.piper_machine.specs.Step.{filled_out, lent_after, lent_at}
use Rattle.piper_machine.specs.logs.Writing.{HasDrawn}
use Rattle.piper_machine.proofs.logs.Joint.{writer_point}

abbrev pub writer_next : Option Bool → Bool → Next WritePoint → Next WritePoint
writer_next draw b next = record { point = writer_point draw b next.point; answer = next.answer }

pub action-same : (draw : Option Bool) (b : Bool) (point : WritePoint) → write_action (writer_point draw b point) ≡ write_action point
action-same draw b point = grind arith

pub fill-same : (draw : Option Bool) (b : Bool) (point : WritePoint) → ends_fill (writer_point draw b point) ≡ ends_fill point
fill-same draw b point = grind arith

-- the step leads to the same, unless the copy has still to draw
pub next-same : (capacity room : ℕ) (draw : Option Bool) (b : Bool) (point : WritePoint) (f : Found) → (write_action point ≡ Action.Take Writer → HasDrawn point draw)
    → write_after capacity room (writer_point draw b point) f ≡ writer_next draw b (write_after capacity room point f)
next-same capacity room draw b point f drawn = grind arith

-- a store of the tail leaves no other to be made
pub stored-none : (capacity room n : ℕ) (point : WritePoint) (f : Found) → write_action point ≡ Action.StoreTail n → tail_store (write_after capacity room point f).point ≡ 0
stored-none capacity room n point f e = grind arith

-- a call that returns leaves no point of a call
pub ends-at : (capacity room : ℕ) (point : WritePoint) (f : Found) (answer : Answer) → (write_after capacity room point f).answer ≡ Some answer → write_action (write_after capacity room point f).point ≡ Action.Rest
ends-at capacity room point f answer e = grind arith

pub may-go : (point : WritePoint) → (write_action point ≡ Action.Rest → ⊥) → cannot_go (writer_state point) ≡ None
may-go point goes = grind arith

-- only a fill's own steps leave nothing lent
pub leaves-lent : (point : WritePoint) (answer : Option Answer) (lent : List ℕ) → lent_after (write_action point) point answer lent ≡ filled_out (ends_fill point) answer lent
leaves-lent point answer lent = grind arith

pub offers-none : (point : WritePoint) (lent before : List ℕ) → (write_action point ≡ Action.CallSource → ⊥) → lent_at point lent before ≡ before
offers-none point lent before other = grind arith

-- no call returns before it registers
pub stays : (capacity room : ℕ) (point : WritePoint) (b : Bool) → write_action point ≡ Action.Register → answer_event Writer (write_after capacity room point (Found.Waker b)).answer ≡ []
stays capacity room point b e = grind arith
