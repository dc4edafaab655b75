-- The table goes on in the same way, whatever a copy that has still to draw will draw.
use Rattle.std.proofs.Common.{◌≡◌, ℕ, Bool, Option, None, Some, arith, []}
use Rattle.piper_machine.specs.Types.{Action, Answer, Found, ReadPoint, Reader}
use Rattle.piper_protocol.specs.Table.{Next, read_action, read_after}
use Rattle.piper_machine.specs.Log.{answer_event}
use Rattle.piper_machine.specs.Refusal.{cannot_go, reader_state}
use Rattle.piper_machine.specs.logs.Reading.{HasDrawn}
use Rattle.piper_machine.proofs.logs.Joint.{reader_point}

abbrev pub reader_next : Option Bool → Bool → Next ReadPoint → Next ReadPoint
reader_next draw b next = record { point = reader_point draw b next.point; answer = next.answer }

pub action-same : (draw : Option Bool) (b : Bool) (point : ReadPoint) → read_action (reader_point draw b point) ≡ read_action point
action-same draw b point = grind arith

-- the step leads to the same, unless the copy has still to draw
pub next-same : (capacity : ℕ) (draw : Option Bool) (b : Bool) (point : ReadPoint) (f : Found) → (read_action point ≡ Action.Take Reader → HasDrawn point draw)
    → read_after capacity (reader_point draw b point) f ≡ reader_next draw b (read_after capacity point f)
next-same capacity draw b point f drawn = grind arith

-- a call that returns leaves no point of a call
pub ends-at : (capacity : ℕ) (point : ReadPoint) (f : Found) (answer : Answer) → (read_after capacity point f).answer ≡ Some answer → (read_action (read_after capacity point f).point ≡ Action.Rest)
ends-at capacity point f answer e = grind arith

pub may-go : (point : ReadPoint) → (read_action point ≡ Action.Rest → ⊥) → cannot_go (reader_state point) ≡ None
may-go point goes = grind arith

pub own-same : (capacity : ℕ) (point : ReadPoint) (f g : Found) → read_action point ≡ Action.Take Reader → read_after capacity point f ≡ read_after capacity point g
own-same capacity point f g e = grind arith

-- no call returns before it registers
pub stays : (capacity : ℕ) (point : ReadPoint) (b : Bool) → read_action point ≡ Action.Register → answer_event Reader (read_after capacity point (Found.Waker b)).answer ≡ []
stays capacity point b e = grind arith
