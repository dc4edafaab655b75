-- What remains of a call right after its opening is the call run whole.
use Rattle.std.proofs.Common.{◌≡◌, ℕ, ◌-◌, List, ◌∷◌, length, Bool, false, None, Some, ◌==◌, Ok, refl, arith, []}
use Rattle.std.proofs.lemmas.Grind.{common_steps}
use Rattle.piper_machine.specs.Types.{Context, SourceAct, Destination, Reader, Writer}
use Rattle.piper_machine.specs.Pipe.{Pipe, begun}
use Rattle.piper_machine.specs.Look.{reader_look}
use Rattle.piper_machine.specs.Copy.{copied_after, try_fill, fill}
use Rattle.piper_machine.specs.Scripted.{bytes_given, ends_in_failure}
use Rattle.piper_machine.specs.Step.{poll_opened, drain_opened, fill_opened}
use Rattle.piper_machine.specs.Alone.{resting, alone_of, drain_moves_on}
use Rattle.piper_machine.specs.BySteps.{looked_whole, counted_whole, copied_slice, copied_acts}

-- the reader's poll
module _ (cx : Context) (p : Pipe) where
  abbrev opened_poll : Pipe
  opened_poll = poll_opened Reader cx (begun (resting Reader p))

  abbrev IsPolled : Type 0
  IsPolled = alone_of Reader opened_poll ≡ looked_whole (reader_look (Some cx) (begun (resting Reader p)))

  polls : (knows_none none granted : Bool) → (p.known == 0) ≡ knows_none → (length p.unread == 0) ≡ none → cx.luck.register_granted ≡ granted → IsPolled
  polls knows_none none granted k u g = grind arith

-- the drains

module _ (cx : Context) (destination : Destination) (p : Pipe) where
  abbrev opened_drain : Pipe
  opened_drain = drain_opened (Some cx) destination (begun (resting Reader p))

  abbrev IsDrained : Type 0
  IsDrained =
      let look = reader_look (Some cx) (begun (resting Reader p)) in
      alone_of Reader opened_drain ≡ copied_acts (copied_after (Some cx) (Ok 0) (drain_moves_on destination 0) look.answer look.pipe)

  drains : (knows_none none granted is_drawn yields is_closed : Bool) → (p.known == 0) ≡ knows_none → (length p.unread == 0) ≡ none → cx.luck.register_granted ≡ granted → (cx.luck.draw == 0) ≡ is_drawn → cx.luck.yield_granted ≡ yields → p.is_closed ≡ is_closed → IsDrained
  drains knows_none none granted is_drawn yields is_closed k u g d y c = grind arith

-- the fills

pub given-slice : (bytes : List ℕ) → bytes_given (SourceAct.Bytes bytes ∷ []) ≡ bytes
given-slice bytes = grind (arith, common_steps)

pub failure-slice : (bytes : List ℕ) → ends_in_failure (SourceAct.Bytes bytes ∷ []) ≡ false
failure-slice bytes = grind arith

-- acts that give the bytes of a slice, and do not fail
module _ (acts : List SourceAct) (bytes : List ℕ) (gives : bytes_given acts ≡ bytes) (works : ends_in_failure acts ≡ false) where
  pub fill-slice : (cx : Context) (p : Pipe) → alone_of Writer (fill_opened (Some cx) acts (begun (resting Writer p))) ≡ copied_slice (fill (Some cx) bytes (resting Writer p))
  fill-slice cx p = grind arith

  abbrev IsTryFilled : Pipe → Type 0
  IsTryFilled p = alone_of Writer (fill_opened None acts (begun (resting Writer p))) ≡ counted_whole (try_fill bytes (resting Writer p))

  try_fills : (p : Pipe) (is_closed knows_none none : Bool) → p.is_closed ≡ is_closed → (p.room == 0) ≡ knows_none → (p.capacity - length p.unread == 0) ≡ none → IsTryFilled p
  try_fills p is_closed knows_none none c r u = grind arith

  pub try_fill-whole : (p : Pipe) → IsTryFilled p
  try_fill-whole p = try_fills p p.is_closed (p.room == 0) (p.capacity - length p.unread == 0) refl refl refl
