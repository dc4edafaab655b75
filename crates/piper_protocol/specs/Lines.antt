-- The lines of a side's log: what the side did, and where that leads in the call table.
use Rattle.std.specs.Prelude.{ℕ, Bool, List, [], ◌∷◌, true, false}
use Rattle.piper_protocol.specs.OneList.{Access}
use Rattle.piper_protocol.specs.Table.{Next, ends, goes_on, look_begun, read_action, read_row, write_action, write_row}
use Rattle.piper_protocol.specs.declared.answer.Answer.TheVariants.{Done}
use Rattle.piper_protocol.specs.declared.log.Note.{Note}
use Rattle.piper_protocol.specs.declared.log.Note.TheVariants.{Began, ClosedLoaded, Drew, Made, Passed, Told}
use Rattle.piper_protocol.specs.declared.table.Action.{Action}
use Rattle.piper_protocol.specs.declared.table.Found.{Found}
use Rattle.piper_protocol.specs.declared.table.Form.TheVariants.{Polling}
use Rattle.piper_protocol.specs.declared.table.Point.{Point}
use Rattle.piper_protocol.specs.declared.table.Point.TheVariants.{Reader, Writer}
use Rattle.piper_protocol.specs.declared.table.Purpose.TheVariants.{Copy}
use Rattle.piper_protocol.specs.declared.table.ReadPoint.TheVariants as at
use Rattle.piper_protocol.specs.declared.table.WritePoint.TheVariants as on

-- an access of what both sides share; a note, which adds nothing that is shared; or a meet, which taught
-- this side how many bytes the other had consumed or published
pub data Line : Type 0 where
  access : Access → Line
  note : Note → Line
  met : ℕ → Line

abbrev pub accesses_in : List Line → List Access
accesses_in [] = []
accesses_in (access a ∷ before) = a ∷ accesses_in before
accesses_in (line ∷ before) = accesses_in before

-- the call table of both sides

abbrev of_side : {P : Type 0} → (P → Point) → Next P → Next Point
of_side side next = record { point = side next.point; answer = next.answer }

-- a line that the table doesn't have next leads to where no call is open, with no answer: from there
-- only the beginning of another call leads on
abbrev pub step : Point → Found → Next Point
step (Reader point) found = of_side Reader (read_row (goes_on at.Idle) point found)
step (Writer point) found = of_side Writer (write_row (goes_on on.Idle) point found)

abbrev pub action : Point → Action
action (Reader point) = read_action point
action (Writer point) = write_action point

-- the load of closed that a look of the writer begins with
abbrev pub looks : Bool → Bool → Point → Next Point
looks none is_closed (Reader point) = goes_on (Reader at.Idle)
looks none is_closed (Writer point) =
    of_side Writer (look_begun (goes_on on.Idle) none point is_closed)

-- where a side is between its calls
abbrev pub idle : Point → Point
idle (Reader point) = Reader at.Idle
idle (Writer point) = Writer on.Idle

-- a copy's draw settles its form
abbrev pub drawn : Bool → Point → Point
drawn is_drawn (Reader (at.LookTake (Copy (Polling false)))) =
    Reader (at.LookTake (Copy (Polling is_drawn)))
drawn is_drawn (Writer (on.LookTake (Copy (Polling false)))) =
    Writer (on.LookTake (Copy (Polling is_drawn)))
drawn is_drawn point = idle point

-- where no call is open: only the beginning of another call leads on from there
abbrev nowhere : Next Point
nowhere = goes_on (Reader at.Idle)

-- where the last call is after these lines, and what it answered. After an access only the note leads
-- on that says what it was
abbrev pub comes_to : List Line → Next Point
comes_to [] = ends (Reader at.Idle) Done
comes_to (note (Began first) ∷ before) = goes_on first
comes_to (note (Made found) ∷ before) = step (comes_to before).point found
comes_to (note (Drew is_drawn) ∷ before) = goes_on (drawn is_drawn (comes_to before).point)
comes_to (note (Told found) ∷ access a ∷ before) = step (comes_to before).point found
comes_to (note Passed ∷ access a ∷ before) = comes_to before
comes_to (note (ClosedLoaded none is_closed) ∷ access a ∷ before) =
    looks none is_closed (comes_to before).point
comes_to (met count ∷ before) = comes_to before
comes_to lines = nowhere

-- where the last call began, and what was before it. A meet is in no call
abbrev pub first_of : List Line → Point
first_of [] = Reader at.Idle
first_of (note (Began first) ∷ before) = first
first_of (met count ∷ before) = Reader at.Idle
first_of (line ∷ before) = first_of before

abbrev pub before_of : List Line → List Line
before_of [] = []
before_of (note (Began first) ∷ before) = before
before_of (line ∷ before) = before_of before
