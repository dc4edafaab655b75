-- The lines that the log of a handle stands for. What a handle notes of an access, the line of that
-- access says; its other notes are lines, and so is a meet.
use Rattle.std.specs.Prelude.{ℕ, suc, ◌==◌, List, [], ◌∷◌, length, replicate, Bool, true, false, Option, None, Some}
use Rattle.piper_machine.specs.Types.{Action, AfterWrite, Found, Polling, Purpose, ReadPoint, Side, Try, Reader, Writer, WritePoint}
use Rattle.piper_protocol.specs.declared.log.Note.{Note}
use Rattle.piper_protocol.specs.declared.table.Point.{Point}
use Rattle.piper_protocol.specs.declared.table.Purpose.TheVariants.{Poll, Copy}
use Rattle.piper_protocol.specs.Lines as handle
use Rattle.piper_protocol.specs.OneList as shared
use Rattle.piper_protocol.specs.Told.{tickets_in}
use Rattle.piper_machine.specs.logs.Line.{Opening, Line, polls, try_drains_with, poll_drains, consumes, try_fills_with, poll_fills, produces, closes, drops, began, met_head, met_tail, knew_empty, took, gave, failed, drew, refused, yielded, woke}
use Rattle.piper_machine.specs.logs.Listed.{line_of}

-- a note says how many bytes are moved, and not which: those that the next store moves. Where none
-- follows, any bytes do

abbrev pub given_or_any : Bool → ℕ → List ℕ → List ℕ
given_or_any true n given = given
given_or_any false n given = replicate n 0

abbrev pub of_length : ℕ → List ℕ → List ℕ
of_length n given = given_or_any (length given == n) n given

-- what the next store moves, before this access
abbrev pub given_by : List ℕ → shared.Access → List ℕ
given_by given (shared.stored_head bytes) = bytes
given_by given (shared.stored_tail bytes) = bytes
given_by given a = given

-- a call registers its waker at most once, so its number is known as the call begins
abbrev pub waker_in : List handle.Line → ℕ
waker_in lines = suc (tickets_in (handle.before_of lines))

-- the waker that was taken last
abbrev pub taken_in : List handle.Line → ℕ
taken_in [] = 0
taken_in (handle.access (shared.swapped side (Some waker) None) ∷ before) = waker
taken_in (line ∷ before) = taken_in before

-- the call that begins at this point

abbrev pub reader_look : ℕ → Purpose → Opening
reader_look waker Poll = polls waker
reader_look waker (Copy Try) = try_drains_with
reader_look waker (Copy (Polling is_drawn)) = poll_drains waker

abbrev pub reader_opening : ℕ → List ℕ → ReadPoint → Opening
reader_opening waker given (ReadPoint.LookTail l) = reader_look waker l
reader_opening waker given (ReadPoint.LookTake l) = reader_look waker l
reader_opening waker given (ReadPoint.CallDestination form sum) = try_drains_with
reader_opening waker given (ReadPoint.StoreHead n next) = consumes (of_length n given)
reader_opening waker given point = drops

abbrev pub writer_look : ℕ → Purpose → Opening
writer_look waker Poll = polls waker
writer_look waker (Copy Try) = try_fills_with
writer_look waker (Copy (Polling is_drawn)) = poll_fills waker

abbrev pub writer_opening : ℕ → List ℕ → WritePoint → Opening
writer_opening waker given (WritePoint.LookClosed l) = writer_look waker l
writer_opening waker given (WritePoint.StoreTail n next) = produces (of_length n given)
writer_opening waker given (WritePoint.StoreClosed AfterWrite.WakeWriter) = closes
writer_opening waker given point = drops

abbrev pub opening_at : ℕ → List ℕ → Point → Opening
opening_at waker given (Point.Reader point) = reader_opening waker given point
opening_at waker given (Point.Writer point) = writer_opening waker given point

-- the step that was made with no access, and found this, after these lines
abbrev pub line_made : List ℕ → List handle.Line → Action → Found → Line
line_made given before Action.Register found = refused
line_made given before Action.Wake found = woke (taken_in before)
line_made given before Action.Yield found = yielded (waker_in before)
line_made given before Action.CallDestination (Found.Moved n) = took (of_length n given)
line_made given before Action.CallDestination found = failed
line_made given before Action.CallSource (Found.Moved n) = gave (of_length n given)
line_made given before Action.CallSource found = failed
line_made given before action found = knew_empty

abbrev pub line_noted : List ℕ → List handle.Line → Note → Option Line
line_noted given before (Note.Began first) = Some (began (opening_at (suc (tickets_in before)) given first))
line_noted given before (Note.Made found) =
    Some (line_made given before (handle.action (handle.comes_to before).point) found)
line_noted given before (Note.Drew is_drawn) = Some (drew is_drawn)
line_noted given before said = None

abbrev pub with_line : Option Line → List Line → List Line
with_line None lines = lines
with_line (Some line) lines = line ∷ lines

abbrev pub line_met : Side → ℕ → Line
line_met Reader count = met_tail count
line_met Writer count = met_head count

-- where the next store moves these bytes
abbrev pub lines_with : Side → List ℕ → List handle.Line → List Line
lines_with own given [] = []
lines_with own given (handle.access a ∷ before) =
    line_of a ∷ lines_with own (given_by given a) before
lines_with own given (handle.note said ∷ before) =
    with_line (line_noted given before said) (lines_with own given before)
lines_with own given (handle.met count ∷ before) = line_met own count ∷ lines_with own given before

abbrev pub lines_in : Side → List handle.Line → List Line
lines_in own lines = lines_with own [] lines
