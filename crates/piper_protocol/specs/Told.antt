-- Whether the log of a side says the truth: each access was the step of the table that the note after it
-- says, of that slot, and found this; and what stands for no access may come there. All of it can be
-- evaluated on the lines alone.
use Rattle.std.specs.Prelude.{◌≡◌, ℕ, suc, ◌≤◌, ◌-◌, ◌%◌, min, ◌==◌, nat_le, if◌then◌else◌, Bool, true, false, not, List, [], ◌∷◌, ◌++◌, length, Option, None, Some, is_some}
use Rattle.piper_protocol.specs.OneList.{Access, AreOneList, is_same, loaded_closed, loaded_head, loaded_slot, loaded_tail, stored_closed, stored_head, stored_tail, swapped}
use Rattle.piper_protocol.specs.Table.{Next}
use Rattle.piper_protocol.specs.Lines.{Line, access, accesses_in, action, comes_to, met, note}
use Rattle.piper_protocol.specs.declared.log.Note.TheVariants.{Began, ClosedLoaded, Drew, Made, Passed, Told}
use Rattle.piper_protocol.specs.declared.table.Action.{Action}
use Rattle.piper_protocol.specs.declared.table.Action.TheVariants as does
use Rattle.piper_protocol.specs.declared.table.AfterRead.TheVariants as after_read
use Rattle.piper_protocol.specs.declared.table.AfterWrite.TheVariants as after_write
use Rattle.piper_protocol.specs.declared.table.Form.TheVariants.{Polling, Try}
use Rattle.piper_protocol.specs.declared.table.Found.{Found}
use Rattle.piper_protocol.specs.declared.table.Found.TheVariants as found
use Rattle.piper_protocol.specs.declared.table.Point.{Point}
use Rattle.piper_protocol.specs.declared.table.Point.TheVariants as of
use Rattle.piper_protocol.specs.declared.table.Purpose.{Purpose}
use Rattle.piper_protocol.specs.declared.table.Purpose.TheVariants.{Copy, Poll}
use Rattle.piper_protocol.specs.declared.table.ReadPoint.{ReadPoint}
use Rattle.piper_protocol.specs.declared.table.ReadPoint.TheVariants as at
use Rattle.piper_protocol.specs.declared.table.Side.{Side}
use Rattle.piper_protocol.specs.declared.table.Side.TheVariants.{Reader, Writer}
use Rattle.piper_protocol.specs.declared.table.TheConstants.{MOST_A_ROUND}
use Rattle.piper_protocol.specs.declared.table.WritePoint.{WritePoint}
use Rattle.piper_protocol.specs.declared.table.WritePoint.TheVariants as on

abbrev pub both : Bool → Bool → Bool
both true b = b
both false b = false

abbrev pub either : Bool → Bool → Bool
either true b = true
either false b = b

abbrev pub alike : Bool → Bool → Bool
alike true b = b
alike false b = not b

-- what the lines leave

-- the bytes that these lines published or gave up, oldest first
unfoldable pub moved_in : List Line → List ℕ
moved_in [] = []
moved_in (access (stored_head bytes) ∷ before) = moved_in before ++ bytes
moved_in (access (stored_tail bytes) ∷ before) = moved_in before ++ bytes
moved_in (line ∷ before) = moved_in before

-- how many bytes the other side had moved, as the last load of its index or the last meet says
unfoldable pub seen_in : List Line → ℕ
seen_in [] = 0
seen_in (access (loaded_head count) ∷ before) = count
seen_in (access (loaded_tail count) ∷ before) = count
seen_in (met count ∷ before) = count
seen_in (line ∷ before) = seen_in before

-- the number of its last registration
unfoldable pub tickets_in : List Line → ℕ
tickets_in [] = 0
tickets_in (access (swapped side old (Some ticket)) ∷ before) = ticket
tickets_in (line ∷ before) = tickets_in before

-- whether its waker may be in its own slot
unfoldable pub waits_in : Side → List Line → Bool
waits_in own [] = false
waits_in own (access (swapped side old (Some ticket)) ∷ before) = true
waits_in own (access (swapped side old None) ∷ before) =
    both (not (is_same side own)) (waits_in own before)
waits_in own (access (loaded_slot side false) ∷ before) =
    both (not (is_same side own)) (waits_in own before)
waits_in own (line ∷ before) = waits_in own before

abbrev shuts : Action → Bool
shuts (does.StoreClosed is_shut) = is_shut
shuts it = false

-- whether it closed the pipe by a call of its own
unfoldable pub shut_in : List Line → Bool
shut_in [] = false
shut_in (access stored_closed ∷ before) = either (shuts (action (comes_to before).point)) (shut_in before)
shut_in (line ∷ before) = shut_in before

-- how many bytes it knows of, or how much room
abbrev pub known_in : ℕ → Side → List Line → ℕ
known_in capacity Reader lines = seen_in lines - length (moved_in lines)
known_in capacity Writer lines = capacity - (length (moved_in lines) - seen_in lines)

-- and how much of that lies in one piece
abbrev pub piece_in : ℕ → Side → List Line → ℕ
piece_in capacity side lines =
    min (known_in capacity side lines) (capacity - length (moved_in lines) % capacity)

-- how much of it may be shown or lent: nothing once the writer closed the pipe
abbrev pub lendable_in : ℕ → Side → List Line → ℕ
lendable_in capacity side lines = if shut_in lines then 0 else piece_in capacity side lines

-- the copy that is open has drawn
abbrev pub has_drawn : List Line → Bool
has_drawn (note (Drew is_drawn) ∷ before) = true
has_drawn (note Passed ∷ access (loaded_slot side true) ∷ before) = has_drawn before
has_drawn lines = false

-- where a copy draws before it empties its own slot
abbrev pub draws_at : Point → Bool
draws_at (of.Reader (at.LookTake (Copy (Polling is_drawn)))) = true
draws_at (of.Writer (on.LookTake (Copy (Polling is_drawn)))) = true
draws_at point = false

abbrev pub is_undrawn : Purpose → Bool
is_undrawn Poll = true
is_undrawn (Copy Try) = true
is_undrawn (Copy (Polling is_drawn)) = not is_drawn

-- what may come next

-- a call may begin at this point
abbrev pub reader_begins : ℕ → ReadPoint → List Line → Bool
reader_begins capacity (at.LookTail purpose) before =
    both (known_in capacity Reader before == 0) (is_undrawn purpose)
reader_begins capacity (at.LookTake Poll) before = not (known_in capacity Reader before == 0)
reader_begins capacity (at.LookTake (Copy (Polling is_drawn))) before =
    both (not is_drawn) (not (known_in capacity Reader before == 0))
reader_begins capacity (at.CallDestination Try sum) before =
    both (sum == 0) (not (known_in capacity Reader before == 0))
reader_begins capacity (at.StoreHead n after_read.Answer) before =
    nat_le n (lendable_in capacity Reader before)
reader_begins capacity at.StoreClosed before = true
reader_begins capacity point before = false

abbrev pub writer_begins : ℕ → WritePoint → List Line → Bool
writer_begins capacity (on.LookClosed purpose) before = is_undrawn purpose
writer_begins capacity (on.StoreTail n after_write.Answer) before =
    nat_le n (lendable_in capacity Writer before)
writer_begins capacity (on.StoreClosed after_write.WakeWriter) before = true
writer_begins capacity (on.StoreClosed after_write.Drop) before = true
writer_begins capacity point before = false

abbrev pub begins : ℕ → Side → Point → List Line → Bool
begins capacity Reader (of.Reader point) before = reader_begins capacity point before
begins capacity Writer (of.Writer point) before = writer_begins capacity point before
begins capacity side point before = false

-- the slot of this side may be loaded or emptied now
abbrev pub may_empty : Side → Side → List Line → Bool
may_empty own side before =
    either (not (is_same side own)) (either (has_drawn before) (not (draws_at (comes_to before).point)))

-- the access is this step of the table, and found this, after these lines of this side of a pipe of
-- this capacity
abbrev pub fits : ℕ → Side → List Line → Action → Access → Found → Bool
fits capacity Reader before does.LoadIndex (loaded_tail count) (found.IndexLoaded none) =
    alike none (count - length (moved_in before) == 0)
fits capacity Writer before does.LoadIndex (loaded_head count) (found.IndexLoaded none) =
    alike none (capacity - (length (moved_in before) - count) == 0)
fits capacity own before does.LoadClosed (loaded_closed is_closed) (found.Flag told) =
    alike is_closed told
fits capacity own before (does.StoreHead n) (stored_head bytes) found.Nothing = length bytes == n
fits capacity own before (does.StoreTail n) (stored_tail bytes) found.Nothing = length bytes == n
fits capacity own before (does.StoreClosed is_shut) stored_closed found.Nothing = true
fits capacity own before does.Register (swapped side old (Some ticket)) (found.Granted true) =
    both (is_same side own) (ticket == suc (tickets_in before))
fits capacity own before (does.Take side) (loaded_slot there is_filled) (found.Waker false) =
    both (is_same there side) (both (not is_filled) (may_empty own side before))
fits capacity own before (does.Take side) (loaded_slot there is_filled) found.Nothing =
    both (is_same there side) (both (not is_filled) (may_empty own side before))
fits capacity own before (does.Take side) (swapped there old None) (found.Waker told) =
    both (is_same there side) (both (alike (is_some old) told) (may_empty own side before))
fits capacity own before (does.Take side) (swapped there old None) found.Nothing =
    both (is_same there side) (may_empty own side before)
fits capacity own before it a told = false

-- the access is none of the table's: a load that found the slot full which is to be emptied, or the
-- swap by which a side takes its own waker out before it registers
abbrev pub passes : Side → List Line → Action → Access → Bool
passes own before (does.Take side) (loaded_slot there true) =
    both (is_same there side) (may_empty own side before)
passes own before does.Register (swapped side old None) =
    both (is_same side own) (waits_in own before)
passes own before it a = false

-- the own slot is known to be empty
abbrev pub knows_empty : Side → Side → List Line → Bool
knows_empty own side before =
    both (is_same own side) (both (not (waits_in own before)) (may_empty own side before))

-- the step was made with no access, and found this
abbrev pub is_made : ℕ → Side → List Line → Action → Found → Bool
is_made capacity own before (does.Take side) found.Nothing = knows_empty own side before
is_made capacity own before (does.Take side) (found.Waker false) = knows_empty own side before
is_made capacity own before does.Register (found.Granted false) = true
is_made capacity own before does.Wake found.Nothing = true
is_made capacity own before does.Yield (found.Granted true) = true
is_made capacity own before does.CallDestination (found.Moved n) =
    nat_le n (min MOST_A_ROUND (lendable_in capacity Reader before))
is_made capacity own before does.CallDestination found.Failed = true
is_made capacity own before does.CallSource (found.Moved n) =
    nat_le n (min MOST_A_ROUND (lendable_in capacity Writer before))
is_made capacity own before does.CallSource found.Failed = true
is_made capacity own before it told = false

-- a copy draws once, before it empties its own slot
abbrev pub may_draw : Point → List Line → Bool
may_draw (of.Reader (at.LookTake (Copy (Polling false)))) before = not (has_drawn before)
may_draw (of.Writer (on.LookTake (Copy (Polling false)))) before = not (has_drawn before)
may_draw point before = false

-- each access was the step that the note after it says, and each other note may come there. The last
-- access may have no note yet
unfoldable pub are_told : ℕ → Side → List Line → Bool
are_told capacity own [] = true
are_told capacity own (access a ∷ before) = are_told capacity own before
are_told capacity own (met count ∷ before) = are_told capacity own before
are_told capacity own (note (Began first) ∷ before) =
    both (begins capacity own first before) (are_told capacity own before)
are_told capacity own (note (Told said) ∷ access a ∷ before) =
    both (fits capacity own before (action (comes_to before).point) a said) (are_told capacity own before)
are_told capacity own (note Passed ∷ access a ∷ before) =
    both (passes own before (action (comes_to before).point) a) (are_told capacity own before)
are_told capacity own (note (ClosedLoaded none is_closed) ∷ access a ∷ before) =
    both (alike none (known_in capacity own before == 0))
    (both (fits capacity own before (action (comes_to before).point) a (found.Flag is_closed))
    (are_told capacity own before))
are_told capacity own (note (Made said) ∷ before) =
    both (is_made capacity own before (action (comes_to before).point) said) (are_told capacity own before)
are_told capacity own (note (Drew is_drawn) ∷ before) =
    both (may_draw (comes_to before).point before) (are_told capacity own before)
are_told capacity own (note said ∷ before) = false

-- whole calls: each call began where the last one had ended

abbrev pub is_idle : Point → Bool
is_idle (of.Reader at.Idle) = true
is_idle (of.Writer on.Idle) = true
is_idle point = false

-- no call is open
abbrev pub rests : Next Point → Bool
rests next = both (is_some next.answer) (is_idle next.point)

unfoldable pub are_calls : List Line → Bool
are_calls [] = true
are_calls (note (Began first) ∷ before) = both (rests (comes_to before)) (are_calls before)
are_calls (met count ∷ before) = both (rests (comes_to before)) (are_calls before)
are_calls (line ∷ before) = are_calls before

-- the last access has its note
abbrev pub is_settled : List Line → Bool
is_settled (access a ∷ before) = false
is_settled lines = true

-- both handles have met
unfoldable pub have_met : List Line → Bool
have_met [] = false
have_met (met count ∷ before) = true
have_met (line ∷ before) = have_met before

-- a log of whole calls, which says the truth: each note is true, each call began where the one before it
-- had ended, and the accesses published or gave up just these bytes
pub record IsTrueLog (capacity : ℕ) (own : Side) (lines : List Line) (moved : List ℕ) : Type 0 where
  pub told : are_told capacity own lines ≡ true
  pub calls : are_calls lines ≡ true
  pub settled : is_settled lines ≡ true
  pub bytes : moved_in lines ≡ moved

-- such logs of both sides of a pipe of this capacity: all their accesses are one list, in which each found
-- what the one before it left, and the bytes taken are the first of those sent
pub record AreTrueLogs (capacity : ℕ) (reader writer : List Line) (taken sent : List ℕ) : Type 0 where
  pub some : 1 ≤ capacity
  pub reads : IsTrueLog capacity Reader reader taken
  pub writes : IsTrueLog capacity Writer writer sent
  pub list : AreOneList (accesses_in reader) (accesses_in writer)
  pub rest : List ℕ
  pub order : taken ++ rest ≡ sent
