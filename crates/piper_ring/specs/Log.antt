-- What a log says: what its side did, where the side's last call is by the call table, and whether it
-- tells the truth.
use Rattle.std.specs.Prelude.{◌≡◌, ◌⊎◌, ℕ, ◌==◌, Bool, List, [], ◌∷◌, Option, None, is_some, Result, Ok, Err, true, false, not, ⊤}
use Rattle.piper_protocol.specs.Lines.{Line, access, met, note}
use Rattle.piper_protocol.specs.OneList.{Access, AreOneList, loaded_slot, stored_closed, swapped}
use Rattle.piper_protocol.specs.Table.{Next, ends}
use Rattle.piper_protocol.specs.Told.{alike, are_told, begins, fits, has_drawn, is_made, is_settled, known_in, may_draw, may_empty, passes, rests}
use Rattle.piper_protocol.specs.declared.answer.Answer.{Answer}
use Rattle.piper_protocol.specs.declared.log.Note.{Note}
use Rattle.piper_protocol.specs.declared.log.Note.TheVariants.{Began, ClosedLoaded, Drew, Made, Passed, Told}
use Rattle.piper_protocol.specs.declared.table.Action.{Action}
use Rattle.piper_protocol.specs.declared.table.Action.TheVariants as does
use Rattle.piper_protocol.specs.declared.table.AfterWrite.TheVariants.{Drop}
use Rattle.piper_protocol.specs.declared.table.Found.{Found}
use Rattle.piper_protocol.specs.declared.table.Found.TheVariants.{Failed, Flag as flag, Granted as granted, Moved, Nothing, Waker as waker}
use Rattle.piper_protocol.specs.declared.table.Point.{Point}
use Rattle.piper_protocol.specs.declared.table.Point.TheVariants.{Reader, Writer}
use Rattle.piper_protocol.specs.declared.table.ReadPoint.TheVariants as at
use Rattle.piper_protocol.specs.declared.table.Side.{Side}
use Rattle.piper_protocol.specs.declared.table.WritePoint.TheVariants as on
use Rattle.piper_ring.specs.Shared.{Names}
use Rattle.piper_ring.specs.Trace.{side_of}
use Rattle.piper_ring.specs.declared.log.Log.{Log as log}
pub use Rattle.piper_protocol.specs.Lines.{accesses_in, action, before_of, comes_to, first_of, idle, step}

-- where a side leaves: it closes, and its handle is dropped
abbrev pub leaves_at : Bool → Point
leaves_at true = Reader at.StoreClosed
leaves_at false = Writer (on.StoreClosed Drop)

-- a log, and with one line more
abbrev pub Log : Type 0
Log = log

-- it is the log of this side of the ring
abbrev pub IsLogOf : Names → Bool → Log → Type 0
IsLogOf names reads log = (log.keeps ≡ true) × (log.names ≡ names) × (log.reads ≡ reads)

-- of which nothing is noted yet
abbrev pub IsNew : Names → Bool → Log → Type 0
IsNew names reads log = IsLogOf names reads log × (log.lines ≡ [])

-- all that the side did to what both share
unfoldable pub accesses_of : Log → List Access
accesses_of log = accesses_in log.lines

-- the first has the accesses of the reader, if that is `true`, else those of the writer, and the second
-- those of the other side: they are what is left of one list
abbrev pub AreSides : Bool → List Access → List Access → Type 0
AreSides true a b = AreOneList a b
AreSides false a b = AreOneList b a

-- a load of this side may be noted in it: nobody keeps it, or the side does
abbrev pub MayNote : Names → Bool → Log → Type 0
MayNote names reads log = log.keeps ≡ true → (log.names ≡ names) × (log.reads ≡ reads)

abbrev pub with_line : Line → Log → Log
with_line line log = record log { lines = line ∷ log.lines }

abbrev pub did : Access → Log → Log
did a = with_line (access a)

abbrev pub with_note : Note → Log → Log
with_note said = with_line (note said)

-- the other side had moved so many bytes when both handles met: consumed, if this side writes
abbrev pub taught : Bool → ℕ → ℕ → ℕ
taught true consumed published = published
taught false consumed published = consumed

abbrev pub has_met : ℕ → Log → Log
has_met count = with_line (met count)

abbrev pub began : Point → Log → Log
began first = with_note (Began first)

abbrev pub told : Found → Log → Log
told found = with_note (Told found)

abbrev pub passed : Log → Log
passed = with_note Passed

-- the same, if this access was made and was none of the table's
abbrev pub passed_if : Bool → Access → Log → Log
passed_if true a log = passed (did a log)
passed_if false a log = log

abbrev pub made : Found → Log → Log
made found = with_note (Made found)

-- the step was made, by this access or without one
abbrev pub told_if : Bool → Found → Access → Log → Log
told_if true found a log = told found (did a log)
told_if false found a log = made found log

-- what a call of a source or a destination found
abbrev pub found_of : {F : Type 0} → Result ℕ F → Found
found_of (Ok n) = Moved n
found_of (Err e) = Failed

abbrev pub closed_loaded : Bool → Bool → Log → Log
closed_loaded none is_closed = with_note (ClosedLoaded none is_closed)

abbrev pub drew : Bool → Log → Log
drew is_drawn = with_note (Drew is_drawn)

-- where the last call is, and what it answered
abbrev pub now : Log → Next Point
now log = comes_to log.lines

-- where the step leads that comes next, if this is what it finds
abbrev pub then : Next Point → Found → Next Point
then next found = step next.point found

-- the step that the last call makes next
abbrev pub next : Log → Action
next log = action (now log).point

-- since a, one call was begun, at this point, and has come there
pub record Opened (start : Point) (there : Next Point) (a b : Log) : Type 0 where
  pub first : first_of b.lines ≡ start
  pub before : before_of b.lines ≡ a.lines
  pub now : now b ≡ there

-- the call that was open at a has come there
pub record Comes (there : Next Point) (a b : Log) : Type 0 where
  pub first : first_of b.lines ≡ first_of a.lines
  pub before : before_of b.lines ≡ before_of a.lines
  pub now : now b ≡ there

-- since a, one call was made: it began at this point, and its lines, in their order, are a run of the
-- table to this answer
unfoldable pub Ran : Point → Answer → Log → Log → Type 0
Ran start answer a b = Opened start (ends (idle start) answer) a b

-- since a these calls were made, one after the other, and nothing else: each is a run of the table from
-- its first point to its answer
abbrev pub AreRuns : List (Point × Answer) → Log → Log → Type 0
AreRuns [] a b = b.lines ≡ a.lines
AreRuns (call ∷ calls) a b = (there : Log) × Ran call.0 call.1 a there × AreRuns calls there b

-- whether or not a waker is found in a slot the call goes on at one point, and before that it calls
-- the one that it finds
pub record WakesNext (now : Next Point) : Type 0 where
  pub wakes : action (then now (waker true)).point ≡ does.Wake
  pub same : then (then now (waker true)) Nothing ≡ then now (waker false)

-- the side that waits in a side's own slot, and the one that waits in the other
abbrev pub own : Bool → Side
own reads = side_of reads

abbrev pub other : Bool → Side
other reads = side_of (not reads)

-- the last access found this slot empty
abbrev FoundEmpty : Side → List Line → Type 0
FoundEmpty side (note said ∷ access (loaded_slot there is_filled) ∷ before) =
    (there ≡ side) × (is_filled ≡ false)
FoundEmpty side (note said ∷ access (swapped there old left) ∷ before) =
    (there ≡ side) × (old ≡ None)
FoundEmpty side lines = ⊥

-- no waker of this side is registered in its slot: it did not wait, or has found the slot empty
abbrev pub IsUnregistered : Bool → Bool → Log → Type 0
IsUnregistered reads waits log = (waits ≡ false) ⊎ FoundEmpty (own reads) log.lines

-- the last lines of a side that left: it closed, and then emptied the other's slot, in which it found
-- a waker or none
abbrev pub HasLeft : Bool → Log → Log → Type 0
HasLeft is_found a b =
    (found : Option ℕ) × (is_some found ≡ is_found)
    × (b.lines ≡ note (Told (waker is_found)) ∷ access (swapped (other a.reads) found None)
    ∷ note (Told Nothing) ∷ access stored_closed ∷ a.lines)

-- this step was made, which is no access of a ring. It is sealed: no proof looks into it, and only
-- those of the functions that make the step use the lemma below
pub WasMade : Action → Type 0
WasMade action = ⊤

pub as_stepped : (action : Action) → WasMade action
unfolding WasMade
as_stepped action = tt

-- the step is no access of a ring, and found this: a call of the source or the destination of a copy
-- that moves nothing, of a waker, or for one that is to be registered, which is refused. A waker was
-- called before that is noted, and another poll asked for
abbrev pub IsOutside : Action → Found → Type 0
IsOutside does.CallDestination found = (found ≡ Moved 0)
IsOutside does.CallSource found = (found ≡ Moved 0)
IsOutside does.Register (granted false) = ⊤
IsOutside does.Wake Nothing = WasMade does.Wake
IsOutside does.Yield (granted true) = WasMade does.Yield
IsOutside action found = ⊥

-- whether a log tells the truth

abbrev pub tells_true : Log → Bool
tells_true log = are_told log.names.capacity (side_of log.reads) log.lines

-- the same. By it what the log says of a side is no path for a search of whoever has the side
unfoldable pub as_is : {A : Type 0} → A → A
as_is x = x

-- no call is open
unfoldable pub is_at_rest : Log → Bool
is_at_rest log = rests (now log)

-- the last access has its note
unfoldable pub is_noted : Log → Bool
is_noted log = is_settled log.lines

abbrev pub Rests : Log → Type 0
Rests log = is_at_rest log ≡ true

-- what the log allows next: that a call begins here, that the last line, an access, is told or passed, a
-- step that is no access, a draw
abbrev pub MayBegin : Point → Log → Type 0
MayBegin first log = begins log.names.capacity (side_of log.reads) first log.lines ≡ true

abbrev pub IsToldIn : ℕ → Side → Action → Found → List Line → Type 0
IsToldIn capacity own it said (access a ∷ before) =
    (action (comes_to before).point ≡ it) × (fits capacity own before it a said ≡ true)
IsToldIn capacity own it said lines = ⊥

abbrev pub IsTold : Action → Found → Log → Type 0
IsTold it said log = IsToldIn log.names.capacity (side_of log.reads) it said log.lines

abbrev pub IsLoadedIn : ℕ → Side → Bool → Bool → List Line → Type 0
IsLoadedIn capacity own none is_closed (access a ∷ before) =
    (alike none (known_in capacity own before == 0) ≡ true)
    × IsToldIn capacity own does.LoadClosed (flag is_closed) (access a ∷ before)
IsLoadedIn capacity own none is_closed lines = ⊥

abbrev pub IsLoaded : Bool → Bool → Log → Type 0
IsLoaded none is_closed log =
    IsLoadedIn log.names.capacity (side_of log.reads) none is_closed log.lines

abbrev pub MayPassIn : Side → Action → List Line → Type 0
MayPassIn own it (access a ∷ before) =
    (action (comes_to before).point ≡ it) × (passes own before it a ≡ true)
MayPassIn own it lines = ⊥

abbrev pub MayPass : Action → Log → Type 0
MayPass it log = MayPassIn (side_of log.reads) it log.lines

abbrev pub MayMake : Action → Found → Log → Type 0
MayMake it said log =
    (next log ≡ it) × (is_made log.names.capacity (side_of log.reads) log.lines it said ≡ true)

abbrev pub MayDraw : Log → Type 0
MayDraw log = may_draw (now log).point log.lines ≡ true

-- the copy that is open, if one is, has not drawn
abbrev pub IsUndrawn : Log → Type 0
IsUndrawn log = has_drawn log.lines ≡ false

-- a copy that is to empty its own slot has drawn
abbrev pub HasDrawn : Log → Type 0
HasDrawn log = may_empty (side_of log.reads) (side_of log.reads) log.lines ≡ true
