-- What the log reports of a side's open call: which call it is, what it checked, and the bytes that
-- it moved.
use Rattle.std.specs.Prelude.{ℕ, List, [], ◌∷◌, ◌++◌, Bool, true, false, Option, None, Some}
use Rattle.piper_machine.specs.Types.{Side, Call, Step, Seen, Event, Reader, Writer, Begin, Began, Looked, Published, Consumed, Answered}
use Rattle.piper_machine.specs.Call.{side_of}
use Rattle.piper_machine.specs.Counts.{is_same}

pub record Noted : Type 0 where
  -- the calls that the side has still to open, in order: the log reports kind and waker of a call,
  -- the list of steps its arguments
  pub coming : List Call
  -- the open call, if there is one
  pub call : Option Call
  -- what the call opened last checked, newest first
  pub looks : List Seen
  -- the bytes that it consumed, of the reader, or published, of the writer
  pub moved : List ℕ

abbrev pub call_if : Bool → Call → List Call → List Call
call_if true c cs = c ∷ cs
call_if false c cs = cs

-- the calls of a side that are opened in a list of steps
abbrev pub calls_of : Side → List Step → List Call
calls_of side [] = []
calls_of side (Begin c ∷ ss) = call_if (is_same side (side_of c)) c (calls_of side ss)
calls_of side (s ∷ ss) = calls_of side ss

-- nothing was reported yet
abbrev pub unnoted : List Call → Noted
unnoted coming = record { coming = coming; call = None; looks = []; moved = [] }

-- the next call is opened
abbrev pub noted_next : List Call → Noted
noted_next [] = unnoted []
noted_next (c ∷ cs) = record { coming = cs; call = Some c; looks = []; moved = [] }

-- only the reader consumes, and only the writer publishes
abbrev pub noted_after : Side → Noted → Event → Noted
noted_after Reader t (Began Reader kind waker) = noted_next t.coming
noted_after Writer t (Began Writer kind waker) = noted_next t.coming
noted_after Reader t (Looked Reader what) = record t { looks = what ∷ t.looks }
noted_after Writer t (Looked Writer what) = record t { looks = what ∷ t.looks }
noted_after Reader t (Consumed bytes) = record t { moved = t.moved ++ bytes }
noted_after Writer t (Published bytes) = record t { moved = t.moved ++ bytes }
noted_after Reader t (Answered Reader answer) = record t { call = None }
noted_after Writer t (Answered Writer answer) = record t { call = None }
noted_after side t event = t

-- over a list of events, from what was reported before
abbrev pub noted_from : Side → Noted → List Event → Noted
noted_from side t [] = t
noted_from side t (e ∷ es) = noted_from side (noted_after side t e) es
