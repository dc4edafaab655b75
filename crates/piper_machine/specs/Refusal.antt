-- Why a step is refused. Where several reasons hold, the first in the order of the lines is
-- returned; want of memory comes last.
use Rattle.std.specs.Prelude.{◌≡◌, length, Bool, true, false, Option, None, Some, nat_le, nat_lt}
use Rattle.piper_machine.specs.Types.{Side, SideState, Call, Step, StepRefusal, ReadPoint, WritePoint, Reader, Writer, Begin, Go, Put}
use Rattle.piper_machine.specs.declared.refusals.StepRefusal.TheVariants.{Busy, Idle, Dropped, PastLent, PastPeek, BadDraw}
use Rattle.piper_machine.specs.Pipe.{Pipe}
use Rattle.piper_machine.specs.Places.{peeked_count}
use Rattle.piper_machine.specs.Call.{side_of, has_good_draw}

abbrev pub reader_state : ReadPoint → SideState
reader_state ReadPoint.Idle = SideState.Idle
reader_state ReadPoint.Dropped = SideState.Dropped
reader_state point = SideState.Busy

abbrev pub writer_state : WritePoint → SideState
writer_state WritePoint.Idle = SideState.Idle
writer_state WritePoint.Dropped = SideState.Dropped
writer_state point = SideState.Busy

abbrev pub state_of : Side → Pipe → SideState
state_of Reader p = reader_state p.reader
state_of Writer p = writer_state p.writer

abbrev pub IsIdle : Side → Pipe → Type 0
IsIdle Reader p = p.reader ≡ ReadPoint.Idle
IsIdle Writer p = p.writer ≡ WritePoint.Idle

-- why no call can be opened
abbrev pub cannot_begin : SideState → Option StepRefusal
cannot_begin SideState.Idle = None
cannot_begin SideState.Busy = Some Busy
cannot_begin SideState.Dropped = Some Dropped

-- why no step can be made
abbrev pub cannot_go : SideState → Option StepRefusal
cannot_go SideState.Idle = Some Idle
cannot_go SideState.Busy = None
cannot_go SideState.Dropped = Some Dropped

-- the refusal where a test fails
abbrev pub unless : Bool → StepRefusal → Option StepRefusal
unless true r = None
unless false r = Some r

-- the first reason, or else the second
abbrev pub or_else : Option StepRefusal → Option StepRefusal → Option StepRefusal
or_else None second = second
or_else (Some r) second = Some r

-- a call asks for more than there is
abbrev pub past : Call → Pipe → Option StepRefusal
past (Call.Consume n) p = unless (nat_le n (peeked_count p)) PastPeek
past (Call.Produced n) p = unless (nat_le n (length p.lent)) PastLent
past c p = None

abbrev pub refusal_of : Step → Pipe → Option StepRefusal
refusal_of (Begin c) p =
    or_else (cannot_begin (state_of (side_of c) p))
    (or_else (unless (has_good_draw c) BadDraw) (past c p))
refusal_of (Go side) p = cannot_go (state_of side p)
refusal_of (Put offset byte) p =
    or_else (cannot_begin (state_of Writer p)) (unless (nat_lt offset (length p.lent)) PastLent)
