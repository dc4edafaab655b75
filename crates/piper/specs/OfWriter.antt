-- What clauses see of a writer, by name.
use Rattle.std.specs.Prelude.{ℕ, List, Bool}
use Rattle.piper_ring.specs.Shared.{Ring}
use Rattle.piper_ring.specs.WriteView.{WriteView}
use Rattle.piper_protocol.specs.Lines.{Line}
use Rattle.piper_ring.specs.Log.{Log}
use Rattle.piper_ring.specs.SlotsView.{SlotsView}
use Rattle.piper.specs.declared.handles.Writer.{Writer}

-- its end of the ring
abbrev pub end_of : Writer → WriteView
end_of writer = writer.side.end

-- of which pipe it is
abbrev pub ring : Writer → Ring
ring writer = writer.side.end.ring

-- how many bytes the pipe can hold
abbrev pub capacity : Writer → ℕ
capacity writer = writer.side.end.capacity

-- all bytes that it published
abbrev pub sent : Writer → List ℕ
sent writer = writer.side.end.sent

-- how many bytes it knows to have room for
abbrev pub room : Writer → ℕ
room writer = writer.side.end.room

-- what is left of the slice last lent, as it is
abbrev pub lent : Writer → List ℕ
lent writer = writer.side.end.lent

-- whether it closed the pipe for good
abbrev pub shut : Writer → Bool
shut writer = writer.side.end.shut

-- whether a call of its own saw the pipe closed, or closed it
abbrev pub saw : Writer → Bool
saw writer = writer.side.end.saw

-- how many consumed bytes marks reported to it
abbrev pub observed : Writer → ℕ
observed writer = writer.side.end.observed

-- what it has of both slots: how it waits in its own, and whom it took out of the other's
abbrev pub slots : Writer → SlotsView
slots writer = writer.side.slots

-- what it did, call by call
abbrev pub log : Writer → Log
log writer = writer.side.log

-- the lines of that, the last first
abbrev pub lines : Writer → List Line
lines writer = writer.side.log.lines
