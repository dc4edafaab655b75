-- What clauses see of a reader, by name.
use Rattle.std.specs.Prelude.{ℕ, List, Bool}
use Rattle.piper_ring.specs.ReadView.{ReadView, in_one_piece}
use Rattle.piper_ring.specs.Shared.{Ring}
use Rattle.piper_protocol.specs.Lines.{Line}
use Rattle.piper_ring.specs.Log.{Log}
use Rattle.piper_ring.specs.SlotsView.{SlotsView}
use Rattle.piper.specs.declared.handles.Reader.{Reader}

-- its end of the ring
abbrev pub end_of : Reader → ReadView
end_of reader = reader.side.end

-- of which pipe it is
abbrev pub ring : Reader → Ring
ring reader = reader.side.end.ring

-- how many bytes the pipe can hold
abbrev pub capacity : Reader → ℕ
capacity reader = reader.side.end.capacity

-- all bytes that it consumed
abbrev pub taken : Reader → List ℕ
taken reader = reader.side.end.taken

-- the bytes that it knows of, the next one first
abbrev pub known : Reader → List ℕ
known reader = reader.side.end.known

-- how many of these are contiguous
abbrev pub front : Reader → ℕ
front reader = in_one_piece reader.side.end

-- whether a call of its own saw the pipe closed
abbrev pub saw : Reader → Bool
saw reader = reader.side.end.saw

-- how many published bytes marks reported to it, and whether one reported that the writer closed
-- the pipe
abbrev pub observed : Reader → ℕ
observed reader = reader.side.end.observed

abbrev pub observed_shut : Reader → Bool
observed_shut reader = reader.side.end.observed_shut

-- all bytes that were ever published, once it knows that the pipe is closed
abbrev pub all : Reader → List ℕ
all reader = reader.side.end.all

-- what it has of both slots: how it waits in its own, and whom it took out of the other's
abbrev pub slots : Reader → SlotsView
slots reader = reader.side.slots

-- what it did, call by call
abbrev pub log : Reader → Log
log reader = reader.side.log

-- the lines of that, the last first
abbrev pub lines : Reader → List Line
lines reader = reader.side.log.lines
