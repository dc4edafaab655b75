-- One call of a source or a destination in a round of a copy, and what is left of it for the next.
use Rattle.std.specs.Prelude.{ℕ, ◌-◌, min, List, [], ◌∷◌, drop, length, Result, Ok, Err}
use Rattle.piper_machine.specs.Types.{Failed, SourceAct, DestAct, Call, Found, Destination, Moved as moved, Slice, Acts}
use Rattle.piper_protocol.specs.declared.table.Found.TheVariants.{Failed as failed}

-- how many bytes a source gives that is lent so many places
abbrev pub given : ℕ → List SourceAct → Result ℕ Failed
given most [] = Ok 0
given most (SourceAct.Fail ∷ acts) = Err (record {})
given most (SourceAct.Bytes bytes ∷ acts) = Ok (min most (length bytes))

-- an act that has nothing left is spent
abbrev pub unspent : List ℕ → List SourceAct → List SourceAct
unspent [] acts = acts
unspent (byte ∷ bytes) acts = SourceAct.Bytes (byte ∷ bytes) ∷ acts

-- what is left of a source that has given so many bytes
abbrev pub left_of_source : ℕ → List SourceAct → List SourceAct
left_of_source n [] = []
left_of_source n (SourceAct.Fail ∷ acts) = acts
left_of_source n (SourceAct.Bytes bytes ∷ acts) = unspent (drop n bytes) acts

-- how many bytes a destination takes that is lent so many
abbrev pub taken_by_acts : ℕ → List DestAct → Result ℕ Failed
taken_by_acts most [] = Ok 0
taken_by_acts most (DestAct.Fail ∷ acts) = Err (record {})
taken_by_acts most (DestAct.Take size ∷ acts) = Ok (min size most)

abbrev pub taken : ℕ → Destination → Result ℕ Failed
taken most (Slice size) = Ok (min size most)
taken most (Acts acts) = taken_by_acts most acts

-- what is left of it: an act is spent by its call, and a slice is filled from its front
abbrev pub left_of_acts : List DestAct → List DestAct
left_of_acts [] = []
left_of_acts (act ∷ acts) = acts

abbrev pub left_of_destination : ℕ → Destination → Destination
left_of_destination most (Slice size) = Slice (size - min size most)
left_of_destination most (Acts acts) = Acts (left_of_acts acts)

-- what the side takes in of such a call
abbrev pub found_of : Result ℕ Failed → Found
found_of (Ok n) = moved n
found_of (Err fails) = failed

-- how many bytes it moves: one that fails moves none
abbrev pub moved_by : Result ℕ Failed → ℕ
moved_by (Ok n) = n
moved_by (Err fails) = 0

-- the destination and the source of a call
abbrev pub destination_of : Call → Destination
destination_of (Call.TryDrain size) = Slice size
destination_of (Call.PollDrainBytes waker luck size) = Slice size
destination_of (Call.PollDrain waker luck acts) = Acts acts
destination_of c = Slice 0

abbrev pub source_of : Call → List SourceAct
source_of (Call.TryFill bytes) = SourceAct.Bytes bytes ∷ []
source_of (Call.PollFillBytes waker luck bytes) = SourceAct.Bytes bytes ∷ []
source_of (Call.PollFill waker luck acts) = acts
source_of c = []
