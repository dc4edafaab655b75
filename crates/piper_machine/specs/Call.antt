-- What a call is, apart from what it does.
use Rattle.std.specs.Prelude.{ℕ, Bool, true, Option, None, Some, nat_lt}
use Rattle.piper_machine.specs.Types.{Side, Call, Context, Kind, Reader, Writer}

abbrev pub side_of : Call → Side
side_of (Call.Query side query) = side
side_of (Call.IsClosed side) = side
side_of (Call.Poll side waker luck) = side
side_of (Call.TryDrain size) = Reader
side_of (Call.PollDrainBytes waker luck size) = Reader
side_of (Call.PollDrain waker luck acts) = Reader
side_of (Call.Consume n) = Reader
side_of (Call.TryFill bytes) = Writer
side_of (Call.PollFillBytes waker luck bytes) = Writer
side_of (Call.PollFill waker luck acts) = Writer
side_of (Call.WriteBuf most) = Writer
side_of (Call.Produced n) = Writer
side_of Call.Close = Writer
side_of (Call.Drop side) = side

abbrev pub kind_of : Call → Kind
kind_of (Call.Query side query) = Kind.Query query
kind_of (Call.IsClosed side) = Kind.IsClosed
kind_of (Call.Poll side waker luck) = Kind.Poll
kind_of (Call.TryDrain size) = Kind.TryDrain
kind_of (Call.PollDrainBytes waker luck size) = Kind.PollDrainBytes
kind_of (Call.PollDrain waker luck acts) = Kind.PollDrain
kind_of (Call.Consume n) = Kind.Consume
kind_of (Call.TryFill bytes) = Kind.TryFill
kind_of (Call.PollFillBytes waker luck bytes) = Kind.PollFillBytes
kind_of (Call.PollFill waker luck acts) = Kind.PollFill
kind_of (Call.WriteBuf most) = Kind.WriteBuf
kind_of (Call.Produced n) = Kind.Produced
kind_of Call.Close = Kind.Close
kind_of (Call.Drop side) = Kind.Drop

-- what a polling call is handed beside its side, its bytes or its script
abbrev pub context_of : Call → Option Context
context_of (Call.Poll side waker luck) = Some (record { waker = waker; luck = luck })
context_of (Call.PollDrainBytes waker luck size) = Some (record { waker = waker; luck = luck })
context_of (Call.PollDrain waker luck acts) = Some (record { waker = waker; luck = luck })
context_of (Call.PollFillBytes waker luck bytes) = Some (record { waker = waker; luck = luck })
context_of (Call.PollFill waker luck acts) = Some (record { waker = waker; luck = luck })
context_of c = None

abbrev pub waker_in : Option Context → Option ℕ
waker_in None = None
waker_in (Some cx) = Some cx.waker

-- the waker that is handed over
abbrev pub waker_of : Call → Option ℕ
waker_of c = waker_in (context_of c)

abbrev pub is_good_draw : Option Context → Bool
is_good_draw None = true
is_good_draw (Some cx) = nat_lt cx.luck.draw 100

-- a draw is below 100
abbrev pub has_good_draw : Call → Bool
has_good_draw c = is_good_draw (context_of c)
