-- How many steps a call makes at most, and how many it has made.
use Rattle.std.specs.Prelude.{ℕ, ◌+◌, ◌*◌, ◌≤◌, List, [], ◌∷◌, Bool, true, false, Option, None, Some}
use Rattle.piper_machine.specs.Types.{Side, Call, Step, Event, Reader, Writer, Begin, Go, Put}
use Rattle.piper_machine.specs.Call.{side_of}
use Rattle.piper_machine.specs.Known.{knowledge_of}

-- the most steps from the opening of a call to its answer, where its look leaves so many
-- bytes known, or so much room: a copy moves no more than that, and at least a byte a round
abbrev pub most_steps : ℕ → Call → ℕ
most_steps found (Call.Query side query) = 2
most_steps found (Call.IsClosed side) = 1
most_steps found (Call.Poll side waker luck) = 5
most_steps found (Call.TryDrain size) = 6 + 4 * found
most_steps found (Call.PollDrainBytes waker luck size) = 6 + 4 * found
most_steps found (Call.PollDrain waker luck acts) = 6 + 4 * found
most_steps found (Call.Consume n) = 3
most_steps found (Call.TryFill bytes) = 6 + 5 * found
most_steps found (Call.PollFillBytes waker luck bytes) = 6 + 5 * found
most_steps found (Call.PollFill waker luck acts) = 6 + 5 * found
most_steps found (Call.WriteBuf most) = 0
most_steps found (Call.Produced n) = 3
most_steps found Call.Close = 5
most_steps found (Call.Drop side) = 3

-- before a side's first call nothing is open
abbrev pub most_of : ℕ → Option Call → ℕ
most_of found None = 0
most_of found (Some c) = most_steps found c

-- of a side: its last call, and the steps made since that was opened
pub record Tally : Type 0 where
  pub made : ℕ
  pub call : Option Call

abbrev pub is_same : Side → Side → Bool
is_same Reader Reader = true
is_same Writer Writer = true
is_same side other = false

abbrev pub tallied_begin : Bool → Call → Tally → Tally
tallied_begin true c t = record { made = 0; call = Some c }
tallied_begin false c t = t

abbrev pub tallied_go : Bool → Tally → Tally
tallied_go true t = record t { made = t.made + 1 }
tallied_go false t = t

abbrev pub tallied : Side → Tally → Step → Tally
tallied side t (Begin c) = tallied_begin (is_same side (side_of c)) c t
tallied side t (Go other) = tallied_go (is_same side other) t
tallied side t (Put offset byte) = t

-- over a list of steps, from a tally on
abbrev pub tally_from : Side → Tally → List Step → Tally
tally_from side t [] = t
tally_from side t (s ∷ ss) = tally_from side (tallied side t s) ss

abbrev pub tally_of : Side → List Step → Tally
tally_of side steps = tally_from side (record { made = 0; call = None }) steps

-- on a pipe of this capacity no call has made more steps than its most, by what its look found
abbrev pub IsCounted : ℕ → List Step → List Event → Type 0
IsCounted capacity steps events = (side : Side) →
    let t = tally_of side steps in
    t.made ≤ most_of (knowledge_of capacity side events).found t.call
