-- What a call of each kind may move, and what it may return: a query by what it checked, a copy by
-- the bytes that it moved.
use Rattle.std.specs.Prelude.{◌≡◌, ℕ, ◌+◌, ◌≤◌, List, [], ◌∷◌, ◌++◌, length, Bool, true, false, Option, None, Some, Result, Ok, Err, ⊤}
use Rattle.piper_machine.specs.Types.{Side, Query, Call, Answer, Seen, Polled, Failed, DestAct, SourceAct, Reader, Writer, Count, Lent, Done, Pending, Ready, Memory}
use Rattle.piper_protocol.specs.declared.answer.Answer.TheVariants.{Flag, Poll, Copy}
use Rattle.piper_machine.specs.declared.events.Seen.TheVariants.{Head, Tail, Closed}
use Rattle.piper_protocol.specs.Table.{query_answer}
use Rattle.piper_machine.specs.Scripted.{bytes_given, ends_in_failure}

-- the first bytes are a beginning of all bytes
abbrev pub IsBeginning : List ℕ → List ℕ → Type 0
IsBeginning first all = (rest : List ℕ) × (first ++ rest ≡ all)

-- the places of a scripted destination before it fails, and whether it does
abbrev pub places_of : List DestAct → ℕ
places_of [] = 0
places_of (DestAct.Fail ∷ acts) = 0
places_of (DestAct.Take size ∷ acts) = size + places_of acts

abbrev pub may_fail : List DestAct → Bool
may_fail [] = false
may_fail (DestAct.Fail ∷ acts) = true
may_fail (DestAct.Take size ∷ acts) = may_fail acts

-- the call may have moved these bytes: of a fill a beginning of what it was handed
abbrev pub MayHaveMoved : Call → List ℕ → Type 0
MayHaveMoved (Call.TryDrain size) moved = length moved ≤ size
MayHaveMoved (Call.PollDrainBytes waker luck size) moved = length moved ≤ size
MayHaveMoved (Call.PollDrain waker luck acts) moved = length moved ≤ places_of acts
MayHaveMoved (Call.Consume n) moved = length moved ≡ n
MayHaveMoved (Call.TryFill bytes) moved = IsBeginning moved bytes
MayHaveMoved (Call.PollFillBytes waker luck bytes) moved = IsBeginning moved bytes
MayHaveMoved (Call.PollFill waker luck acts) moved = IsBeginning moved (bytes_given acts)
MayHaveMoved (Call.Produced n) moved = length moved ≡ n
MayHaveMoved c moved = ⊥

-- A query loads the head and then the tail. The reader returns what it found last, the writer what
-- it found first.
abbrev pub number_found : Side → List Seen → Option ℕ
number_found Reader (Tail number ∷ Head before ∷ []) = Some number
number_found Writer (Tail later ∷ Head number ∷ []) = Some number
number_found side looks = None

-- the answer follows from the number of unread bytes that the query found
pub record IsQueried (capacity : ℕ) (side : Side) (query : Query) (looks : List Seen)
    (answer : Answer) : Type 0 where
  pub number : ℕ
  pub is_found : number_found side looks ≡ Some number
  pub within : number ≤ capacity
  pub answers : answer ≡ query_answer query capacity number

-- a drain counts the bytes that it consumed, and has places for all of them
pub record IsDrained (size : ℕ) (moved : List ℕ) (count : ℕ) : Type 0 where
  pub consumed : count ≡ length moved
  pub within : count ≤ size

-- whether the last look at closed found it
abbrev pub found_closed : List Seen → Bool
found_closed [] = false
found_closed (Closed is_closed ∷ looks) = is_closed
found_closed (look ∷ looks) = found_closed looks

-- the look that was made first: the newest is in front
abbrev pub first_look : List Seen → Option Seen
first_look [] = None
first_look (look ∷ []) = Some look
first_look (later ∷ look ∷ looks) = first_look (look ∷ looks)

-- A fill counts the bytes that it published. Where it found the pipe closed after a round, it
-- counts what its source gave in that round too; where it found it closed at first, it counts none.
pub record IsFilled (handed : List ℕ) (looks : List Seen) (moved : List ℕ)
    (count : ℕ) : Type 0 where
  pub published : found_closed looks ≡ false → count ≡ length moved
  pub none : first_look looks ≡ Some (Closed true) → count ≡ 0
  pub at_least : length moved ≤ count
  pub at_most : count ≤ length handed

-- a source fails only where its script does, and after all that it gave
pub record HasFailed (acts : List SourceAct) (moved : List ℕ) : Type 0 where
  pub fails : ends_in_failure acts ≡ true
  pub published : moved ≡ bytes_given acts

-- a copy with a context: a count, a failure, or an answer before any byte was moved
abbrev pub IsCopied : (ℕ → Type 0) → Type 0 → List ℕ → Polled (Result ℕ Failed) → Type 0
IsCopied Counts Fails moved (Ready (Ok count)) = Counts count
IsCopied Counts Fails moved (Ready (Err failed)) = Fails
IsCopied Counts Fails moved Pending = moved ≡ []
IsCopied Counts Fails moved Memory = moved ≡ []

-- the answer is right of a call that looked and moved so, on a pipe of this capacity
abbrev pub IsAnswer : ℕ → Call → List Seen → List ℕ → Answer → Type 0
IsAnswer capacity (Call.Query side query) looks moved answer =
    IsQueried capacity side query looks answer
IsAnswer capacity (Call.IsClosed side) looks moved (Flag is_closed) = looks ≡ Closed is_closed ∷ []
IsAnswer capacity (Call.Poll side waker luck) looks moved (Poll polled) = ⊤
IsAnswer capacity (Call.TryDrain size) looks moved (Count count) = IsDrained size moved count
IsAnswer capacity (Call.PollDrainBytes waker luck size) looks moved (Copy copied) =
    IsCopied (IsDrained size moved) ⊥ moved copied
IsAnswer capacity (Call.PollDrain waker luck acts) looks moved (Copy copied) =
    IsCopied (IsDrained (places_of acts) moved) (may_fail acts ≡ true) moved copied
IsAnswer capacity (Call.Consume n) looks moved Done = length moved ≡ n
IsAnswer capacity (Call.TryFill bytes) looks moved (Count count) = IsFilled bytes looks moved count
IsAnswer capacity (Call.PollFillBytes waker luck bytes) looks moved (Copy copied) =
    IsCopied (IsFilled bytes looks moved) ⊥ moved copied
IsAnswer capacity (Call.PollFill waker luck acts) looks moved (Copy copied) =
    IsCopied (IsFilled (bytes_given acts) looks moved) (HasFailed acts moved) moved copied
IsAnswer capacity (Call.WriteBuf most) looks moved (Lent count) = count ≤ most
IsAnswer capacity (Call.Produced n) looks moved Done = length moved ≡ n
IsAnswer capacity Call.Close looks moved Done = ⊤
IsAnswer capacity (Call.Drop side) looks moved Done = ⊤
IsAnswer capacity c looks moved answer = ⊥
