-- What a side knows of the other, as its own events show: the reader how many bytes are unread, the
-- writer how much room there is.
use Rattle.std.specs.Prelude.{◌≡◌, ℕ, ◌-◌, ◌≤◌, List, [], ◌∷◌, length, Bool, true, false}
use Rattle.piper_machine.specs.Types.{Side, Kind, Event, Reader, Writer, Began, Looked, Published, Consumed}
use Rattle.piper_machine.specs.declared.events.Seen.TheVariants.{Head, Tail}
use Rattle.piper_machine.specs.Pipe.{Pipe}

pub record Knowledge : Type 0 where
  -- what the side knows of now: bytes to read, or free places
  pub known : ℕ
  -- what it knew of as the look of its last call left it
  pub found : ℕ
  -- its last call is a query, which takes in nothing
  pub is_query : Bool

abbrev pub is_query : Kind → Bool
is_query (Kind.Query query) = true
is_query kind = false

-- a call begins with what the side knows
abbrev pub opened_with : Kind → Knowledge → Knowledge
opened_with kind k = record { known = k.known; found = k.known; is_query = is_query kind }

-- a load of the other side's index: a look takes in what it finds, a query does not
abbrev pub taken_in : Bool → ℕ → Knowledge → Knowledge
taken_in true n k = k
taken_in false n k = record k { known = n; found = n }

abbrev pub used_up : ℕ → Knowledge → Knowledge
used_up n k = record k { known = k.known - n }

-- of a side of a pipe of this capacity
abbrev pub knowledge_after : ℕ → Side → Knowledge → Event → Knowledge
knowledge_after capacity Reader k (Began Reader kind waker) = opened_with kind k
knowledge_after capacity Reader k (Looked Reader (Tail unread)) = taken_in k.is_query unread k
knowledge_after capacity Reader k (Consumed bytes) = used_up (length bytes) k
knowledge_after capacity Writer k (Began Writer kind waker) = opened_with kind k
knowledge_after capacity Writer k (Looked Writer (Head unread)) =
    taken_in k.is_query (capacity - unread) k
knowledge_after capacity Writer k (Published bytes) = used_up (length bytes) k
knowledge_after capacity side k event = k

-- over a list of events, from a knowledge on
abbrev pub knowledge_from : ℕ → Side → Knowledge → List Event → Knowledge
knowledge_from capacity side k [] = k
knowledge_from capacity side k (e ∷ es) =
    knowledge_from capacity side (knowledge_after capacity side k e) es

-- of a pipe as it is made the reader knows of no byte, and the writer of every place
abbrev pub known_first : ℕ → Side → ℕ
known_first capacity Reader = 0
known_first capacity Writer = capacity

abbrev pub knowledge_first : ℕ → Side → Knowledge
knowledge_first capacity side =
    let n = known_first capacity side in record { known = n; found = n; is_query = false }

abbrev pub knowledge_of : ℕ → Side → List Event → Knowledge
knowledge_of capacity side events =
    knowledge_from capacity side (knowledge_first capacity side) events

-- the log reports what each side knows, and no look finds more than the capacity
pub record IsKnown (p : Pipe) (events : List Event) : Type 0 where
  pub reader : (knowledge_of p.capacity Reader events).known ≡ p.known
  pub writer : (knowledge_of p.capacity Writer events).known ≡ p.room
  pub within : (side : Side) → (knowledge_of p.capacity side events).found ≤ p.capacity
