-- What a step reports to a side about the other is what the step leaves it knowing.
use Rattle.std.proofs.Common.{◌≡◌, ℕ, ◌-◌, ◌≤◌, List, ◌∷◌, ◌++◌, length, take, true, false, Option, None, Some, refl, arith, []}
use Rattle.std.proofs.lemmas.Grind.{common_steps}
use Rattle.std.specs.Prelude.{⊤}
use Rattle.piper_machine.specs.Types.{Side, Answer, Event, Action, Reader, Writer, Answered}
use Rattle.piper_machine.specs.Ready.{IsReadyAnswer}
use Rattle.piper_machine.specs.Log.{answer_event}
use Rattle.piper_machine.specs.Pipe.{Pipe}
use Rattle.piper_machine.specs.Action.{performed, logged_of}
use Rattle.piper_machine.specs.Known.{Knowledge, used_up, knowledge_after, knowledge_from}

pub knowledge-append : (c : ℕ) (side : Side) (k : Knowledge) (es fs : List Event) → knowledge_from c side k (es ++ fs) ≡ knowledge_from c side (knowledge_from c side k es) fs
knowledge-append c side k [] fs = refl
knowledge-append c side k (e ∷ es) fs = knowledge-append c side (knowledge_after c side k e) es fs

-- events that report nothing of the other side's index

pub answer-shows : (c : ℕ) (side actor : Side) (k : Knowledge) (answer : Option Answer) → knowledge_from c side k (answer_event actor answer) ≡ k
answer-shows c side actor k answer = grind arith

-- a query's load is not taken in, and a look's is
abbrev pub Fits : Side → Action → Knowledge → Type 0
Fits Reader Action.LoadTail k = (k.is_query ≡ true)
Fits Writer Action.LoadHead k = (k.is_query ≡ true)
Fits side Action.LoadIndex k = (k.is_query ≡ false)
Fits side action k = ⊤

abbrev pub learned : Side → Action → Pipe → Knowledge → Knowledge
learned Reader Action.LoadIndex p k = record k { known = length p.unread; found = length p.unread }
learned Writer Action.LoadIndex p k = record k { known = p.capacity - length p.unread; found = p.capacity - length p.unread }
learned Reader (Action.StoreHead n) p k = used_up (length (take n p.unread)) k
learned Writer (Action.StoreTail n) p k = used_up (length (take n p.lent)) k
learned side action p k = k

pub learns : (side : Side) (action : Action) (p : Pipe) (k : Knowledge) → Fits side action k → knowledge_from p.capacity side k (logged_of side action p) ≡ learned side action p k
learns side action p k fits = grind arith

abbrev pub knows : Side → Pipe → ℕ
knows Reader p = p.known
knows Writer p = p.room

-- the log never reports less than the side knows
pub learned-enough : (side : Side) (action : Action) (p : Pipe) (k : Knowledge) → knows side p ≤ k.known → knows side (performed side action p) ≤ (learned side action p k).known
learned-enough side action p k enough = grind (arith, common_steps)

-- and exactly that, where a store stays within what there is
abbrev pub Stores : Side → Action → Pipe → Type 0
Stores Reader (Action.StoreHead n) p = n ≤ length p.unread
Stores Writer (Action.StoreTail n) p = n ≤ length p.lent
Stores side action p = ⊤

pub learned-exactly : (side : Side) (action : Action) (p : Pipe) (k : Knowledge) → Stores side action p → k.known ≡ knows side p → (learned side action p k).known ≡ knows side (performed side action p)
learned-exactly side action p k stores same = grind (arith, common_steps)

-- what a step returns, if it does

abbrev pub IsReadyNext : Side → Knowledge → Option Answer → Type 0
IsReadyNext side k None = ⊤
IsReadyNext side k (Some answer) = IsReadyAnswer side k (Answered side answer)
