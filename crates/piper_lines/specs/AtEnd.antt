-- The end of a reader, and what a poll answers then.
use Rattle.std.specs.Prelude.{◌≡◌, ℕ, Bool, true, List, [], Result, Ok, Err, ⊤}
use Rattle.futures.specs.declared.task.Poll.{Poll}
use Rattle.futures.specs.declared.task.Poll.TheVariants.{Ready, Pending}

-- the reader knows of no byte, and saw the end
abbrev pub AtEnd : List ℕ → Bool → Type 0
AtEnd known saw = (known ≡ []) × (saw ≡ true)

-- the poll answers just that, or fails: it doesn't wait
abbrev pub AnswersOrFails : {A E : Type 0} → A → Poll (Result A E) → Type 0
AnswersOrFails wanted (Ready (Ok answer)) = answer ≡ wanted
AnswersOrFails wanted (Ready (Err e)) = ⊤
AnswersOrFails wanted Pending = ⊥
