-- What calls over a reader or a writer leave as it was, and why they are pending.
use Rattle.std.specs.Prelude.{◌≡◌, ◌⊎◌, ◌+◌, ◌≤◌, Bool, true, false, List, [], ℕ}
use Rattle.futures.specs.declared.task.context.Context.{Context}
use Rattle.piper.specs.Contexts.{AsksAgain}
use Rattle.piper_lines.specs.declared.gather.TheConstants.{MOST_PIECES}

-- a reader is told of no more than before, and whoever it has woken stays woken
abbrev pub ReaderStays : {R : Type 0} → (R → Bool) → (R → Type 0) → R → R → Type 0
ReaderStays knows_end woken a b = (knows_end b ≡ knows_end a) × (woken a → woken b)

-- what a writer saw closed stays seen, and whoever it has woken stays woken
abbrev pub WriterStays : {W : Type 0} → (W → Bool) → (W → Type 0) → W → W → Type 0
WriterStays saw woken a b = (saw a ≡ true → saw b ≡ true) × (woken a → woken b)

-- a reader has nothing to give yet: it knows of no byte, was not told of the end, and its last call
-- was pending with this context
abbrev pub WaitsForBytes : {R : Type 0} → (R → List ℕ) → (R → Bool) → (R → Context → Type 0) → R
    → Context → Type 0
WaitsForBytes known knows_end waits r cx = (known r ≡ []) × (knows_end r ≡ false) × waits r cx

-- how far a poll has come where it asks for another one itself: by as many pieces as one may take,
-- each of a byte at least, or by as many lines or frames
abbrev pub WentOn : ℕ → ℕ → Type 0
WentOn before after = before + MOST_PIECES ≤ after

-- why a poll is pending: its reader has nothing to give yet, or the poll went on by Moved, and
-- asked for another one itself
abbrev pub Pends : {R : Type 0} → (R → List ℕ) → (R → Bool) → (R → Context → Type 0) → R
    → Type 0 → Context → Type 0
Pends known knows_end waits r Moved cx =
    WaitsForBytes known knows_end waits r cx ⊎ (Moved × AsksAgain cx)
