-- What a poll of a reader or a writer leaves.
use Rattle.std.specs.Prelude.{◌≡◌, ℕ, ◌+◌, ◌<◌, ◌≤◌, ◌⊎◌, Bool, true, false, List, [], ◌++◌, take, drop, length, Result, Ok, Err, ⊤}
use Rattle.futures.specs.Poll.{OnPending}
use Rattle.futures.specs.declared.task.context.Context.{Context}
use Rattle.piper.specs.Contexts.{AsksAgain}
use Rattle.futures.specs.declared.task.Poll.{Poll}
use Rattle.futures.specs.declared.task.Poll.TheVariants.{Ready, Pending}
use denote.Ref.{Bor}
use Rattle.piper.specs.declared.error.PipeError.{PipeError}
use Rattle.piper_protocol.specs.declared.table.TheConstants.{MOST_A_ROUND}

-- the answer of a read or a write: how many bytes
abbrev pub Count : Type 0
Count = Poll (Result ℕ PipeError)

-- that of a call that lends: a piece of the bytes that are known
abbrev pub Piece : Type 0
Piece = Poll (Result (Bor (List ℕ)) PipeError)

-- and that of a flush or a close
abbrev pub Done : Type 0
Done = Poll (Result (Unit {0}) PipeError)

-- P holds if the poll was ready and nothing failed
abbrev pub OnReadyOk : {A E : Type 0} → Poll (Result A E) → Type 0 → Type 0
OnReadyOk (Ready (Ok x)) P = P
OnReadyOk (Ready (Err e)) P = ⊤
OnReadyOk Pending P = ⊤

-- P holds of its answer if the poll was ready and nothing failed
abbrev pub IfReadyOk : {A E : Type 0} → Poll (Result A E) → (A → Type 0) → Type 0
IfReadyOk (Ready (Ok x)) P = P x
IfReadyOk (Ready (Err e)) P = ⊤
IfReadyOk Pending P = ⊤

-- P holds of its error if the poll was ready and failed
abbrev pub IfReadyErr : {A E : Type 0} → Poll (Result A E) → (E → Type 0) → Type 0
IfReadyErr (Ready (Ok x)) P = ⊤
IfReadyErr (Ready (Err e)) P = P e
IfReadyErr Pending P = ⊤

-- what holds after a reported end: it is the end still, no byte becomes known, and no call waits
abbrev pub After : {A E : Type 0} → Poll (Result A E) → Type 0 → List ℕ → Type 0
After r ended known = ended × (known ≡ []) × OnPending r ⊥

-- and of a reader that doesn't say what it knows: it takes no byte
abbrev pub TakesNone : {A E : Type 0}
    → Poll (Result A E) → Type 0 → List ℕ → List ℕ → Type 0
TakesNone r ended before after = ended × (after ≡ before) × OnPending r ⊥

-- a slice that was lent: the first piece of the bytes that are known,
-- and an empty one only at an end that was seen. If the poll is pending, no byte is known
abbrev pub Lends : {E : Type 0} → Poll (Result (Bor (List ℕ)) E) → List ℕ → ℕ → Bool → Type 0
Lends (Ready (Ok s)) known piece saw =
    (s.now ≡ take piece known) × (piece ≤ length known)
    × (length s.now ≡ 0 → (known ≡ []) × (saw ≡ true))
Lends (Ready (Err e)) known piece saw = ⊤
Lends Pending known piece saw = known ≡ []

-- a slice that was read into: n bytes were taken, which are at its front, and the rest of it stays;
-- none, if it had room, only at an end that was seen. Else nothing was taken
abbrev pub Reads : {E : Type 0} → Poll (Result ℕ E)
    → List ℕ → List ℕ → List ℕ → List ℕ → Bool → Type 0
Reads (Ready (Ok n)) old new before after saw =
    (n ≤ length old) × (after ≡ before ++ take n new) × (drop n new ≡ drop n old)
    × (n ≡ 0 → 0 < length old → saw ≡ true)
Reads (Ready (Err e)) old new before after saw = (after ≡ before) × (new ≡ old)
Reads Pending old new before after saw = (after ≡ before) × (new ≡ old)

-- a slice that was written: of its first n bytes, which are counted, the first m were published;
-- and all n of them unless the pipe was seen closed, or else all but those of one round. A count of 0
-- for a slice that isn't empty says that it was seen closed. Else nothing was published
abbrev pub Writes : {E : Type 0} → Poll (Result ℕ E) → List ℕ → List ℕ → List ℕ → Bool → Type 0
Writes (Ready (Ok n)) source before after saw =
    (n ≤ length source)
    × ((m : ℕ) × (m ≤ n) × (after ≡ before ++ take m source) × (saw ≡ false → m ≡ n)
    × (n ≤ m + MOST_A_ROUND))
    × (n ≡ 0 → 0 < length source → saw ≡ true)
Writes (Ready (Err e)) source before after saw = after ≡ before
Writes Pending source before after saw = after ≡ before

-- bytes that were carried across: those that were taken begin with those
-- that were published, and are no more unless the writer saw its pipe closed
abbrev pub Carries : List ℕ → List ℕ → List ℕ → List ℕ → Bool → Type 0
Carries taken_before taken_after sent_before sent_after saw =
    (front : List ℕ) × (rest : List ℕ) × (taken_after ≡ taken_before ++ (front ++ rest))
    × (sent_after ≡ sent_before ++ front) × (saw ≡ false → rest ≡ [])

-- why a copy is pending: a call of its reader or of its writer was; or it has carried 64 pieces, each
-- of a byte at least, and asked for another poll itself
abbrev pub CopyPends : Type 0 → Type 0 → List ℕ → List ℕ → Context → Type 0
CopyPends read_waits write_waits before after cx =
    (read_waits ⊎ write_waits) ⊎ (AsksAgain cx × (length before + 64 ≤ length after))
