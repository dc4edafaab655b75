-- What an output does with the bytes that its writes take.
use Rattle.std.specs.Prelude.{ℕ, List, ◌++◌, take, Result, MatchResult}

-- it has taken these bytes, too, after all that it took before; its parts have the same names
abbrev pub TakesMore : {D : Type 0} → (D → List (List ℕ) → List ℕ → Type 0) → D → D → List ℕ → Type 0
TakesMore took old new bs =
    (names : List (List ℕ)) (m : List ℕ) → took old names m → took new names (m ++ bs)

-- it has taken no byte
abbrev pub StaysTaken : {D : Type 0} → (D → List (List ℕ) → List ℕ → Type 0) → D → D → Type 0
StaysTaken took old new = (names : List (List ℕ)) (m : List ℕ) → took old names m → took new names m

-- `write(buf)` took n bytes at `Ok(n)`, and none at `Err`
abbrev pub WriteTakes : {D E : Type 0} → (D → List (List ℕ) → List ℕ → Type 0)
    → D → D → Result ℕ E → List ℕ → Type 0
WriteTakes took old new r buf =
    MatchResult r (λ n. TakesMore took old new (take n buf)) (λ _. StaysTaken took old new)
