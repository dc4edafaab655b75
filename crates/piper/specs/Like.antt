-- What passes through a source or a destination.
use Rattle.std.specs.Prelude.{◌≡◌, ℕ, ◌+◌, ◌%◌, ◌^◌, List, [], ◌++◌, take, Option, Result, Ok, Err, MatchResult}
use Rattle.std.specs.Io.KnownBytes.{Consumes, Appends}

-- the type of `gives` and `takes`: a state, the bytes that passed, and the state after
abbrev pub Passes : Type 0 → Type 1
Passes S = S → List ℕ → S → Type 0

-- if no byte passes, a state may stay as it is
abbrev pub PassesNothing : {S : Type 0} → Passes S → Type 0
PassesNothing {S} passes = (s : S) → passes s [] s

-- what passes after one another passes together, in that order
abbrev pub PassesInOrder : {S : Type 0} → Passes S → Type 0
PassesInOrder {S} passes = (a : S) (xs : List ℕ) (b : S) (ys : List ℕ) (c : S)
    → passes a xs b → passes b ys c → passes a (xs ++ ys) c

-- what passed of a slice in a call with this answer: the first n bytes, or none if it failed
abbrev pub passed : {E : Type 0} → Result ℕ E → List ℕ → List ℕ
passed (Ok n) xs = take n xs
passed (Err e) xs = []

-- a count of failures, modulo 2^64: it goes up by one if the call failed
abbrev pub Counts : {A E : Type 0} → Result A E → ℕ → ℕ → Type 0
Counts r old new = MatchResult r (λ _. new ≡ old) (λ _. new ≡ (old + 1) % 2 ^ 64)

-- the bytes that std's readers give and std's writers take, if they are known
abbrev pub consumes_of : {R : Type 0} → (R → Option (List ℕ)) → Passes R
consumes_of remaining s xs t = Consumes (remaining s) (remaining t) xs

abbrev pub appends_to : {W : Type 0} → (W → Option (List ℕ)) → Passes W
appends_to contents s xs t = Appends (contents s) (contents t) xs
