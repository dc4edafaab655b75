-- Bytes on their way from a reader through what is kept to what is handed out.
use Rattle.std.specs.Prelude.{◌≡◌, ℕ, ◌+◌, ◌<◌, List, ◌++◌, length}

-- none is lost, none is made up and none changes places: what was kept before,
-- joined with the bytes that were taken since, is what was handed out, joined with what is kept now
abbrev pub Moves : List ℕ → List ℕ → List ℕ → List ℕ → List ℕ → Type 0
Moves taken_before taken_after kept_before handed kept_after =
    (more : List ℕ) × (taken_after ≡ taken_before ++ more)
    × (kept_before ++ more ≡ handed ++ kept_after)

-- the bytes that were taken since follow what was gathered before
abbrev pub Grows : List ℕ → List ℕ → List ℕ → List ℕ → Type 0
Grows taken_before taken_after before after =
    (more : List ℕ) × (taken_after ≡ taken_before ++ more) × (after ≡ before ++ more)

-- the bytes that were taken since are as many as there are fewer to skip
abbrev pub Passes : List ℕ → List ℕ → ℕ → ℕ → Type 0
Passes taken_before taken_after skips_before skips_after =
    (passed : List ℕ) × (taken_after ≡ taken_before ++ passed)
    × (length passed + skips_after ≡ skips_before)

-- the bytes that were taken since are first those that pass,
-- and then those that move; none of these is taken before all have passed
abbrev pub PassesMoves : List ℕ → List ℕ → ℕ → ℕ → List ℕ → List ℕ → List ℕ → Type 0
PassesMoves taken_before taken_after skips_before skips_after kept_before handed kept_after =
    (between : List ℕ) × Passes taken_before between skips_before skips_after
    × Moves between taken_after kept_before handed kept_after
    × (0 < skips_after → taken_after ≡ between)
