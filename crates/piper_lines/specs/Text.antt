-- The text of a line, without what ends it.
use Rattle.std.specs.Prelude.{◌≡◌, ℕ, ◌⊎◌, List, [], ◌∷◌, ◌++◌}
use Rattle.piper_lines.specs.Line.{line_feed, carriage_return}

-- its last byte is this one
abbrev pub EndsIn : ℕ → List ℕ → Type 0
EndsIn last bytes = (front : List ℕ) × (bytes ≡ front ++ last ∷ [])

-- CR LF is taken off, or an LF that has no CR before it, or nothing where no LF is the last byte
abbrev pub IsTextOf : List ℕ → List ℕ → Type 0
IsTextOf line text =
    (line ≡ text ++ carriage_return ∷ line_feed ∷ [])
    ⊎ ((line ≡ text ++ line_feed ∷ []) × ¬ EndsIn carriage_return text)
    ⊎ ((line ≡ text) × ¬ EndsIn line_feed text)
