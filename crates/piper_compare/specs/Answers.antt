-- What a replay gave, beside what a stored script wants.
use Rattle.std.specs.Prelude.{◌≡◌, ℕ, List}
use Rattle.piper_compare.specs.declared.vector.Vector.{Vector}
use Rattle.piper_script.specs.declared.replay.Ended.{Ended}

-- a replay that printed this, and ended so, gave just the answers that the script wants
abbrev pub GivesAnswers : Vector → Ended → List ℕ → Type 0
GivesAnswers wanted ended printed =
    (printed ≡ wanted.output.now) × (ended.status ≡ wanted.status)
    × (ended.text.now ≡ wanted.stderr.now)
