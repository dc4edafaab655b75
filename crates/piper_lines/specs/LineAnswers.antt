-- What one poll for a line hands out and keeps.
use Rattle.std.specs.Prelude.{◌≡◌, ℕ, ◌<◌, ◌≤◌, ◌⊎◌, Bool, true, false, List, [], length, Result, Ok, Err, ⊤}
use Rattle.futures.specs.declared.task.Poll.{Poll}
use Rattle.futures.specs.declared.task.Poll.TheVariants.{Ready, Pending}
use Rattle.piper_lines.specs.declared.line_reader.LineAnswer.{LineAnswer}
use Rattle.piper_lines.specs.declared.line_reader.LineAnswer.TheVariants.{Line, TooLong, Last, End}
use Rattle.piper_lines.specs.AtEnd.{AtEnd}
use Rattle.piper_lines.specs.Line.{Lacks, IsLine}

-- as many bytes as the limit, none of which ends a line; or all that was kept, where that is more
abbrev pub IsTooLong : ℕ → ℕ → List ℕ → List ℕ → Type 0
IsTooLong end limit before line =
    Lacks end line × ((length line ≡ limit) ⊎ ((line ≡ before) × (limit < length line)))

-- the reader ended
abbrev pub at_end : LineAnswer → Bool
at_end Line = false
at_end TooLong = false
at_end Last = true
at_end End = true

-- P holds where the answer reports that the reader ended
abbrev pub OnLinesEnd : {E : Type 0} → Poll (Result LineAnswer E) → Type 0 → Type 0
OnLinesEnd (Ready (Ok answer)) P = at_end answer ≡ true → P
OnLinesEnd (Ready (Err e)) P = ⊤
OnLinesEnd Pending P = ⊤

-- by the answer: the bytes of a line, begun before, that are gathered now
abbrev pub Gathers : {E : Type 0} → Poll (Result LineAnswer E)
    → ℕ → ℕ → List ℕ → List ℕ → List ℕ → Bool → Type 0
Gathers (Ready (Ok Line)) end limit before line known saw = IsLine end line × (length line ≤ limit)
Gathers (Ready (Ok TooLong)) end limit before line known saw = IsTooLong end limit before line
Gathers (Ready (Ok Last)) end limit before line known saw =
    Lacks end line × (0 < length line) × AtEnd known saw
Gathers (Ready (Ok End)) end limit before line known saw = (line ≡ []) × AtEnd known saw
Gathers (Ready (Err e)) end limit before line known saw = Lacks end line × (length line < limit)
Gathers Pending end limit before line known saw =
    Lacks end line × (length line < limit) × (known ≡ [])

-- by the answer: the bytes of a line, begun before,
-- that are handed out now, and those that are kept
abbrev pub Hands : {E : Type 0} → Poll (Result LineAnswer E)
    → ℕ → ℕ → List ℕ → List ℕ → List ℕ → List ℕ → Bool → Type 0
Hands (Ready (Ok Line)) end limit before line kept known saw =
    IsLine end line × (length line ≤ limit) × (kept ≡ [])
Hands (Ready (Ok TooLong)) end limit before line kept known saw =
    IsTooLong end limit before line × (kept ≡ [])
Hands (Ready (Ok Last)) end limit before line kept known saw =
    Lacks end line × (0 < length line) × (kept ≡ []) × AtEnd known saw
Hands (Ready (Ok End)) end limit before line kept known saw =
    (line ≡ []) × (kept ≡ []) × AtEnd known saw
Hands (Ready (Err e)) end limit before line kept known saw =
    (line ≡ []) × Lacks end kept × (length kept < limit)
Hands Pending end limit before line kept known saw =
    (line ≡ []) × Lacks end kept × (length kept < limit) × (known ≡ [])
