-- Lines that are written back whole, in the order in which they came.
use Rattle.std.specs.Prelude.{◌≡◌, ℕ, ◌<◌, ◌⊎◌, Bool, true, List, [], ◌∷◌, ◌++◌, length, drop, ⊤}
use Rattle.std.specs.List.{concat}
use Rattle.futures.specs.declared.task.context.Context.{Context}
use Rattle.piper.specs.Contexts.{AsksAgain}
use Rattle.piper_lines.specs.Line.{Lacks}
use Rattle.piper_lines.specs.Moves.{Moves}
use Rattle.piper_lines.specs.Sends.{Sends}
use Rattle.piper_lines.specs.Stays.{WaitsForBytes}
use Rattle.piper_duplex.specs.declared.engine.echoing.LineEcho.{LineEcho}

-- the bytes of the line on its way back that are left
abbrev pub left_of : LineEcho → List ℕ
left_of echo = drop echo.written echo.line.items

-- what follows the last line
abbrev pub IsRest : ℕ → List ℕ → Type 0
IsRest end bytes = Lacks end bytes × (0 < length bytes)

-- each of them is whole, but that the last may be the rest
abbrev pub AreWhole : (List ℕ → Type 0) → (List ℕ → Type 0) → List (List ℕ) → Type 0
AreWhole Whole Rest [] = ⊤
AreWhole Whole Rest (piece ∷ pieces) =
    (Whole piece × AreWhole Whole Rest pieces) ⊎ (Rest piece × (pieces ≡ []))

-- what is left is the end of the last piece, or of what was left before the first
abbrev pub IsLeftOf : List ℕ → List (List ℕ) → List ℕ → Type 0
IsLeftOf before [] after = (written : List ℕ) × (before ≡ written ++ after)
IsLeftOf before (piece ∷ pieces) after = IsLeftOf piece pieces after

-- what was left before is sent, and then each piece that was taken since: a piece is whole before
-- its first byte is sent, and all of it is sent before the next one is taken. None is lost, none is
-- made up and none changes places
pub record Echoes (Whole Rest : List ℕ → Type 0)
    (taken_before taken_after kept_before kept_after left_before left_after : List ℕ)
    (sent_before sent_after : List ℕ) (saw_before saw_after : Bool) : Type 0 where
  pub pieces : List (List ℕ)
  pub whole : AreWhole Whole Rest pieces
  pub moved : Moves taken_before taken_after kept_before (concat pieces) kept_after
  pub sent : Sends (left_before ++ concat pieces) left_after
      sent_before sent_after saw_before saw_after
  pub left : IsLeftOf left_before pieces left_after

-- a pending echo waits for the writer while bytes of a line are left, and else for the reader
abbrev pub WaitsFor : (ℕ → Type 0) → (ℕ → Type 0) → List ℕ → ℕ → Type 0
WaitsFor reads writes [] s = reads s
WaitsFor reads writes (byte ∷ left) s = writes s

-- why an echo is pending: its writer is, of a line that is left; or none is left, and the reader has
-- nothing to give; or some moved, and it asked for another poll itself
abbrev pub EchoPends : {R : Type 0} → (R → List ℕ) → (R → Bool) → (R → Context → Type 0) → R
    → Type 0 → List ℕ → Bool → Type 0 → Context → Type 0
EchoPends known knows_end waits r write_waits left saw Moved cx =
    ((0 < length left) × ¬ (saw ≡ true) × write_waits)
    ⊎ ((left ≡ []) × WaitsForBytes known knows_end waits r cx)
    ⊎ (Moved × AsksAgain cx)
