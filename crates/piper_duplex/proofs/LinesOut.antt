-- The next bytes of a line.
use Rattle.std.proofs.Common.{◌≡◌, ◌≢◌, ℕ, ◌+◌, ◌<◌, inl, inr, Bool, true, false, List, take, length, get_or, subst, refl, le_refl, arith, take-take}
use Rattle.piper_lines.specs.Line.{IsLine, Lacks, line_feed}
use Rattle.piper_lines.proofs.LineEnds.{IsLine-take, Lacks-take}
use Rattle.piper_duplex.specs.Client.{IsOfLine}

-- of the same bytes, where they fill the line by another count
pub fills_line : (is_whole : Bool) (P Q : Type 0) (bytes : List ℕ) → (P → Q) → IsOfLine is_whole P bytes → IsOfLine is_whole Q bytes
fills_line true P Q bytes so (inl line) = inl line
fills_line true P Q bytes so (inr full) = inr (full.0, so full.1)
fills_line false P Q bytes so lacks = lacks

-- no byte ends the line, which is whole only where it is full
pub goes_on : (is_whole : Bool) (P : Type 0) (bytes : List ℕ) → (is_whole ≡ true → P) → Lacks line_feed bytes → IsOfLine is_whole P bytes
goes_on true P bytes full lacks = inr (lacks, full refl)
goes_on false P bytes full lacks = lacks

-- the first LF of the first `room` bytes is after n of them
pub line_within : (bytes : List ℕ) (room n : ℕ) → n < length (take room bytes) → n < room → ((k : ℕ) → k < n → get_or (take room bytes) k 0 ≢ line_feed)
    → get_or (take room bytes) n 0 ≡ line_feed → IsLine line_feed (take (n + 1) bytes)
line_within bytes room n within before none here =
    subst (λ xs. IsLine line_feed xs) (take-take (n + 1) room bytes (omega arith)) (IsLine-take line_feed (take room bytes) n within none here)

-- none of the first `room` bytes is an LF
pub none_within : (bytes : List ℕ) (room : ℕ) → ((k : ℕ) → k < room → get_or (take room bytes) k 0 ≢ line_feed) → Lacks line_feed (take room bytes)
none_within bytes room none =
    subst (λ xs. Lacks line_feed xs) (take-take room room bytes (le_refl room)) (Lacks-take line_feed (take room bytes) room none)
