-- Bytes that were taken follow those that were gathered before.
use Rattle.std.proofs.Common.{◌≡◌, ℕ, ◌<◌, List, [], ◌++◌, length, take, arith, append_assoc, append-nil, ap, ◌∙◌, sym}
use Rattle.std.proofs.Math.Seq.{take-nil}
use Rattle.piper_lines.specs.Moves.{Grows}

pub grows_none : (taken gathered : List ℕ) → Grows taken taken gathered gathered
grows_none taken gathered = ([], sym (append-nil taken), sym (append-nil gathered))

-- more were taken on
pub grows_more : (t0 t1 t2 g0 g1 g2 more : List ℕ) → Grows t0 t1 g0 g1 → t2 ≡ t1 ++ more → g2 ≡ g1 ++ more → Grows t0 t2 g0 g2
grows_more t0 t1 t2 g0 g1 g2 more grown taken gathered = (
  grown.0 ++ more,
  taken ∙ ap (λ ws. ws ++ more) grown.1 ∙ append_assoc t0 grown.0 more,
  gathered ∙ ap (λ ws. ws ++ more) grown.2 ∙ append_assoc g0 grown.0 more,
)

-- a slice that was lent is empty where nothing is known
pub lends_some : (known lent : List ℕ) (piece : ℕ) → lent ≡ take piece known → 0 < length lent → known ≡ [] → ⊥
lends_some known lent piece is some none = omega (arith, some, ap length (is ∙ ap (λ l. take piece l) none ∙ take-nil piece))
