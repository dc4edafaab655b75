-- A word that says that nothing is in its cell leaves the right as it is.
use Rattle.piper_ring.proofs.Kit.{◌≡◌, ◌%◌, ℕ, Bool, true, false, refl, ap, arith, number}
use Rattle.piper_ring.proofs.ends.cells.take_out.Goals as goal

is_empty : (i : ℕ) (filled : Bool) (n : ℕ) → n ≡ number (i, filled) → n % 2 ≡ 0 → filled ≡ false
is_empty i false n says even = refl
is_empty i true n says even = absurd (omega arith)

pub returns-then-word-eq0-clause-right : goal.returns-then-word-eq0-clause-right
returns-then-word-eq0-clause-right g c = let at = c.requires.at in ap (λ (f : Bool). record c.args.right.now { filled = f }) (is_empty at.0 c.args.right.now.filled c.args.word at.2 c.if-word-eq0.true)
