-- What goes into a fresh pipe that has room for all of it comes out of it whole.
use Rattle.std.proofs.Common.{◌≡◌, ℕ, ◌≤◌, List, length, take, drop, ◌++◌, sym, ap, ◌∙◌, append-nil, arith}
use Rattle.std.proofs.lemmas.Grind.{common_steps}
use Rattle.std.proofs.Math.Seq.{take-length, drop-length}
use Rattle.piper_machine.specs.Pipe.{Pipe, fresh, begun}
use Rattle.piper_machine.specs.Copy.{count_of, try_fill, try_drain, filled, unlent}

-- a pipe into which these bytes went, all that it has room for
abbrev pub full_of : List ℕ → Pipe
full_of bytes = filled bytes (unlent (begun (fresh (length bytes))))

pub fills-all : (bytes : List ℕ) → 1 ≤ length bytes → (try_fill bytes (fresh (length bytes))).pipe ≡ full_of bytes
fills-all bytes some = grind (arith, common_steps)

pub drains-all : (bytes : List ℕ) → 1 ≤ length bytes → count_of (try_drain (length bytes) (full_of bytes)).answer ≡ length bytes
drains-all bytes some = grind arith

-- a destination that is filled to its end holds these bytes alone
pub fills-dest : (dest bytes : List ℕ) → length dest ≡ length bytes → take (length bytes) bytes ++ drop (length bytes) dest ≡ bytes
fills-dest dest bytes same = ap (λ n. take (length bytes) bytes ++ drop n dest) (sym same) ∙ ap (λ rest. take (length bytes) bytes ++ rest) (drop-length dest) ∙ append-nil _ ∙ take-length bytes
