-- What is published of some bytes, counted.
use Rattle.std.proofs.Common.{◌≡◌, ℕ, ◌≤◌, ◌++◌, List, take, length, ap, length-append, length-take-le, arith}

-- the first m and the first n of some bytes are as many, where both were published after the same
pub as_many : (before after xs : List ℕ) (m n : ℕ) → m ≤ n → n ≤ length xs → after ≡ before ++ take m xs → after ≡ before ++ take n xs → m ≡ n
as_many before after xs m n le within p q =
    omega (arith, ap length p, ap length q, length-append before (take m xs), length-append before (take n xs), length-take-le m xs (omega (arith, le, within)), length-take-le n xs within)
