-- What came is the front of what was sent.
use Rattle.std.proofs.Common.{◌≡◌, ◌∙◌, ◌≤◌, sym, ap, ℕ, List, ◌++◌, take, length, length-append, length-take, length-take-le, take_at, take-take, arith}

-- if it makes a beginning of the bytes with more after it
pub came_first : (place more bytes : List ℕ) (n m : ℕ) → n ≤ length place → take n place ++ more ≡ take m bytes → take n place ≡ take n bytes
came_first place more bytes n m within all =
    let count : length (take n place) ≡ n = length-take-le n place within in
    let few : n ≤ m = omega (arith, count, ap length all, length-append (take n place) more, length-take m bytes) in
    sym (take_at (take n place) more n count) ∙ ap (λ xs. take n xs) all ∙ take-take n m bytes few
