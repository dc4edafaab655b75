-- Bytes that are copied from slice to slice, some at a time.
use Rattle.std.specs.Prelude.{◌≡◌, ℕ, ◌+◌, ◌≤◌, List, ◌++◌, take, drop, length}
use Rattle.std.proofs.Common.{sym, ap, ◌∙◌, append_assoc, take-add, take_at, length-take-le}

-- the first n bytes of xs are at the front: k of them were there, and the next ones were put after
pub copied_on : (xs front more after : List ℕ) (k m n : ℕ) → n ≤ length xs → n ≡ k + m
    → front ≡ take k xs → more ≡ take m (drop k xs)
    → take n (front ++ (more ++ after)) ≡ take n xs
copied_on xs front more after k m n within sum p q =
    let both : front ++ more ≡ take n xs =
    ap (λ zs. zs ++ more) p ∙ ap (λ zs. take k xs ++ zs) q ∙ sym (take-add k m xs)
    ∙ ap (λ i. take i xs) (sym sum) in
    ap (λ zs. take n zs) (sym (append_assoc front more after))
    ∙ ap (λ zs. take n (zs ++ after)) both
    ∙ take_at (take n xs) after n (length-take-le n xs within)
