-- A loop that changes each element of a list.
use Rattle.std.proofs.Common.{◌≢◌, ℕ, ◌+◌, ◌<◌, ◌≤◌, List, length, set, subst, sym, arith}
use Rattle.std.specs.List.{AllWithin}
use Rattle.std.proofs.lemmas.List.{get_or-set_other, length-set}

-- what was true of those that come after the one that is written
pub AllWithin-rest_set : {X : Type 0} (P : X → Type 0) (ys : List X) (i : ℕ) (v : X)
    → AllWithin P ys i (length ys) → AllWithin P (set ys i v) (i + 1) (length (set ys i v))
AllWithin-rest_set P ys i v all = λ k d low high.
    let other : k ≢ i = omega (arith, low) in
    let in_range : k < length ys = subst (λ n. k < n) (length-set ys i v) high in
    let after : i ≤ k = omega (arith, low) in
    subst P (sym (get_or-set_other ys i k v d other)) (all k d after in_range)
