-- Lines begin where no byte ends one, and end at the first that does.
use Rattle.std.proofs.Common.{◌≡◌, ◌≢◌, ℕ, ◌+◌, ◌<◌, List, [], ◌∷◌, ◌++◌, length, take, get_or, ap, ◌∙◌, sym, subst, append_assoc, length-take, arith}
use Rattle.std.proofs.lemmas.List.{take_more, get_or-take}
use Rattle.std.proofs.lemmas.List.Elements.{All-append, All-from_get_or}
use Rattle.piper_lines.specs.Line.{Lacks, IsLine}

pub Lacks-append : (end : ℕ) (xs ys : List ℕ) → Lacks end xs → Lacks end ys → Lacks end (xs ++ ys)
Lacks-append end xs ys front back = All-append (λ b. b ≢ end) xs ys front back

pub IsLine-append : (end : ℕ) (xs ys : List ℕ) → Lacks end xs → IsLine end ys → IsLine end (xs ++ ys)
IsLine-append end xs ys front back =
    (xs ++ back.0, Lacks-append end xs back.0 front back.1, ap (λ ws. xs ++ ws) back.2 ∙ sym (append_assoc xs back.0 (end ∷ [])))

-- none of the first n bytes ends a line
pub Lacks-take : (end : ℕ) (xs : List ℕ) (n : ℕ) → ((k : ℕ) → k < n → get_or xs k 0 ≢ end) → Lacks end (take n xs)
Lacks-take end xs n before =
    All-from_get_or (λ b. b ≢ end) (take n xs) 0 (λ k within.
    let below : k < n = omega (arith, length-take n xs) in
    subst (λ b. b ≢ end) (sym (get_or-take n xs k 0 below)) (before k below))

-- the first byte that may end a line ends it
pub IsLine-take : (end : ℕ) (xs : List ℕ) (n : ℕ) → n < length xs → ((k : ℕ) → k < n → get_or xs k 0 ≢ end) → get_or xs n 0 ≡ end
    → IsLine end (take (n + 1) xs)
IsLine-take end xs n within before here =
    (take n xs, Lacks-take end xs n before, take_more xs n 0 within ∙ ap (λ b. take n xs ++ b ∷ []) here)
