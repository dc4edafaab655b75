-- Bytes that are written into a slice, one run after the other, and read off the front of one.
use Rattle.std.specs.Prelude.{◌≡◌, ℕ, ◌+◌, ◌≤◌, List, ◌++◌, [], take, drop, length, refl}
use Rattle.std.proofs.Common.{sym, ap, ◌∙◌, append_assoc, drop-drop, drop_at, take_at, take-append-drop, length-append, length-take-le, add_assoc, add-zero}

-- xs, with ys in it from place k on
abbrev pub written : List ℕ → ℕ → List ℕ → List ℕ
written xs k ys = take k xs ++ (ys ++ drop (k + length ys) xs)

-- a slice gave xs, and then ys
pub front_on : (us xs vs ys ws : List ℕ) → us ≡ xs ++ vs → vs ≡ ys ++ ws → us ≡ (xs ++ ys) ++ ws
front_on us xs vs ys ws p q = p ∙ ap (λ zs. xs ++ zs) q ∙ sym (append_assoc xs ys ws)

pub place_on : (j k l : ℕ) (xs ys : List ℕ) → k ≡ j + length xs → l ≡ k + length ys
    → l ≡ j + length (xs ++ ys)
place_on j k l xs ys p q =
    q ∙ ap (λ n. n + length ys) p ∙ add_assoc j (length xs) (length ys)
    ∙ ap (λ n. j + n) (sym (length-append xs ys))

pub place_same : (k : ℕ) → k ≡ k + 0
place_same k = sym (add-zero k)

pub written_nothing : (xs : List ℕ) (k : ℕ) → xs ≡ written xs k []
written_nothing xs k = sym (ap (λ n. take k xs ++ drop n xs) (add-zero k) ∙ take-append-drop k xs)

-- what is written after ys is written with it
pub written_twice : (xs : List ℕ) (k : ℕ) (ys zs : List ℕ) → k ≤ length xs
    → written (written xs k ys) (k + length ys) zs ≡ written xs k (ys ++ zs)
written_twice xs k ys zs within =
    let front : List ℕ = take k xs ++ ys in
    let rest : List ℕ = drop (k + length ys) xs in
    let once : written xs k ys ≡ front ++ rest = sym (append_assoc (take k xs) ys rest) in
    let n : length front ≡ k + length ys =
    length-append (take k xs) ys ∙ ap (λ m. m + length ys) (length-take-le k xs within) in
    let first : take (k + length ys) (front ++ rest) ≡ front =
    take_at front rest (k + length ys) n in
    let second : drop (k + length ys) (front ++ rest) ≡ rest =
    drop_at front rest (k + length ys) n in
    let later : drop (k + length ys + length zs) (front ++ rest) ≡ drop (length zs) rest =
    sym (drop-drop (length zs) (k + length ys) (front ++ rest))
    ∙ ap (λ ws. drop (length zs) ws) second in
    let last : drop (length zs) rest ≡ drop (k + length (ys ++ zs)) xs =
    drop-drop (length zs) (k + length ys) xs
    ∙ ap (λ m. drop m xs)
    (place_on k (k + length ys) (k + length ys + length zs) ys zs refl refl) in
    ap (λ ws. written ws (k + length ys) zs) once
    ∙ ap (λ ws. ws ++ (zs ++ drop (k + length ys + length zs) (front ++ rest))) first
    ∙ ap (λ ws. front ++ (zs ++ ws)) (later ∙ last)
    ∙ append_assoc (take k xs) ys (zs ++ drop (k + length (ys ++ zs)) xs)
    ∙ ap (λ ws. take k xs ++ ws) (sym (append_assoc ys zs (drop (k + length (ys ++ zs)) xs)))

pub written_on : (us vs ws : List ℕ) (j k : ℕ) (xs ys : List ℕ) → j ≤ length us
    → vs ≡ written us j xs → k ≡ j + length xs → ws ≡ written vs k ys
    → ws ≡ written us j (xs ++ ys)
written_on us vs ws j k xs ys within p q r =
    r ∙ ap (λ zs. written zs k ys) p ∙ ap (λ n. written (written us j xs) n ys) q
    ∙ written_twice us j xs ys within
