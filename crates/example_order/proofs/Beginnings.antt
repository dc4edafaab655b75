-- Beginnings of the same bytes: what was given, and what was published.
use Rattle.std.proofs.Common.{◌≡◌, ◌∙◌, ◌≤◌, ◌+◌, ◌-◌, sym, ap, refl, ℕ, Bool, true, false, List, ◌++◌, take, drop, length, append-nil, length-drop, length-take-le, arith}
use Rattle.std.proofs.Math.Seq.{take-add, take-append-add}
use Rattle.std.proofs.lemmas.List.{take-append-le, take_all}
use borrow.Rule.Slice.PartMut.{put_mid, post_of}

-- what is left of the bytes after the first k
abbrev pub left_after : List ℕ → ℕ → List ℕ
left_after bytes k = take (length bytes - k) (drop k bytes)

-- the first k bytes, and then the first m of those that are left
pub first_and_next : (bytes : List ℕ) (k m : ℕ) → k ≤ length bytes
    → take k bytes ++ take m (left_after bytes k) ≡ take (k + m) bytes
first_and_next bytes k m within =
    let all : left_after bytes k ≡ drop k bytes =
    take_all (length bytes - k) (drop k bytes) (omega (arith, length-drop k bytes)) in
    ap (λ xs. take k bytes ++ take m xs) all ∙ sym (take-add k m bytes)

-- a fill publishes some of what is left, or none once the pipe was seen closed:
-- what was published stays a beginning of the bytes
pub front_grows : (bytes before after : List ℕ) (k n : ℕ) (saw : Bool) → k ≤ length bytes
    → ((m : ℕ) × (before ≡ take m bytes)) → (saw ≡ false → before ≡ take k bytes)
    → (saw ≡ true → n ≡ 0)
    → ((m : ℕ) × (m ≤ n) × (after ≡ before ++ take m (left_after bytes k)))
    → (m : ℕ) × (after ≡ take m bytes)
front_grows bytes before after k n true within front unseen over more =
    let none : more.0 ≡ 0 = omega (arith, more.1, over refl) in (
      front.0,
      more.2 ∙ ap (λ m. before ++ take m (left_after bytes k)) none ∙ append-nil before ∙ front.1,
    )
front_grows bytes before after k n false within front unseen over more = (
  k + more.0,
  more.2 ∙ ap (λ xs. xs ++ take more.0 (left_after bytes k)) (unseen refl)
      ∙ first_and_next bytes k more.0 within,
)

-- what is at the front of a place that is filled from k on: what was there, and then the front of
-- what was put there
pub front_and_next : (place part : List ℕ) (k n : ℕ) → k ≤ length place → n ≤ length part
    → take (k + n) (put_mid k (length place - k) place part) ≡ take k place ++ take n part
front_and_next place part k n within fits =
    let rest = part ++ post_of k (length place - k) place in
    ap (λ m. take (m + n) (take k place ++ rest)) (sym (length-take-le k place within))
    ∙ take-append-add (take k place) rest n ∙ ap (λ xs. take k place ++ xs) (take-append-le n part _ fits)
