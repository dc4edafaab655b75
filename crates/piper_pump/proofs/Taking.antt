-- What a copy takes, one piece after another.
use Rattle.std.proofs.Common.{◌≡◌, ◌++◌, ℕ, List, [], append_assoc, append-nil, ap, drop, length, refl, subst, sym, take, ◌∙◌}
use Rattle.std.proofs.lemmas.List.{nil_from_length, take-append-drop}
use Rattle.piper_transfer.specs.Taken.{TakesMore}

-- it took the front of these bytes, and the rest is left
pub record Takes {D : Type 0} (T : D → List (List ℕ) → List ℕ → Type 0) (old new : D) (bytes rest : List ℕ) : Type 0 where
  pub front : List ℕ
  pub is : bytes ≡ front ++ rest
  pub more : TakesMore T old new front

pub takes_none : {D : Type 0} (T : D → List (List ℕ) → List ℕ → Type 0) (d : D) (bytes : List ℕ) → Takes T d d bytes bytes
takes_none T d bytes = record { front = []; is = refl; more = λ names m got. subst (T d names) (sym (append-nil m)) got }

pub takes_step : {D : Type 0} (T : D → List (List ℕ) → List ℕ → Type 0) (d e f : D) (bytes rest after : List ℕ) (n : ℕ)
    → Takes T d e bytes rest → TakesMore T e f (take n rest) → after ≡ drop n rest → Takes T d f bytes after
takes_step T d e f bytes rest after n before more left = record {
  front = before.front ++ take n rest;
  is = before.is ∙ ap (λ xs. before.front ++ xs) (sym (take-append-drop n rest)) ∙ sym (append_assoc before.front (take n rest) (drop n rest))
      ∙ ap (λ xs. (before.front ++ take n rest) ++ xs) (sym left);
  more = λ names m got. subst (T f names) (append_assoc m before.front (take n rest)) (more names (m ++ before.front) (before.more names m got));
}

pub takes_all : {D : Type 0} (T : D → List (List ℕ) → List ℕ → Type 0) (d e : D) (bytes rest : List ℕ)
    → Takes T d e bytes rest → length rest ≡ 0 → TakesMore T d e bytes
takes_all T d e bytes rest taken empty =
    let none : rest ≡ [] = nil_from_length rest empty in
    subst (TakesMore T d e) (sym (taken.is ∙ ap (λ xs. taken.front ++ xs) none ∙ append-nil taken.front)) taken.more
