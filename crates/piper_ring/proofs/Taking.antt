-- What the reader took, as it takes n bytes more off those that it knows of.
use Rattle.std.proofs.Common.{◌≡◌, ℕ, ◌+◌, ◌≤◌, List, ◌++◌, length, take, drop, sym, ap, ◌∙◌, append_assoc, length-append}
use Rattle.std.proofs.Math.Seq.{take-append-add}
use Rattle.std.proofs.lemmas.List.{take-append-drop, take-append-le, length-take-le}

module _ (have known : List ℕ) (head n : ℕ) (le : head ≤ length have) (whole : have ≡ take head have ++ known) where
  pub taken_more : take (head + n) have ≡ take head have ++ take n known
  taken_more = ap (λ (l : List ℕ). take (head + n) l) whole ∙ ap (λ (m : ℕ). take (m + n) (take head have ++ known)) (sym (length-take-le head have le)) ∙ take-append-add (take head have) known n

  pub whole_still : have ≡ take (head + n) have ++ drop n known
  whole_still = whole ∙ ap (λ (l : List ℕ). take head have ++ l) (sym (take-append-drop n known)) ∙ sym (append_assoc (take head have) (take n known) (drop n known)) ∙ ap (λ (l : List ℕ). l ++ drop n known) (sym taken_more)

  pub all_counted : length have ≡ head + length known
  all_counted = ap length whole ∙ length-append (take head have) known ∙ ap (λ (m : ℕ). m + length known) (length-take-le head have le)

-- what the reader took stays, as more after all of it becomes known
module _ (have known more : List ℕ) (head : ℕ) (le : head ≤ length have) (whole : have ≡ take head have ++ known) where
  pub taken_stays : take head (have ++ more) ≡ take head have
  taken_stays = take-append-le head have more le

  pub whole_with_more : have ++ more ≡ take head (have ++ more) ++ (known ++ more)
  whole_with_more = ap (λ (l : List ℕ). l ++ more) whole ∙ append_assoc (take head have) known more ∙ ap (λ (l : List ℕ). l ++ (known ++ more)) (sym taken_stays)
