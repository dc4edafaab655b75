-- Bytes that were carried from a reader to a writer, one piece after the other.
use Rattle.std.proofs.Common.{◌≡◌, ℕ, ◌≤◌, Bool, true, false, List, [], ◌++◌, take, drop, refl, sym, ap, ◌∙◌, append-nil, append_assoc, take-append-drop, take-take, length-take, arith}
use Rattle.std.proofs.lemmas.List.{drop_all}
use Rattle.piper.specs.Polls.{Carries}

-- none was carried
pub carries_none : (taken sent : List ℕ) (saw : Bool) → Carries taken taken sent sent saw
carries_none taken sent saw = ([], [], sym (append-nil taken), sym (append-nil sent), λ _. refl)

-- n bytes more were taken, of a piece that the writer was handed, and the first m of them were
-- published
pub carries_more : (t0 t1 t2 s0 s1 s2 piece : List ℕ) (m n : ℕ) (saw1 saw2 : Bool) → Carries t0 t1 s0 s1 saw1 → ¬ (saw1 ≡ true)
    → t2 ≡ t1 ++ take n piece → m ≤ n → s2 ≡ s1 ++ take m piece → (saw2 ≡ false → m ≡ n) → Carries t0 t2 s0 s2 saw2
carries_more t0 t1 t2 s0 s1 s2 piece m n true saw2 c unseen t within s all = absurd (unseen refl)
carries_more t0 t1 t2 s0 s1 s2 piece m n false saw2 c unseen t within s all =
    let xs : List ℕ = take n piece in
    let whole : t1 ≡ t0 ++ c.0 = c.2 ∙ ap (λ ws. t0 ++ (c.0 ++ ws)) (c.4 refl) ∙ ap (λ ws. t0 ++ ws) (append-nil c.0) in (
      c.0 ++ take m xs,
      drop m xs,
      t ∙ ap (λ ws. ws ++ xs) whole ∙ append_assoc t0 c.0 xs ∙ ap (λ ws. t0 ++ (c.0 ++ ws)) (sym (take-append-drop m xs))
          ∙ ap (λ ws. t0 ++ ws) (sym (append_assoc c.0 (take m xs) (drop m xs))),
      s ∙ ap (λ ws. s1 ++ ws) (sym (take-take m n piece within)) ∙ ap (λ ws. ws ++ take m xs) c.3 ∙ append_assoc s0 c.0 (take m xs),
      λ not_seen. drop_all m xs (omega (arith, all not_seen, length-take n piece)),
    )
