-- Bytes that are sent piece by piece.
use Rattle.std.proofs.Common.{◌≡◌, ℕ, ◌≤◌, Bool, true, false, List, [], ◌++◌, take, drop, length, refl, sym, ap, ◌∙◌, append-nil, append_assoc, take-append-drop, take-take, length-take, length-append, subst, arith}
use Rattle.std.proofs.lemmas.List.{drop_all, nil_from_length}
use Rattle.piper_lines.specs.Sends.{Sends}

-- none was counted
pub sends_none : (left sent : List ℕ) (saw0 saw1 : Bool) → Sends left left sent sent saw0 saw1
sends_none left sent saw0 saw1 = ([], refl, ([], [], refl, sym (append-nil sent), λ _. refl), λ _. refl)

-- what was seen closed stays seen
unseen : (saw0 saw1 : Bool) → (saw0 ≡ true → saw1 ≡ true) → saw1 ≡ false → saw0 ≡ false
unseen false saw1 stays not_seen = refl
unseen true saw1 stays not_seen = let seen = stays refl in cc

-- since then none was counted, but closed may have been seen
pub sends_same : (l0 l1 s0 s1 s2 : List ℕ) (saw0 saw1 saw2 : Bool) → Sends l0 l1 s0 s1 saw0 saw1 → (saw1 ≡ true → saw2 ≡ true)
    → s2 ≡ s1 → Sends l0 l1 s0 s2 saw0 saw2
sends_same l0 l1 s0 s1 s2 saw0 saw1 saw2 sends stays same =
    let published = sends.2 in
    (sends.0, sends.1, (published.0, published.1, published.2, same ∙ published.3, λ not_seen. published.4 (unseen saw1 saw2 stays not_seen)), sends.3)

-- n more were counted, and the first m of them published
pub sends_more : (l0 l1 s0 s1 s2 : List ℕ) (m n : ℕ) (saw0 saw1 saw2 : Bool) → Sends l0 l1 s0 s1 saw0 saw1
    → (saw0 ≡ true → saw1 ≡ true) → ¬ (saw1 ≡ true) → m ≤ n → s2 ≡ s1 ++ take m l1 → (saw2 ≡ false → m ≡ n)
    → Sends l0 (drop n l1) s0 s2 saw0 saw2
sends_more l0 l1 s0 s1 s2 m n saw0 true saw2 sends stays not_seen within sent all = absurd (not_seen refl)
sends_more l0 l1 s0 s1 s2 m n saw0 false saw2 sends stays not_seen within sent all =
    let xs : List ℕ = take n l1 in
    let published = sends.2 in
    let before : sends.0 ≡ published.0 = published.2 ∙ ap (λ ws. published.0 ++ ws) (published.4 refl) ∙ append-nil published.0 in (
      sends.0 ++ xs,
      sends.1 ∙ ap (λ ws. sends.0 ++ ws) (sym (take-append-drop n l1)) ∙ sym (append_assoc sends.0 xs (drop n l1)),
      (
        published.0 ++ take m xs,
        drop m xs,
        ap (λ ws. ws ++ xs) before ∙ ap (λ ws. published.0 ++ ws) (sym (take-append-drop m xs)) ∙ sym (append_assoc published.0 (take m xs) (drop m xs)),
        sent ∙ ap (λ ws. s1 ++ ws) (sym (take-take m n l1 within)) ∙ ap (λ ws. ws ++ take m xs) published.3 ∙ append_assoc s0 published.0 (take m xs),
        λ unseen. drop_all m xs (omega (arith, all unseen, length-take n l1)),
      ),
      λ seen. absurd (not_seen (stays seen)),
    )

-- more bytes are left after those that were sent
pub sends_front : (l0 l1 rest s0 s1 : List ℕ) (saw0 saw1 : Bool) → Sends l0 l1 s0 s1 saw0 saw1 → Sends (l0 ++ rest) (l1 ++ rest) s0 s1 saw0 saw1
sends_front l0 l1 rest s0 s1 saw0 saw1 sends =
    (sends.0, ap (λ ws. ws ++ rest) sends.1 ∙ append_assoc sends.0 l1 rest, sends.2, sends.3)

empty_front : (xs ys : List ℕ) → xs ++ ys ≡ [] → xs ≡ []
empty_front xs ys none = nil_from_length xs (omega (arith, ap length none, length-append xs ys))

-- one after the other
pub sends_then : (l0 l1 l2 s0 s1 s2 : List ℕ) (saw0 saw1 saw2 : Bool) → Sends l0 l1 s0 s1 saw0 saw1 → Sends l1 l2 s1 s2 saw1 saw2
    → (saw0 ≡ true → saw1 ≡ true) → (saw1 ≡ true → saw2 ≡ true) → Sends l0 l2 s0 s2 saw0 saw2
sends_then l0 l1 l2 s0 s1 s2 saw0 true saw2 first second stays0 stays1 =
    let none : second.0 ≡ [] = second.3 refl in
    let left : l1 ≡ l2 = second.1 ∙ ap (λ ws. ws ++ l2) none in
    let front : second.2.0 ≡ [] = empty_front second.2.0 second.2.1 (sym second.2.2 ∙ none) in
    let sent : s2 ≡ s1 = second.2.3 ∙ ap (λ ws. s1 ++ ws) front ∙ append-nil s1 in
    subst (λ ws. Sends l0 ws s0 s2 saw0 saw2) left (sends_same l0 l1 s0 s1 s2 saw0 true saw2 first stays1 sent)
sends_then l0 l1 l2 s0 s1 s2 saw0 false saw2 first second stays0 stays1 =
    let before : first.0 ≡ first.2.0 = first.2.2 ∙ ap (λ ws. first.2.0 ++ ws) (first.2.4 refl) ∙ append-nil first.2.0 in (
      first.0 ++ second.0,
      first.1 ∙ ap (λ ws. first.0 ++ ws) second.1 ∙ sym (append_assoc first.0 second.0 l2),
      (
        first.2.0 ++ second.2.0,
        second.2.1,
        ap (λ ws. ws ++ second.0) before ∙ ap (λ ws. first.2.0 ++ ws) second.2.2 ∙ sym (append_assoc first.2.0 second.2.0 second.2.1),
        second.2.3 ∙ ap (λ ws. ws ++ second.2.0) first.2.3 ∙ append_assoc s0 first.2.0 second.2.0,
        second.2.4,
      ),
      λ seen. let later = stays0 seen in cc,
    )

-- the front and then what follows it
pub sends_both : (front0 front1 back0 back1 s0 s1 s2 : List ℕ) (saw0 saw1 saw2 : Bool) → Sends front0 front1 s0 s1 saw0 saw1
    → front1 ≡ [] → Sends back0 back1 s1 s2 saw1 saw2 → (saw0 ≡ true → saw1 ≡ true) → (saw1 ≡ true → saw2 ≡ true)
    → Sends (front0 ++ back0) (front1 ++ back1) s0 s2 saw0 saw2
sends_both front0 front1 back0 back1 s0 s1 s2 saw0 saw1 saw2 first whole second stays0 stays1 =
    let later : Sends (front1 ++ back0) (front1 ++ back1) s1 s2 saw1 saw2 = subst (λ ws. Sends (ws ++ back0) (ws ++ back1) s1 s2 saw1 saw2) (sym whole) second in
    sends_then (front0 ++ back0) (front1 ++ back0) (front1 ++ back1) s0 s1 s2 saw0 saw1 saw2
    (sends_front front0 front1 back0 s0 s1 saw0 saw1 first) later stays0 stays1
