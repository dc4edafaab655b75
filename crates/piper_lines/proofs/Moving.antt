-- Bytes that move, step by step.
use Rattle.std.proofs.Common.{◌≡◌, ℕ, zero, suc, ◌<◌, ◌≤◌, List, [], ◌++◌, length, ap, ◌∙◌, sym, subst, append_assoc, append-nil, length-append, refl, arith}
use Rattle.std.proofs.lemmas.List.{nil_from_length}
use Rattle.piper_lines.specs.Moves.{Moves, PassesMoves}

-- nothing has moved yet
pub moves_none : (t kept out : List ℕ) → Moves t t (out ++ kept) out kept
moves_none t kept out = ([], sym (append-nil t), append-nil (out ++ kept))

-- one move after the other
pub moves_then : (t0 t1 t2 k0 k1 k2 out more : List ℕ) → Moves t0 t1 k0 out k1 → Moves t1 t2 k1 more k2 → Moves t0 t2 k0 (out ++ more) k2
moves_then t0 t1 t2 k0 k1 k2 out more first second = (
  first.0 ++ second.0,
  second.1 ∙ ap (λ ws. ws ++ second.0) first.1 ∙ append_assoc t0 first.0 second.0,
  sym (append_assoc k0 first.0 second.0) ∙ ap (λ ws. ws ++ second.0) first.2 ∙ append_assoc out k1 second.0 ∙ ap (λ ws. out ++ ws) second.2
      ∙ sym (append_assoc out more k2),
)

-- none passed and none moved
pub passes_none : (t kept out : List ℕ) (skips : ℕ) → PassesMoves t t skips skips (out ++ kept) out kept
passes_none t kept out skips = (t, ([], sym (append-nil t), omega arith), moves_none t kept out, λ some. refl)

-- none is given back
pub passes_longer : (t0 t1 k0 out k1 : List ℕ) (s0 s1 : ℕ) → PassesMoves t0 t1 s0 s1 k0 out k1 → length t0 ≤ length t1
passes_longer t0 t1 k0 out k1 s0 s1 passes =
    omega (arith, ap length passes.1.1, length-append t0 passes.1.0, ap length passes.2.1, length-append passes.0 passes.2.0)

-- all have passed, so that more move
passes_more : (t0 t1 t2 k0 k1 k2 out more : List ℕ) (s0 s2 : ℕ) → PassesMoves t0 t1 s0 0 k0 out k1 → PassesMoves t1 t2 0 s2 k1 more k2
    → PassesMoves t0 t2 s0 s2 k0 (out ++ more) k2
passes_more t0 t1 t2 k0 k1 k2 out more s0 s2 first second =
    let passes = second.1 in
    let none : passes.0 ≡ [] = nil_from_length passes.0 (omega (arith, passes.2)) in
    let same : second.0 ≡ t1 = passes.1 ∙ ap (λ ws. t1 ++ ws) none ∙ append-nil t1 in
    let moves : Moves t1 t2 k1 more k2 = subst (λ ws. Moves ws t2 k1 more k2) same second.2 in (
      first.0,
      (first.1.0, first.1.1, omega (arith, first.1.2, passes.2)),
      moves_then first.0 t1 t2 k0 k1 k2 out more first.2 moves,
      λ some. absurd (omega (arith, passes.2)),
    )

-- some have still to pass, so that none has moved
passes_on : (t0 t1 t2 k0 k1 k2 out more : List ℕ) (s0 s1 s2 : ℕ) → 0 < s1 → PassesMoves t0 t1 s0 s1 k0 out k1 → PassesMoves t1 t2 s1 s2 k1 more k2
    → PassesMoves t0 t2 s0 s2 k0 (out ++ more) k2
passes_on t0 t1 t2 k0 k1 k2 out more s0 s1 s2 some first second =
    let still : t1 ≡ first.0 = first.3 some in
    let none : first.2.0 ≡ [] = nil_from_length first.2.0 (omega (arith, ap length first.2.1, ap length still, length-append first.0 first.2.0)) in
    let kept : k0 ≡ out ++ k1 = sym (append-nil k0) ∙ ap (λ ws. k0 ++ ws) (sym none) ∙ first.2.2 in
    let passed : List ℕ = first.1.0 ++ second.1.0 in (
      second.0,
      (
        passed,
        second.1.1 ∙ ap (λ ws. ws ++ second.1.0) (still ∙ first.1.1) ∙ append_assoc t0 first.1.0 second.1.0,
        omega (arith, first.1.2, second.1.2, length-append first.1.0 second.1.0),
      ),
      moves_then second.0 second.0 t2 k0 k1 k2 out more ([], sym (append-nil second.0), append-nil k0 ∙ kept) second.2,
      second.3,
    )

-- one after the other
pub passes_then : (t0 t1 t2 k0 k1 k2 out more : List ℕ) (s0 s1 s2 : ℕ) → PassesMoves t0 t1 s0 s1 k0 out k1 → PassesMoves t1 t2 s1 s2 k1 more k2
    → PassesMoves t0 t2 s0 s2 k0 (out ++ more) k2
passes_then t0 t1 t2 k0 k1 k2 out more s0 zero s2 first second = passes_more t0 t1 t2 k0 k1 k2 out more s0 s2 first second
passes_then t0 t1 t2 k0 k1 k2 out more s0 (suc s1) s2 first second =
    passes_on t0 t1 t2 k0 k1 k2 out more s0 (suc s1) s2 (omega arith) first second
