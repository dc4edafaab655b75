-- What a mark reports, and what a side has stored, can be had twice, and two marks give one that says
-- what either says. Assumes `Logic`.
use Rattle.piper_ring.proofs.Kit.{◌≡◌, ℕ, ◌<◌, ◌≤◌, ◌⊎◌, inl, inr, Bool, true, false, List, [], ◌∷◌, max, leb, arith, Ura, numbers, at_least, SProp, ent, sep, ex, guard, emp, emp∗, Fml, Logic, sem, ‵, ◌⊛◌, some, given, ◌$◌, ◌∵◌, !, qed, by, move, split, pick, learn, check, show, use1, use2, done, drop as forget, Names, took, raised, announced, evidence, Stored, fsplit, fjoin, Stream, Reaches, streams, reaches_same, leb_tells, Keyless}
use base.Growing.{Least}
use types.Growing.{at_least_dup, at_least_join}
use Rattle.piper_ring.proofs.Reaching.{in_line, prefix_length, flag_reaches, Joined}

module _ {M : Type 1} {𝓤 : Ura M} (𝓛 : Logic 𝓤) where
  pub raised_twice : (γ : ℕ) (b : Bool) → ent 𝓤 (sem 𝓛 (raised γ b)) (sep 𝓤 (sem 𝓛 (raised γ b)) (sem 𝓛 (raised γ b)))
  raised_twice γ false = emp∗ 𝓤 (emp 𝓤)
  raised_twice γ true = at_least_dup numbers 𝓛 γ 1

module _ {M : Type 1} {𝓤 : Ura M} (𝓛 : Logic 𝓤) (z : Names) where
  pub took_twice : (n : ℕ) → ent 𝓤 (sem 𝓛 (took z n)) (sep 𝓤 (sem 𝓛 (took z n)) (sem 𝓛 (took z n)))
  took_twice n = at_least_dup numbers 𝓛 z.head n

  abbrev pub Greater : ℕ → ℕ → ℕ → SProp 𝓤
  Greater m n l = guard 𝓤 (l ≡ max m n) (sem 𝓛 (took z l))

  one_or_other : (m n : ℕ) → ((leb m n ≡ true) × (m ≤ n)) ⊎ ((leb m n ≡ false) × (n < m)) → ent 𝓤 (sep 𝓤 (sem 𝓛 (took z m)) (sem 𝓛 (took z n))) (ex 𝓤 (Greater m n))
  one_or_other m n (inl e) = let le : m ≤ n = e.1 in qed 𝓛 (‵ (took z m) ∷ ‵ (took z n) ∷ []) ∵ forget ! $ show ! (Greater m n) n $ check ! (omega arith) $ done !
  one_or_other m n (inr e) = let lt : n < m = e.1 in qed 𝓛 (‵ (took z m) ∷ ‵ (took z n) ∷ []) ∵ move ! (1 ∷ []) $ forget ! $ show ! (Greater m n) m $ check ! (omega arith) $ done !

  pub greater : (m n : ℕ) → ent 𝓤 (sep 𝓤 (sem 𝓛 (took z m)) (sem 𝓛 (took z n))) (ex 𝓤 (Greater m n))
  greater m n = one_or_other m n (leb_tells m n)

  abbrev E : Stream → Fml
  E a = announced z a.0 a.1

  pub announced_twice : (xs : List ℕ) (b : Bool) → ent 𝓤 (sem 𝓛 (announced z xs b)) (sep 𝓤 (sem 𝓛 (announced z xs b)) (sem 𝓛 (announced z xs b)))
  announced_twice xs b = at_least_dup streams 𝓛 z.sent (xs, b)

  abbrev pub Both : Stream → Stream → Stream → SProp 𝓤
  Both a b r = guard 𝓤 (Joined a b r) (sem 𝓛 (E r))

  chosen : (a b : Stream) → Reaches a b ⊎ Reaches b a → ent 𝓤 (sep 𝓤 (sem 𝓛 (E a)) (sem 𝓛 (E b))) (ex 𝓤 (Both a b))
  chosen a b (inl h) = let longer = prefix_length a.0 b.0 h.0 in let higher = flag_reaches a b h in qed 𝓛 (‵ (E a) ∷ ‵ (E b) ∷ []) ∵ forget ! $ show ! (Both a b) b $ check ! (omega arith, omega arith, h, reaches_same b, λ all ha hb. hb) $ done !
  chosen a b (inr h) = let longer = prefix_length b.0 a.0 h.0 in let higher = flag_reaches b a h in qed 𝓛 (‵ (E a) ∷ ‵ (E b) ∷ []) ∵ move ! (1 ∷ []) $ forget ! $ show ! (Both a b) a $ check ! (omega arith, omega arith, reaches_same a, h, λ all ha hb. ha) $ done !

  pub both : (a b : Stream) → ent 𝓤 (sep 𝓤 (sem 𝓛 (E a)) (sem 𝓛 (E b))) (ex 𝓤 (Both a b))
  both a b = qed 𝓛 (‵ (E a) ∷ ‵ (E b) ∷ []) ∵ use1 𝓛 (‵ (E a) ⊛ ‵ (E a)) (announced_twice a.0 a.1) $ split ! $ move ! (2 ∷ []) $ use1 𝓛 (‵ (E b) ⊛ ‵ (E b)) (announced_twice b.0 b.1) $ split ! $ move ! (2 ∷ 0 ∷ []) $
      use2 𝓛 (some (λ (c : Stream). given (Least Reaches a b c) (‵ (at_least streams z.sent c)))) (at_least_join streams 𝓛 z.sent a b) $ pick ! (λ c. learn ! (λ least. forget ! $ move ! (1 ∷ 0 ∷ []) $
      by ! (chosen a b (in_line a.0 a.1 b.0 b.1 c least.0 least.1))))

  pub evidence_twice : (r : Bool) (x : Stored) → ent 𝓤 (sem 𝓛 (evidence z r x)) (sep 𝓤 (sem 𝓛 (evidence z r x)) (sem 𝓛 (evidence z r x)))
  evidence_twice true x = announced_twice x.bytes x.closed
  evidence_twice false x = let T : Fml = took z x.count in let S : Fml = raised z.closed x.closed in qed 𝓛 (‵ (evidence z false x) ∷ []) ∵ fsplit ! $ use1 𝓛 (‵ T ⊛ ‵ T) (took_twice x.count) $ split ! $ move ! (2 ∷ []) $
      use1 𝓛 (‵ S ⊛ ‵ S) (raised_twice 𝓛 z.closed x.closed) $ split ! $ move ! (2 ∷ 0 ∷ []) $ fjoin ! $ move ! (2 ∷ 1 ∷ []) $ fjoin ! $ done !

pub took-Keyless : (z : Names) (n : ℕ) → Keyless (took z n)
unfolding at_least
took-Keyless z n = tt

pub raised-Keyless : (γ : ℕ) (b : Bool) → Keyless (raised γ b)
unfolding at_least
raised-Keyless γ false = tt
raised-Keyless γ true = tt

pub announced-Keyless : (z : Names) (xs : List ℕ) (b : Bool) → Keyless (announced z xs b)
unfolding at_least
announced-Keyless z xs b = tt

pub evidence-Keyless : (z : Names) (r : Bool) (x : Stored) → Keyless (evidence z r x)
evidence-Keyless z true x = announced-Keyless z x.bytes x.closed
evidence-Keyless z false x = (took-Keyless z x.count, raised-Keyless z.closed x.closed)
