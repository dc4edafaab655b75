-- What `piper_protocol` says of indices, said of counts of bytes.
use Rattle.piper_ring.proofs.Kit.{◌≡◌, ℕ, ◌+◌, ◌-◌, ◌*◌, ◌%◌, ◌<◌, ◌≤◌, ap, ◌∙◌, arith, position_of, slot_of as offset_of, distance}
use native.Mathlib.Nat.{mod-add-mod, mod-mod_of_dvd, dvd-mul_left}
use Rattle.rtrb.proofs.Positions.{position_apart}

-- the remainder of an index is the offset of its count
pub offset_at : (c i n r : ℕ) → i ≡ position_of c n → r ≡ i % c → r ≡ offset_of c n
unfolding position_of offset_of
offset_at c i n r at is = is ∙ ap (λ (x : ℕ). x % c) at ∙ mod-mod_of_dvd c n (dvd-mul_left c 2)

-- the distance of two indices is that of their counts
pub apart : (c a b m n : ℕ) → m ≤ n → n ≤ m + c → a ≡ position_of c m → b ≡ position_of c n → distance c a b ≡ n - m
apart c a b m n le near ea eb = let far : (a ≤ b → b - a ≡ n - m) × (b < a → 2 * c - a + b ≡ n - m) = position_apart c a b m n le near ea eb in grind (arith, far)

-- the index k further on is that of k bytes more
pub further : (c i n k r : ℕ) → r ≡ (i + k) % (2 * c) → i ≡ position_of c n → r ≡ position_of c (n + k)
unfolding position_of
further c i n k r is at = is ∙ ap (λ (x : ℕ). (x + k) % (2 * c)) at ∙ mod-add-mod n (2 * c) k
