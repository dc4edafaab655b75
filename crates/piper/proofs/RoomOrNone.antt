-- What is free where two handles meet is what the writer has as its room.
use Rattle.std.proofs.Common.{◌≡◌, ℕ, zero, suc, ◌+◌, ◌<◌, ◌⊎◌, Bool, true, false, List, [], ◌∷◌, length, inl, inr, refl, ap, arith}
use native.Mathlib.Decide.{dec_lt}
use Rattle.piper_ring.specs.Slot.{Stored, as_stored}

-- a writer that has room there had given less than the reader consumed and the capacity
pub room_or_none : (room sent count known capacity : ℕ) (P : Type 0) → room + known ≡ capacity → sent ≡ count + known
    → (sent < count + capacity → P) → P ⊎ (room ≡ 0)
room_or_none zero sent count known capacity P full all news = inr refl
room_or_none (suc room) sent count known capacity P full all news = inl (news (omega arith))

-- of two that hold, the second with what else holds
pub and_open : (P Q R : Type 0) → P ⊎ Q → R → P ⊎ (Q × R)
and_open P Q R (inl p) r = inl p
and_open P Q R (inr q) r = inr (q, r)

-- one of two counts is less: the first than the second, or the second than the first and the capacity
pub either_less : (taken sent capacity : ℕ) {P Q : Type 0} → 0 < capacity
    → (taken < sent → P) → (sent < taken + capacity → Q) → P ⊎ Q
either_less taken sent capacity some first second =
    elim (dec_lt taken sent) [ yes less ↦ inl (first less) | no more ↦ inr (second (omega (arith, more, some))) ]

-- a reader that knows of bytes there, or whose writer closed the pipe, was told so
pub none_or_told : {P : Type 0} (known : List ℕ) (taken sent : ℕ) (shut closed : Bool) → closed ≡ shut
    → taken + length known ≡ sent → ((taken < sent) ⊎ (closed ≡ true) → P)
    → P ⊎ ((known ≡ []) × (shut ≡ false))
none_or_told known taken sent true closed same all news = inl (news (inr same))
none_or_told [] taken sent false closed same all news = inr (refl, refl)
none_or_told (byte ∷ known) taken sent false closed same all news = inl (news (inl (omega (arith, all))))

-- what the writer had stored at its last check is what it has stored
pub news_by : (bytes : List ℕ) (s : Stored) {sent : List ℕ} {shut : Bool} → s ≡ as_stored sent 0 shut
    → (length bytes < length sent) ⊎ (s.closed ≡ true)
    → (length bytes < length s.bytes) ⊎ (s.closed ≡ true)
news_by bytes s rests (inl less) = inl (omega (arith, less, ap (λ (t : Stored). length t.bytes) rests))
news_by bytes s rests (inr closed) = inr closed
