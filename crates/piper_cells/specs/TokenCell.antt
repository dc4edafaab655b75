-- What a place, a `&` to it, and the right to it own. The place's content and the right have a
-- part each of one number, which is odd while the place is filled. While the place is shared, its
-- content lies under an invariant, or most of the right does, left there by whoever uses it.
use Rattle.std.specs.Prelude.{◌≡◌, ℕ, zero, suc, ◌+◌, Bool, true, false}
use base.Fraction.{full_share, half, lo, hi, below}
use base.Growing.{numbers, latest}
use base.Share.{quarter, three_quarters}
use base.Fml.{Lft, GName, Share, Fml, ftrue, ffalse, fsep, fex, fbor}
use prog.Memory.{up, align}
use types.Na.{out}
use denote.RattleType.{RattleType}
use denote.Memory.{part_at, lone}
use denote.RawPtr.{Ptr, block_ptr, null_ptr}
use denote.Sharing.{said, beside, some, ends, always}

abbrev pub fact : Type 0 → Fml
fact φ = fex φ (λ _. ftrue)

abbrev pub flips : Bool → Bool
flips true = false
flips false = true

abbrev pub odd : ℕ → Bool
odd zero = false
odd (suc n) = flips (odd n)

-- the right is three quarters of the number. Whoever uses the place keeps one of its eighths
-- and leaves the rest for the content.
abbrev pub eighth : Share
eighth = below (lo (lo half))

abbrev pub pledged : Share
pledged = below (hi (lo half))

-- the number's part, where the place is filled or is not
abbrev pub counted : Share → ℕ → Bool → ℕ → Fml
counted q name filled n = fsep (fact (odd n ≡ filled)) (latest numbers q name n)

abbrev pub right : Bool → ℕ → Bool → Fml
right false name filled = ftrue
right true name filled = fex ℕ (counted three_quarters name filled)

-- where the content begins
abbrev pub offset : RattleType → ℕ
offset R = up (align (lone R.mir)) 0

module _ (R : RattleType) (full : R.Denot → Bool) (name : ℕ) where
  -- some content, with the number that reports of it
  abbrev pub known : ℕ × R.Denot → Fml
  known s = counted quarter name (full s.1) s.0

  abbrev pub place_owns : (R.Denot → Fml) → Fml
  place_owns fields = fex (ℕ × R.Denot) (λ s. fsep (fields s.1) (known s))

  module _ (b o : ℕ) where
    abbrev pub content : Fml
    content = fex (ℕ × R.Denot) (λ s. fsep (part_at R full_share s.1 b (o + offset R)) (known s))

    -- the lifetime for which the place was lent, and the name under which the content is out
    abbrev pub Loan : Type 0
    Loan = Lft × GName

    -- the content, or what was pledged for it
    abbrev pub lies : Loan → Bool → Fml
    lies t true = fsep (fbor t.0 content) (out t.1)
    lies t false = fex ℕ (latest numbers pledged name)

    abbrev pub Kept : Loan → Fml
    Kept t = fex Bool (lies t)

    abbrev pub kept : Loan → Lft → Fml
    kept t = beside (ends t.0) (always (Kept t))

abbrev pub place_shares : (R : RattleType) → (R.Denot → Bool) → ℕ → Ptr → Lft → Fml
place_shares R full name (block_ptr b o) = some (Lft × GName) (kept R full name b o)
place_shares R full name null_ptr = said ffalse
