-- What a lent space, its lender, its leases and a value in it own. The space is borrowed for a
-- lifetime of its own, of whose token each lease has half.
use Rattle.std.specs.Prelude.{◌≡◌, ℕ, ◌*◌, Bool, true, false, [], ◌∷◌}
use base.Fraction.{full_share}
use base.Share.{left, right}
use base.Fml.{Lft, Share, Fml, ftrue, fsep, fex, froom, flft, fbor, flent}
use prog.Memory.{size, align}
use denote.Builtin.{u64}
use denote.RattleType.{RattleType}
use denote.Memory.{lone}
use denote.RawPtr.{Ptr, InBlock, block_of, count_of}
use denote.Sharing.{one}
use denote.Struct.Lending.{lent_at}
use Rattle.core.specs.Allocator.{array_of}

abbrev pub in_memory : Ptr → Fml
in_memory p = fex (InBlock p) (λ _. ftrue)

-- room for so many words at p, whatever lies there
abbrev pub room : ℕ → Ptr → Fml
room words p = froom (array_of u64 words) (block_of p) (count_of p)

abbrev pub space : ℕ → Ptr → Fml
space words p = fsep (in_memory p) (room words p)

abbrev pub lent : ℕ → ℕ → Ptr → Fml
lent life words p = fsep (in_memory p) (fbor (life ∷ []) (room words p))

abbrev pub lender : ℕ → ℕ → Ptr → Fml
lender life words p = fsep (in_memory p) (flent (life ∷ []) (room words p))

abbrev pub half : Bool → Share
half true = left full_share
half false = right full_share

abbrev pub lease : ℕ → Bool → Fml
lease life first = flft (life ∷ []) (half first)

-- what a `&` to a lease has of it
abbrev pub leased : ℕ → Lft → Fml
leased life = one (λ q. flft (life ∷ []) q)

-- a `&` to the value at p, for the lifetime
abbrev pub placed : (R : RattleType) → Ptr → R.Denot → ℕ → Fml
placed R p x life = lent_at R p x (life ∷ [])

-- a value takes just so many words
abbrev pub Fits : ℕ → RattleType → Type 0
Fits words R = (size (lone R.mir) ≡ words * 8) × (align (lone R.mir) ≡ 8)
