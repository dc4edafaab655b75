-- A word of the ring's memory, and what is there or not.
use Rattle.std.specs.Prelude.{ℕ, ◌+◌, Bool, true, false}
use mir.Syntax.{w64, ty_int}
use mir.Val.{vint}
use base.Fraction.{full_share}
use base.Fml.{Fml, ftrue, fsep, fat, froom, fobs}
use Rattle.std.specs.Coded.{Coded}
use denote.RawPtr.{Ptr, block_of, count_of}

-- the word that lies so far after w, in bytes, holds n
abbrev pub word : Ptr → ℕ → ℕ → Fml
word w far n = fat full_share (ty_int w64) (block_of w) (far + count_of w) (vint w64 n)

-- and what that stands for is x, under the name γ
abbrev pub mirrored : {X : Type 0} → Coded X → ℕ → Ptr → ℕ → ℕ → X → Fml
mirrored c γ w far n x = fsep (word w far n) (fobs γ (c.code x))

abbrev pub word_room : Ptr → ℕ → Fml
word_room w far = froom (ty_int w64) (block_of w) (far + count_of w)

abbrev pub flag : Bool → ℕ
flag false = 0
flag true = 1

abbrev pub where_gone : Bool → Fml → Fml
where_gone false F = ftrue
where_gone true F = F
