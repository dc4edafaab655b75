-- The ring's block is cut into the words and the bytes, and made one again. Assumes `Logic`.
use Rattle.piper_ring.proofs.Kit.{◌≡◌, ℕ, zero, suc, ◌+◌, ◌-◌, ◌*◌, ◌<◌, ◌^◌, [], ◌∷◌, sym, refl, ◌∙◌, subst, arith, Ura, Fml, fsep, fwand, froom, Logic, ‵, ◌⊛◌, ◌$◌, ◌∵◌, !, qed, by, move, split, fsplit, fjoin, frame, assume, rewrite, use1, use2, Ptr, Ty, ty_int, w8, w64, block_of, count_of, apply∗, array_of, u8, words_type, RingIsPlaced, Names, ty_array, InBlock, past as beyond, room_cut, room_glue, purpose, size_of_block, signs}
use Rattle.std.proofs.Common.{◌/◌}
use prog.Align.{dv_one}
use prog.Memory.{align}
use Rattle.piper_ring.specs.Places as P

-- the bytes of a ring that lies in its block lie there, too
pub placed_bytes : (w p : Ptr) (z : Names) → RingIsPlaced w p z → P.Placed p z.capacity
placed_bytes w p z at = let small : size_of_block z.capacity < 2 ^ 63 = at.2 in (subst InBlock (sym at.1) tt, omega arith)

-- m words take 8 bytes each
pub beyond_words : (m at : ℕ) → beyond (ty_int w64) m at ≡ m * 8 + at
beyond_words zero at = omega arith
beyond_words (suc m) at = beyond_words m (at + 8) ∙ omega arith

module _ {M : Type 1} {𝓤 : Ura M} (𝓛 : Logic 𝓤) (w : Ptr) (cap : ℕ) where
  open 𝓛 use {H}
  open signs 𝓛 use {◌⊢◌, ◌∗◌, ⟦◌⟧}

  infix 26 ◌⊢◌
  infixr 35 ◌∗◌
  abbrev u : Ty
  u = ty_int w64

  abbrev v : Ty
  v = ty_int w8

  abbrev b : ℕ
  b = block_of w

  abbrev o : ℕ
  o = count_of w

  -- how many words the bytes take, and how many bytes of these nobody uses
  abbrev e : ℕ
  e = (cap + 7) / 8

  abbrev pad : ℕ
  pad = e * 8 - cap

  abbrev words : ℕ → ℕ → Fml
  words n at = froom (ty_array u n) b at

  abbrev bytes : ℕ → ℕ → Fml
  bytes n at = froom (ty_array v n) b at

  abbrev pub WordsRoom : Fml
  WordsRoom = froom words_type b o

  abbrev pub BytesRoom : Fml
  BytesRoom = froom (array_of u8 cap) b (224 + o)

  abbrev pub BlockRoom : Fml
  BlockRoom = froom (purpose (size_of_block cap)) b o

  many : size_of_block cap / 8 ≡ 28 + e
  many = omega arith

  -- the words that follow are the bytes and the padding behind them
  as_bytes : ⟦ words e (224 + o) ⟧ ⊢ ⟦ BytesRoom ⟧ ∗ ⟦ fwand BytesRoom (words e (224 + o)) ⟧
  as_bytes = let at : ℕ = 224 + o in let all : e * 8 ≡ cap + pad = omega arith in
      qed 𝓛 (‵ (words e at) ∷ []) ∵ use1 𝓛 (‵ (bytes (e * 8) at) ⊛ ‵ (fwand (bytes (e * 8) at) (words e at))) (𝓛.laws.room_as (ty_array u e) (ty_array v (e * 8)) b at (omega arith) (dv_one (align (ty_array u e)))) $ split ! $
      rewrite ! 0 (λ (n : ℕ). ‵ (bytes n at)) all refl $ use1 𝓛 (‵ (bytes cap at) ⊛ ‵ (bytes pad (beyond v cap at))) (room_cut 𝓛 v cap pad b at) $ split ! $
      use1 𝓛 (‵ BytesRoom) (𝓛.laws.room-raw (ty_array v cap) b at) $ frame ! $
      assume ! (‵ BytesRoom) $ use1 𝓛 (‵ (bytes cap at)) (𝓛.laws.raw-room (ty_array v cap) b at) $ use2 𝓛 (‵ (bytes (cap + pad) at)) (room_glue 𝓛 v cap pad b at) $
      rewrite ! 0 (λ (n : ℕ). ‵ (bytes n at)) (sym all) refl $ by ! (apply∗ 𝓤 ⟦ bytes (e * 8) at ⟧ ⟦ words e at ⟧)

  -- the block is the words, the bytes, and what makes a block of them again
  pub block_cut : ⟦ BlockRoom ⟧ ⊢ ⟦ WordsRoom ⟧ ∗ ⟦ BytesRoom ⟧ ∗ ⟦ fwand (fsep WordsRoom BytesRoom) BlockRoom ⟧
  block_cut = let far : beyond u 28 o ≡ 224 + o = beyond_words 28 o in
      qed 𝓛 (‵ BlockRoom ∷ []) ∵ use1 𝓛 (‵ (words (size_of_block cap / 8) o)) (𝓛.laws.raw-room (ty_array u (size_of_block cap / 8)) b o) $
      rewrite ! 0 (λ (n : ℕ). ‵ (words n o)) many refl $ use1 𝓛 (‵ (words 28 o) ⊛ ‵ (words e (beyond u 28 o))) (room_cut 𝓛 u 28 e b o) $ split ! $
      use1 𝓛 (‵ WordsRoom) (𝓛.laws.room-raw (ty_array u 28) b o) $ frame ! $ rewrite ! 0 (λ (at : ℕ). ‵ (words e at)) far refl $
      use1 𝓛 (‵ BytesRoom ⊛ ‵ (fwand BytesRoom (words e (224 + o)))) as_bytes $ split ! $ frame ! $
      assume ! (‵ (fsep WordsRoom BytesRoom)) $ fsplit ! $ move ! (1 ∷ 2 ∷ []) $ use2 𝓛 (‵ (words e (224 + o))) (apply∗ 𝓤 ⟦ BytesRoom ⟧ ⟦ words e (224 + o) ⟧) $
      rewrite ! 0 (λ (at : ℕ). ‵ (words e at)) (sym far) refl $ move ! (1 ∷ []) $ use1 𝓛 (‵ (words 28 o)) (𝓛.laws.raw-room (ty_array u 28) b o) $
      use2 𝓛 (‵ (words (28 + e) o)) (room_glue 𝓛 u 28 e b o) $ rewrite ! 0 (λ (n : ℕ). ‵ (words n o)) (sym many) refl $ by ! (𝓛.laws.room-raw (ty_array u (size_of_block cap / 8)) b o)

  -- what makes the words' room again, with the bytes makes the block again
  pub remakes : (Used : Fml) → ⟦ fwand Used WordsRoom ⟧ ∗ ⟦ fwand (fsep WordsRoom BytesRoom) BlockRoom ⟧ ⊢ ⟦ fwand (fsep Used BytesRoom) BlockRoom ⟧
  remakes Used = qed 𝓛 (‵ (fwand Used WordsRoom) ∷ ‵ (fwand (fsep WordsRoom BytesRoom) BlockRoom) ∷ []) ∵ assume ! (‵ (fsep Used BytesRoom)) $ fsplit ! $
      move ! (0 ∷ 2 ∷ []) $ use2 𝓛 (‵ WordsRoom) (apply∗ 𝓤 ⟦ Used ⟧ ⟦ WordsRoom ⟧) $ fjoin ! $ by ! (apply∗ 𝓤 ⟦ fsep WordsRoom BytesRoom ⟧ ⟦ BlockRoom ⟧)
