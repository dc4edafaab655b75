-- Frames and lines, evaluated.
use Rattle.std.proofs.Common.{◌≡◌, inl, [], ◌∷◌, refl}
use Rattle.piper_lines.specs.Frame.{frame_bytes}
use Rattle.piper_lines.specs.Header.{length_bytes, encoded_length, usual_header}
use Rattle.piper_lines.specs.Text.{IsTextOf}
use Rattle.piper_lines.specs.declared.header.ByteOrder.TheVariants.{BigEndian, LittleEndian}
use Rattle.piper_lines.specs.declared.header.FrameHeader.TheVariants.{OneByte, TwoBytes, FourBytes, EightBytes}

-- the most significant byte comes first
length_of_258 : length_bytes usual_header 258 ≡ 0 ∷ 0 ∷ 1 ∷ 2 ∷ []
length_of_258 = refl

told_258 : encoded_length usual_header (0 ∷ 0 ∷ 1 ∷ 2 ∷ []) ≡ 258
told_258 = refl

-- or the least
length_least_first : length_bytes (FourBytes LittleEndian) 258 ≡ 2 ∷ 1 ∷ 0 ∷ 0 ∷ []
length_least_first = refl

told_least_first : encoded_length (FourBytes LittleEndian) (2 ∷ 1 ∷ 0 ∷ 0 ∷ []) ≡ 258
told_least_first = refl

-- one byte, two or eight
length_of_one : length_bytes OneByte 200 ≡ 200 ∷ []
length_of_one = refl

told_by_one : encoded_length OneByte (200 ∷ []) ≡ 200
told_by_one = refl

length_of_two : length_bytes (TwoBytes LittleEndian) 258 ≡ 2 ∷ 1 ∷ []
length_of_two = refl

told_by_two : encoded_length (TwoBytes BigEndian) (1 ∷ 2 ∷ []) ≡ 258
told_by_two = refl

length_of_eight : length_bytes (EightBytes BigEndian) 258 ≡ 0 ∷ 0 ∷ 0 ∷ 0 ∷ 0 ∷ 0 ∷ 1 ∷ 2 ∷ []
length_of_eight = refl

told_by_eight : encoded_length (EightBytes LittleEndian) (0 ∷ 0 ∷ 0 ∷ 0 ∷ 1 ∷ 0 ∷ 0 ∷ 0 ∷ []) ≡ 4294967296
told_by_eight = refl

-- the greatest length of four bytes
greatest : length_bytes usual_header 4294967295 ≡ 255 ∷ 255 ∷ 255 ∷ 255 ∷ []
greatest = refl

frame_of_two : frame_bytes usual_header (7 ∷ 8 ∷ []) ≡ 0 ∷ 0 ∷ 0 ∷ 2 ∷ 7 ∷ 8 ∷ []
frame_of_two = refl

-- a frame of no bytes is its header alone
frame_of_none : frame_bytes (TwoBytes BigEndian) [] ≡ 0 ∷ 0 ∷ []
frame_of_none = refl

-- of CR LF both are taken off
text_of_cr_lf : IsTextOf (97 ∷ 13 ∷ 10 ∷ []) (97 ∷ [])
text_of_cr_lf = inl refl

-- and of LF CR LF only the last two
text_of_lf_cr_lf : IsTextOf (10 ∷ 13 ∷ 10 ∷ []) (10 ∷ [])
text_of_lf_cr_lf = inl refl
