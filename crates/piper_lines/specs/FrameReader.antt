-- What a reader of frames has.
use Rattle.std.specs.Prelude.{ℕ, List, ◌++◌, vec_capacity}
use Rattle.std.specs.Borrow.{Fml, RattleType, MutBor, Lends}
use Rattle.piper_lines.specs.Frame.{IsBetweenFrames}
use Rattle.piper_lines.specs.declared.frame_reader.Frames.{Frames}
use Rattle.piper_lines.specs.declared.header.FrameHeader.{FrameHeader}
use Rattle.piper_lines.specs.contracts.frame_reader.Frames.{the_row}

-- the reader below
abbrev pub reader_of : {R : Type 0} → Frames R → R
reader_of frames = frames.reader

-- how the length of a frame is reported
abbrev pub format_of : {R : Type 0} → Frames R → FrameHeader
format_of frames = frames.format

-- what was taken of the header of a frame
abbrev pub header_of : {R : Type 0} → Frames R → List ℕ
header_of frames = frames.header.items

-- what was taken of the frame after its header
abbrev pub body_of : {R : Type 0} → Frames R → List ℕ
body_of frames = frames.body.items

-- what was taken of a frame that has not come to its end
abbrev pub kept_of : {R : Type 0} → Frames R → List ℕ
kept_of frames = header_of frames ++ body_of frames

-- how many bytes the memory holds that is there for a header, and for a body
abbrev pub header_room_of : {R : Type 0} → Frames R → ℕ
header_room_of frames = vec_capacity frames.header

abbrev pub body_room_of : {R : Type 0} → Frames R → ℕ
body_room_of frames = vec_capacity frames.body

-- how many bytes of a skipped frame have still to pass
abbrev pub skips_of : {R : Type 0} → Frames R → ℕ
skips_of frames = frames.to_skip

-- nothing more comes: the reader below has reported its end, and no byte of a frame is kept or has
-- to pass
abbrev pub FramesAreSpent : {R : Type 0} → (R → Type 0) → Frames R → Type 0
FramesAreSpent ended frames =
    ended (reader_of frames)
    × IsBetweenFrames (header_of frames) (body_of frames) (skips_of frames)

-- the frames, once a `&mut` to the reader has ended: they have the reader as it was left
abbrev pub lends_reader : (R : RattleType) → MutBor (Frames R.Denot) → MutBor R.Denot → Fml
lends_reader R frames reader =
    Lends (the_row R) R frames reader (λ (w : R.Denot). record frames.now { reader = w })
