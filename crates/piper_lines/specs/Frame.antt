-- A frame: a piece of bytes with its length before it.
use Rattle.std.specs.Prelude.{◌≡◌, ℕ, ◌<◌, ◌⊎◌, List, [], ◌++◌, length}
use Rattle.piper_lines.specs.Header.{header_size, length_bytes, encoded_length}
use Rattle.piper_lines.specs.declared.header.FrameHeader.{FrameHeader}

-- the whole header of a frame, which reports n
abbrev pub EncodesLength : FrameHeader → List ℕ → ℕ → Type 0
EncodesLength format header n =
    (length header ≡ header_size format) × (encoded_length format header ≡ n)

-- nothing of a frame is kept, and none of a skipped one has still to pass
abbrev pub IsBetweenFrames : List ℕ → List ℕ → ℕ → Type 0
IsBetweenFrames header body skips = (header ≡ []) × (body ≡ []) × (skips ≡ 0)

-- some of the header of a frame is kept, or some of a skipped one has still to pass
abbrev pub IsInsideFrame : List ℕ → ℕ → Type 0
IsInsideFrame header skips = (0 < length header) ⊎ (0 < skips)

-- the bytes of the frame that has this body
abbrev pub frame_bytes : FrameHeader → List ℕ → List ℕ
frame_bytes format body = length_bytes format (length body) ++ body
