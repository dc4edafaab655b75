-- When a reader of lines or of frames wants memory.
use Rattle.std.specs.Prelude.{ℕ, ◌+◌, ◌<◌, ◌≤◌, ◌⊎◌, List, length}
use Rattle.piper.specs.Failed.{WasRefused}
use Rattle.piper.specs.declared.error.PipeError.{PipeError}
use Rattle.piper_lines.specs.Header.{header_size, encoded_length}
use Rattle.piper_lines.specs.declared.header.FrameHeader.{FrameHeader}

-- fewer than `size` bytes are gathered and more are known, and
-- the memory that there was at first has no room for all of them
abbrev pub LacksRoom : ℕ → ℕ → List ℕ → List ℕ → Type 0
LacksRoom size room gathered known =
    (length gathered < size) × (0 < length known)
    × (room < length gathered + length known)

-- the same of a frame of at most `limit` bytes: of its header, or of its body
abbrev pub LacksFrameRoom : FrameHeader → ℕ → ℕ → ℕ → List ℕ → List ℕ → List ℕ → Type 0
LacksFrameRoom format limit header_room body_room header body known =
    LacksRoom (header_size format) header_room header known
    ⊎ ((encoded_length format header ≤ limit)
    × LacksRoom (encoded_length format header) body_room body known)

-- an error is the reader's own, or memory was asked for and refused, for this reason
abbrev pub IsReported : PipeError → (PipeError → Type 0) → Type 0 → Type 0
IsReported e Own Lacks = Own e ⊎ (WasRefused e × Lacks)
