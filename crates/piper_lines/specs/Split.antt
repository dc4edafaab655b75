-- What a text is split into.
use Rattle.std.specs.Prelude.{◌≡◌, ℕ, ◌≤◌, ◌⊎◌, List, ◌++◌, length, All, Vec}
use Rattle.std.specs.List.{flat_map}
use Rattle.std.specs.declared.alloc.Global.{Global}
use Rattle.piper_lines.specs.Frame.{frame_bytes}
use Rattle.piper_lines.specs.Line.{Lacks, IsLine}
use Rattle.piper_lines.specs.declared.header.FrameHeader.{FrameHeader}

-- a whole line of at most `limit` bytes, or `limit` bytes of a longer one
abbrev pub IsPiece : ℕ → ℕ → List ℕ → Type 0
IsPiece end limit piece =
    (IsLine end piece × (length piece ≤ limit)) ⊎ (Lacks end piece × (length piece ≡ limit))

-- the text that these pieces make
abbrev pub joined : List (Vec ℕ Global) → List ℕ
joined pieces = flat_map (λ (piece : Vec ℕ Global). piece.items) pieces

-- the bytes of the frames that have these bodies
abbrev pub joined_frames : FrameHeader → List (Vec ℕ Global) → List ℕ
joined_frames format bodies =
    flat_map (λ (body : Vec ℕ Global). frame_bytes format body.items) bodies

-- nothing was added but what fits
abbrev pub Adds : (List ℕ → Type 0) → List (Vec ℕ Global) → List (Vec ℕ Global) → Type 0
Adds Fits before after =
    (added : List (Vec ℕ Global)) × (after ≡ before ++ added)
    × All (λ (piece : Vec ℕ Global). Fits piece.items) added
