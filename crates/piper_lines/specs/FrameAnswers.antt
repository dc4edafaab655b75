-- What one poll for a frame hands out and keeps.
use Rattle.std.specs.Prelude.{◌≡◌, ℕ, ◌<◌, ◌≤◌, ◌⊎◌, Bool, List, [], length, Result, Ok, Err, ⊤}
use Rattle.futures.specs.declared.task.Poll.{Poll}
use Rattle.futures.specs.declared.task.Poll.TheVariants.{Ready, Pending}
use Rattle.piper_lines.specs.AtEnd.{AtEnd}
use Rattle.piper_lines.specs.Frame.{frame_bytes, EncodesLength, IsBetweenFrames, IsInsideFrame}
use Rattle.piper_lines.specs.Header.{header_size, encoded_length}
use Rattle.piper_lines.specs.declared.frame_reader.FrameAnswer.{FrameAnswer}
use Rattle.piper_lines.specs.declared.header.FrameHeader.{FrameHeader}
use Rattle.piper_lines.specs.declared.frame_reader.FrameAnswer.TheVariants.{Frame, TooLong, Truncated, End}

-- the bytes of what is handed out: a frame's, with its length, or none
abbrev pub handed : {E : Type 0} → FrameHeader → Poll (Result FrameAnswer E) → List ℕ → List ℕ
handed format (Ready (Ok Frame)) frame = frame_bytes format frame
handed format (Ready (Ok (TooLong n))) frame = []
handed format (Ready (Ok Truncated)) frame = []
handed format (Ready (Ok End)) frame = []
handed format (Ready (Err e)) frame = []
handed format Pending frame = []

-- P holds where the answer reports that the reader ended
abbrev pub OnFramesEnd : {E : Type 0} → Poll (Result FrameAnswer E) → Type 0 → Type 0
OnFramesEnd (Ready (Ok Frame)) P = ⊤
OnFramesEnd (Ready (Ok (TooLong n))) P = ⊤
OnFramesEnd (Ready (Ok Truncated)) P = P
OnFramesEnd (Ready (Ok End)) P = P
OnFramesEnd (Ready (Err e)) P = ⊤
OnFramesEnd Pending P = ⊤

-- unless a skipped frame was still to pass, the frame that is kept lacks bytes of its length or of its
-- body
abbrev pub LacksBytes : FrameHeader → ℕ → List ℕ → List ℕ → Type 0
LacksBytes format skips header body =
    skips ≡ 0 → (length header < header_size format) ⊎ (length body < encoded_length format header)

-- by the answer: the frame that is handed out, and what is kept and has still to pass. What
-- was taken of the body before stays where the frame is too long, and is at most more elsewhere
abbrev pub HandsFrame : {E : Type 0} → FrameHeader → Poll (Result FrameAnswer E)
    → ℕ → List ℕ → List ℕ → List ℕ → List ℕ → ℕ → List ℕ → Bool → Type 0
HandsFrame format (Ready (Ok Frame)) limit frame header before body skips known saw =
    (length frame ≤ limit) × IsBetweenFrames header body skips
HandsFrame format (Ready (Ok (TooLong n))) limit frame header before body skips known saw =
    (frame ≡ []) × (limit < n) × EncodesLength format header n × (body ≡ before) × (skips ≡ 0)
HandsFrame format (Ready (Ok Truncated)) limit frame header before body skips known saw =
    (frame ≡ []) × IsInsideFrame header skips × AtEnd known saw
HandsFrame format (Ready (Ok End)) limit frame header before body skips known saw =
    (frame ≡ []) × IsBetweenFrames header body skips × AtEnd known saw
HandsFrame format (Ready (Err e)) limit frame header before body skips known saw = frame ≡ []
HandsFrame format Pending limit frame header before body skips known saw = frame ≡ []
