-- What a poll for all lines, or for all frames, returns.
use Rattle.std.specs.Prelude.{◌≡◌, ℕ, ◌<◌, ◌⊎◌, Bool, List, [], Result, Ok, Err, Vec, ⊤}
use Rattle.std.specs.declared.alloc.Global.{Global}
use Rattle.futures.specs.declared.task.Poll.{Poll}
use Rattle.futures.specs.declared.task.Poll.TheVariants.{Ready, Pending}
use Rattle.piper_lines.specs.AtEnd.{AtEnd}
use Rattle.piper_lines.specs.Frame.{EncodesLength, IsBetweenFrames, IsInsideFrame}
use Rattle.piper_lines.specs.declared.collect.Collected.{Collected}
use Rattle.piper_lines.specs.declared.header.FrameHeader.{FrameHeader}
use Rattle.piper_lines.specs.declared.collect.Collected.TheVariants.{ToTheEnd, Truncated, UntilTooLong}

-- the bytes after the last line, once the reader ended
abbrev pub rest_of : {E : Type 0} → Poll (Result (Vec ℕ Global) E) → List ℕ
rest_of (Ready (Ok rest)) = rest.items
rest_of (Ready (Err e)) = []
rest_of Pending = []

-- by the answer: what is kept of a frame, and has still to pass of a skipped one.
-- Where a frame is too long, what was taken of its body before is all that is kept of it
abbrev pub EndsFrames : {E : Type 0} → FrameHeader → Poll (Result Collected E)
    → ℕ → List ℕ → List ℕ → List ℕ → ℕ → List ℕ → Bool → Type 0
EndsFrames format (Ready (Ok ToTheEnd)) limit header before body skips known saw =
    IsBetweenFrames header body skips × AtEnd known saw
EndsFrames format (Ready (Ok Truncated)) limit header before body skips known saw =
    IsInsideFrame header skips × AtEnd known saw
EndsFrames format (Ready (Ok (UntilTooLong n))) limit header before body skips known saw =
    (limit < n) × EncodesLength format header n × ((body ≡ before) ⊎ (body ≡ [])) × (skips ≡ 0)
EndsFrames format (Ready (Err e)) limit header before body skips known saw = ⊤
EndsFrames format Pending limit header before body skips known saw = ⊤
