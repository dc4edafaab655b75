-- Which errors streams and sinks tell, and why.
use Rattle.std.specs.Prelude.{◌≡◌, ◌<◌, ◌⊎◌, ◌++◌, ℕ, Bool, true, List, length}
use Rattle.std.specs.IoError.{error_kind}
use Rattle.std.specs.declared.io.ErrorKind.{ErrorKind}
use Rattle.std.specs.declared.io.ErrorKind.TheVariants.{BrokenPipe, InvalidData, UnexpectedEof}
use Rattle.futures.specs.declared.task.context.Context.{Context}
use Rattle.piper.specs.Failed.{WasRefused}
use Rattle.piper.specs.declared.error.PipeError.{PipeError}
use Rattle.piper.specs.declared.error.PipeError.TheVariants.{Memory, Io}
use Rattle.piper_lines.specs.AtEnd.{AtEnd}
use Rattle.piper_lines.specs.Frame.{EncodesLength}
use Rattle.piper_lines.specs.declared.header.FrameHeader.{FrameHeader}

-- the error is one of std, of this kind
abbrev pub IsOfKind : ErrorKind → PipeError → Type 0
IsOfKind kind Memory = ⊥
IsOfKind kind (Io e) = error_kind e ≡ kind

-- the error was the reader's own in some poll, or memory was refused
abbrev pub IsOfReader : {R : Type 0} → (R → Context → PipeError → Type 0) → PipeError → Type 0
IsOfReader {R} fails e = ((r : R) × (cx : Context) × fails r cx e) ⊎ WasRefused e

-- the kept header of a frame reports more bytes than the limit, and the error says so; or
-- the reader ended inside a frame, and the error says that
abbrev pub IsOfFrame : FrameHeader → ℕ → List ℕ → List ℕ → Bool → PipeError → Type 0
IsOfFrame format limit header known saw e =
    (IsOfKind InvalidData e × ((n : ℕ) × (limit < n) × EncodesLength format header n))
    ⊎ (IsOfKind UnexpectedEof e × (0 < length header) × AtEnd known saw)

-- the same of a frame of which these bytes are kept
abbrev pub IsOfKept : FrameHeader → ℕ → List ℕ → List ℕ → Bool → PipeError → Type 0
IsOfKept format limit kept known saw e =
    (header : List ℕ) × (body : List ℕ) × (kept ≡ header ++ body)
    × IsOfFrame format limit header known saw e

-- a sink tells its writer's own error, or that its writer saw the pipe closed while some was left
abbrev pub IsOfWriter : {W : Type 0} → (W → Context → PipeError → Type 0) → (W → Bool) → W
    → List ℕ → Context → PipeError → Type 0
IsOfWriter fails saw w left cx e =
    fails w cx e ⊎ (IsOfKind BrokenPipe e × (saw w ≡ true) × (0 < length left))
