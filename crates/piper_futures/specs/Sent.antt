-- What a sink was sent.
use Rattle.std.specs.Prelude.{◌≡◌, ◌⊎◌, ◌+◌, ◌<◌, ℕ, Bool, true, false, List, [], ◌∷◌, ◌++◌, drop, Result, Vec}
use Rattle.std.specs.List.{flat_map}
use Rattle.std.specs.declared.alloc.Global.{Global}
use Rattle.std.specs.declared.io.ErrorKind.TheVariants.{InvalidInput}
use Rattle.futures.specs.Poll.{OnPending}
use Rattle.futures.specs.declared.task.Poll.{Poll}
use Rattle.futures.specs.declared.task.context.Context.{Context}
use Rattle.piper.specs.Failed.{WasRefused}
use Rattle.piper.specs.Polls.{IfReadyErr}
use Rattle.piper.specs.declared.error.PipeError.{PipeError}
use Rattle.piper_lines.specs.Header.{header_size, CanEncode}
use Rattle.piper_lines.specs.declared.header.FrameHeader.{FrameHeader}
use Rattle.piper_lines.specs.Sends.{Sends}
use Rattle.piper_lines.specs.Stays.{WriterStays}
use Rattle.piper_futures.specs.Told.{IsOfKind, IsOfWriter}
use Rattle.piper_futures.specs.declared.framing.LineEnd.{LineEnd}
use Rattle.piper_futures.specs.declared.piece_sink.PieceSink.{PieceSink}

-- the writer below
abbrev pub writer_of : {W F : Type 0} → PieceSink W F → W
writer_of sink = sink.writer

-- what it writes for an item; of a sink of frames, how their length is reported
abbrev pub framing_of : {W F : Type 0} → PieceSink W F → F
framing_of sink = sink.framing

-- of a sink of lines, the byte that ends one
abbrev pub ending_of : {W : Type 0} → PieceSink W LineEnd → ℕ
ending_of sink = sink.framing.byte

-- what is left of the item that was sent last
abbrev pub left_of : {W F : Type 0} → PieceSink W F → List ℕ
left_of sink = drop sink.written sink.piece.items

-- a text with this byte after it
abbrev pub line_of : ℕ → Vec ℕ Global → List ℕ
line_of end text = text.items ++ end ∷ []

-- a body of `n` bytes is refused: the header can't report them, or memory is,
-- where the body's own has no room for the header, too
abbrev pub IsRefused : FrameHeader → ℕ → ℕ → PipeError → Type 0
IsRefused format n room e =
    (IsOfKind InvalidInput e × ¬ CanEncode format n)
    ⊎ (WasRefused e × (room < n + header_size format))

-- what is written for these items is all that the writer was ever sent, with what is left of the
-- last one; bytes are lost only of a pipe that was seen closed
abbrev pub WasSent : {W F : Type 0} → (F → Vec ℕ Global → List ℕ) → (W → List ℕ) → (W → Bool)
    → PieceSink W F → List (Vec ℕ Global) → Type 0
WasSent framed sent saw sink items =
    Sends (flat_map (framed (framing_of sink)) items) (left_of sink) [] (sent (writer_of sink))
    false (saw (writer_of sink))

-- nothing is left of the item, and the writer below is flushed
abbrev pub IsFlushed : {W F : Type 0} → (W → Type 0) → PieceSink W F → Type 0
IsFlushed flushed sink = (left_of sink ≡ []) × flushed (writer_of sink)

-- and its pipe is closed
abbrev pub IsClosed : {W F : Type 0} → (W → Type 0) → (W → Bool) → PieceSink W F → Type 0
IsClosed flushed saw sink = IsFlushed flushed sink × (saw (writer_of sink) ≡ true)

-- a poll fails as the writer below did, or since the pipe was seen closed while some of the item
-- was left; it is pending where the writer was; and what the writer saw, and whom it has woken,
-- stays so
abbrev pub TellsSent : {W F A : Type 0} → Poll (Result A PipeError)
    → (W → Context → PipeError → Type 0) → (W → Context → Type 0) → (W → Bool) → (W → Type 0)
    → PieceSink W F → PieceSink W F → Context → Type 0
TellsSent result fails waits saw woken a b cx =
    IfReadyErr result (IsOfWriter fails saw (writer_of b) (left_of b) cx)
    × WriterStays saw woken (writer_of a) (writer_of b)
    × OnPending result (waits (writer_of b) cx)
