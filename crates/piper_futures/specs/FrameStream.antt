-- What a stream of frames has.
use Rattle.std.specs.Prelude.{◌≡◌, ℕ, ◌<◌, ◌≤◌, ◌⊎◌, Bool, true, false, List, length, Option, Some, None, Ok, Err}
use Rattle.futures.specs.Runs.{EndsIf}
use Rattle.futures.specs.declared.task.Poll.{Poll}
use Rattle.futures.specs.declared.task.Poll.TheVariants.{Ready, Pending}
use Rattle.futures.specs.declared.task.context.Context.{Context}
use Rattle.piper.specs.declared.error.PipeError.{PipeError}
use Rattle.piper_lines.specs.FrameReader.{reader_of, format_of, kept_of, header_of, body_of, header_room_of, body_room_of}
use Rattle.piper_lines.specs.Refusals.{IsReported, LacksFrameRoom}
use Rattle.piper_lines.specs.Stays.{Pends}
use Rattle.piper_lines.specs.Frame.{frame_bytes}
use Rattle.piper_futures.specs.PieceRuns.{Item, PieceRuns}
use Rattle.piper_futures.specs.Told.{IsOfFrame, IsOfKept, IsOfReader}
use Rattle.piper_lines.specs.declared.header.FrameHeader.{FrameHeader}
use Rattle.piper_lines.specs.declared.frame_reader.Frames.{Frames}
use Rattle.piper_futures.specs.declared.frame_stream.FrameStream.{FrameStream}

-- the frames below
abbrev pub frames_of : {R : Type 0} → FrameStream R → Frames R
frames_of stream = stream.frames

-- the most bytes of a frame
abbrev pub frame_limit_of : {R : Type 0} → FrameStream R → ℕ
frame_limit_of stream = stream.limit

-- the stream has ended
abbrev pub is_over : {R : Type 0} → FrameStream R → Bool
is_over stream = stream.is_ended

-- an item after which more may come: a body no longer than the limit, or an error of the reader's
abbrev pub FrameGoes : {R : Type 0} → (R → Context → PipeError → Type 0) → ℕ → Item → Type 0
FrameGoes fails limit (Ok body) = length body.items ≤ limit
FrameGoes fails limit (Err e) = IsOfReader fails e

-- the last one: an error of the frame of which these bytes are left
abbrev pub FrameCloses : FrameHeader → ℕ → List ℕ → List ℕ → Bool → Item → Type 0
FrameCloses format limit left known saw (Ok body) = ⊥
FrameCloses format limit left known saw (Err e) = IsOfKept format limit left known saw e

-- what may come from it
abbrev pub YieldsFrames : {R : Type 0} → (R → List ℕ) → (R → List ℕ) → (R → Bool)
    → (R → Context → PipeError → Type 0) → FrameStream R → List Item → Option Item → Type 0
YieldsFrames taken known saw fails stream =
    EndsIf stream.is_ended (PieceRuns (FrameGoes fails stream.limit)
    (FrameCloses (format_of stream.frames) stream.limit) taken known saw
    (frame_bytes (format_of stream.frames)) (reader_of stream.frames) (kept_of stream.frames))

-- why a poll failed: the frame that is kept is too long, or was cut off, and the stream is over; or
-- the reader failed, or memory was refused, and it goes on. And why one is pending: the reader has
-- nothing to give yet
module _ {R : Type 0} (taken known : R → List ℕ) (saw knows_end : R → Bool)
    (fails : R → Context → PipeError → Type 0) (waits : R → Context → Type 0) where
  abbrev pub TellsFrame : Poll (Option Item) → FrameStream R → FrameStream R → Context → Type 0
  TellsFrame (Ready None) a b cx = is_over b ≡ true
  TellsFrame (Ready (Some (Ok body))) a b cx = is_over b ≡ false
  TellsFrame (Ready (Some (Err e))) a b cx =
      ((is_over b ≡ true) × IsOfFrame (format_of (frames_of a)) (frame_limit_of a)
      (header_of (frames_of b)) (known (reader_of (frames_of b))) (saw (reader_of (frames_of b))) e)
      ⊎ ((is_over b ≡ false) × IsReported e (fails (reader_of (frames_of b)) cx)
      (LacksFrameRoom (format_of (frames_of a)) (frame_limit_of a) (header_room_of (frames_of a))
      (body_room_of (frames_of a)) (header_of (frames_of b)) (body_of (frames_of b))
      (known (reader_of (frames_of b)))))
  TellsFrame Pending a b cx =
      Pends known knows_end waits (reader_of (frames_of b))
      (length (taken (reader_of (frames_of a))) < length (taken (reader_of (frames_of b)))) cx
