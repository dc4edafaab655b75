-- What a frame that is being written has.
use Rattle.std.specs.Prelude.{ℕ, List, ◌++◌, drop}
use Rattle.piper_lines.specs.Shown.{shown_of}
use Rattle.piper_lines.specs.declared.frame_writer.WriteFrame.{WriteFrame}

-- the bytes that are left
abbrev pub left_of : WriteFrame → List ℕ
left_of frame =
    drop frame.header_written (shown_of frame.header) ++ drop frame.body_written frame.body.now
