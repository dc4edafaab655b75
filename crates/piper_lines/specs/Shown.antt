-- What is shown of the bytes that report a length.
use Rattle.std.specs.Prelude.{ℕ, List, drop, take}
use Rattle.piper_lines.specs.declared.length_bytes.LengthBytes.{LengthBytes}

-- those that a header has
abbrev pub shown_of : LengthBytes → List ℕ
shown_of told = drop told.first (take told.end told.bytes)
