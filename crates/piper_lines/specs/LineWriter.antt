-- What a line that is being written has.
use Rattle.std.specs.Prelude.{ℕ, List, ◌++◌, drop}
use Rattle.piper_lines.specs.declared.line_writer.WriteLine.{WriteLine}

-- the bytes that are left
abbrev pub left_of : WriteLine → List ℕ
left_of line = drop line.text_written line.text.now ++ drop line.end_written line.end
