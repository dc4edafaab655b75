-- The accesses that a handle's log has, as lines.
use Rattle.std.specs.Prelude.{List, [], ◌∷◌}
use Rattle.piper_protocol.specs.OneList as handle
use Rattle.piper_machine.specs.logs.Line.{Line, loaded_head, loaded_tail, loaded_closed, stored_head, stored_tail, stored_closed, loaded_slot, swapped}

abbrev pub line_of : handle.Access → Line
line_of (handle.loaded_head count) = loaded_head count
line_of (handle.loaded_tail count) = loaded_tail count
line_of (handle.loaded_closed is_closed) = loaded_closed is_closed
line_of (handle.stored_head bytes) = stored_head bytes
line_of (handle.stored_tail bytes) = stored_tail bytes
line_of handle.stored_closed = stored_closed
line_of (handle.loaded_slot side is_filled) = loaded_slot side is_filled
line_of (handle.swapped side old left) = swapped side old left

abbrev pub lines_of : List handle.Access → List Line
lines_of [] = []
lines_of (access ∷ before) = line_of access ∷ lines_of before
