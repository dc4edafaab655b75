-- How far the zeroing has come.
use Rattle.std.proofs.Common.{◌≡◌, ◌+◌}
use Rattle.piper_ring.specs.RoomOrder.{end_of}
use Rattle.piper_ring.proofs.ends.room.zero.Given as goal

-- `front` ends, and `blank` begins, at the offset that is zeroed next
abbrev pub invariant-loop-offset : goal.invariant-loop-offset
invariant-loop-offset l = (l.front.at ≡ l.initial.front.at) × (l.front.capacity ≡ l.initial.front.capacity) × (l.front.first ≡ l.initial.front.first) × (end_of l.front ≡ l.offset)
    × (l.blank.at ≡ l.initial.blank.at) × (l.blank.capacity ≡ l.initial.blank.capacity) × (l.blank.first ≡ l.offset) × (l.offset + l.blank.count ≡ l.from + l.initial.blank.count)
