-- A machine after a step of one of its sides: it is a machine again, and which pipe it represents.
use Rattle.std.proofs.Common.{◌≡◌, ◌+◌, ◌-◌, ◌≤◌, ℕ, List, ap, ◌∙◌, arith, []}
use Rattle.std.proofs.lemmas.Grind.{common_steps}
use Rattle.piper_machine.specs.Types.{Action, OpenCall, SourceAct, Destination, ReadPoint, WritePoint, Found, Slice}
use Rattle.piper_machine.specs.Open.{no_call}
use Rattle.piper_protocol.specs.Index.{offset_of, advanced}
use Rattle.piper_protocol.specs.Table.{Next, read_action, write_action, write_after}
use Rattle.piper_machine.specs.Side.{Reading, Writing, IsReading, IsWriting, known_of, peekable_of, room_of}
use Rattle.piper_machine.specs.SideSteps.{writing_answer}
use Rattle.piper_machine.specs.Pipe.{Pipe}
use Rattle.piper_machine.specs.Step.{round_answer}
use Rattle.piper_machine.specs.Machine.{pipe_of, IsMachine}
use Rattle.piper_machine.specs.declared.machine.Machine.TheInside.{Inside}

-- a store that is next stays within what its side holds
pub head-within : (m : Inside) (i : IsMachine m) (p : Pipe) (n : ℕ) → pipe_of m ≡ p → read_action p.reader ≡ Action.StoreHead n → n ≤ peekable_of m.read
head-within m i p n is next = grind arith

pub tail-within : (m : Inside) (i : IsMachine m) (p : Pipe) (n : ℕ) → pipe_of m ≡ p → write_action p.writer ≡ Action.StoreTail n → n ≤ m.write.lent
tail-within m i p n is next = grind arith

-- the reader has passed n bytes
pub reader-passed : (m : Inside) (i : IsMachine m) (n : ℕ) (r : Reading) (point : ReadPoint) (call : OpenCall) (destination : Destination) → r ≡ record m.read { head = advanced m.read.capacity m.read.head n; point = point }
    → IsReading r → n ≤ known_of m.read → offset_of m.read.capacity m.read.head + n ≤ m.read.capacity → (r.point ≡ ReadPoint.Idle → call ≡ no_call) → (r.point ≡ ReadPoint.Idle → destination ≡ Slice 0)
    → IsMachine (record m { read = r; reader_call = call; destination = destination })
reader-passed m i n r point call destination is reading within flat holds fills = grind (arith, common_steps)

-- the writer has passed n lent places
pub writer-passed : (m : Inside) (i : IsMachine m) (n : ℕ) (w : Writing) (point : WritePoint) (call : OpenCall) (acts : List SourceAct) → w ≡ record m.write { tail = advanced m.write.capacity m.write.tail n; lent = m.write.lent - n; point = point }
    → IsWriting w → n ≤ m.write.lent → (w.point ≡ WritePoint.Idle → call ≡ no_call) → (w.point ≡ WritePoint.Idle → acts ≡ []) → IsMachine (record m { write = w; writer_call = call; source = acts })
writer-passed m i n w point call acts is writing within holds gives = grind (arith, common_steps)

-- the call table reads the one capacity
pub next-of : (m : Inside) (i : IsMachine m) (found : Found) → write_after m.write.capacity (room_of m.write) m.write.point found ≡ write_after m.read.capacity (room_of m.write) m.write.point found
next-of m i found = ap (λ capacity. write_after capacity (room_of m.write) m.write.point found) i.capacity

pub answer-of : (m : Inside) (i : IsMachine m) (p : Pipe) (found : Found) → pipe_of m ≡ p → writing_answer found m.write ≡ round_answer found p
answer-of m i p found is = ap (λ (next : Next WritePoint). next.answer) (next-of m i found) ∙ ap (round_answer found) is
