use Rattle.std.proofs.Common.{◌≡◌, ◌+◌, ◌-◌, min, ap, sym, ◌∙◌, arith, length}
use Rattle.piper_protocol.specs.Index.{distance, offset_of}
use Rattle.piper_machine.specs.Pipe.{Pipe}
use Rattle.piper_machine.proofs.Between.{between-pieces}
use Rattle.piper_machine.proofs.Soundness.{length-unread}
use Rattle.piper_machine.proofs.machine.Machine.pieces.Goals as goal

pub returns : goal.returns
returns c =
    let m = c.self.inside in
    let i = c.self.invariant in
    let n = c.min-first.result in
    let unread = ap (λ (p : Pipe). p.unread) c.self.view_is in
    let len : c.unread_count-len.result ≡ distance m.read.capacity m.read.head m.write.tail = c.unread_count-len.ensures.value ∙ sym (ap length unread) ∙ length-unread m i in
    let first : n ≡ min (distance m.read.capacity m.read.head m.write.tail) (m.read.capacity - offset_of m.read.capacity m.read.head) = c.min-first.ensures ∙ omega arith in
    let piece : c.front-head.result + n - c.front-head.result ≡ n = omega arith in
    let parts = between-pieces m.read.capacity m.read.head m.write.tail m.bytes.items i.bytes i.reading.head i.unread n first in
    let place = c.front-head.ensures.value in
    let bytes = c.deref.ensures.value in
    let bytes_again = c.deref-2.ensures.value in
    cc
