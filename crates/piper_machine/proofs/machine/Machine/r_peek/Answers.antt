use Rattle.std.proofs.Common.{◌≡◌, ◌+◌, ◌-◌, ap, sym, arith}
use Rattle.piper_machine.specs.Pipe.{Pipe}
use Rattle.piper_machine.specs.Places.{peeked}
use Rattle.piper_machine.proofs.Indices.{place_below, offset_of_low}
use Rattle.piper_machine.proofs.Between.{take-between}
use Rattle.piper_machine.proofs.Soundness.{tail_below, sound}
use Rattle.piper_machine.proofs.Disjointness.{disjoint}
use Rattle.piper_machine.proofs.machine.Machine.r_peek.Goals as goal

pub returns-clause-bytes : goal.returns-clause-bytes
returns-clause-bytes c =
    let m = c.self.inside in
    let i = c.self.invariant in
    let count = c.peekable.ensures in
    let below = place_below m.read.capacity m.read.head i.reading.head in
    let n : c.front-place.result + c.peekable.result - c.front-place.result ≡ c.peekable.result = omega arith in
    let bytes = take-between m.read.capacity m.read.head m.write.tail m.bytes.items i.bytes i.reading.head (tail_below m i) i.unread c.peekable.result (omega (arith, i.known)) (omega arith) in
    let same = ap (λ (p : Pipe). peeked p) c.self.view_is in
    let place = c.front-place.ensures.value in
    let of_bytes = c.deref.ensures in
    cc

pub returns-clause-sound : goal.returns-clause-sound
returns-clause-sound c = sound c.self.inside c.self.invariant _ c.self.view_is

pub returns-clause-held : goal.returns-clause-held
returns-clause-held c i within =
    let p = c.args.self.now in
    record {
      number = i;
      is_known = omega arith;
      valid = sym (offset_of_low p.capacity (p.start + i) (omega (arith, (returns-clause-sound c).start)));
    }

pub returns-clause-disjoint : goal.returns-clause-disjoint
returns-clause-disjoint c = disjoint _ (returns-clause-sound c)
