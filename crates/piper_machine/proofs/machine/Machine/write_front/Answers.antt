use Rattle.std.proofs.Common.{ap, arith, length}
use Rattle.piper_machine.specs.Pipe.{Pipe}
use Rattle.piper_machine.proofs.Soundness.{length-lent}
use Rattle.piper_machine.proofs.Moves.{unread-written, lent-written}
use Rattle.piper_machine.proofs.machine.Machine.write_front.Goals as goal

pub returns : goal.returns
returns c =
    let m = c.self.inside in
    let i = c.self.invariant in
    let same = ap (λ (p : Pipe). length p.lent) c.self.view_is in
    let long = length-lent m i in
    let bytes = rw c.front.ensures.value at c.write_at.ensures in
    let unread = unread-written m i c.args.source.now (omega arith) in
    let lent = lent-written m i c.args.source.now (omega arith) in
    rw (← c.self.view_is) (cc)
