use Rattle.std.proofs.Common.{ap, arith, length}
use Rattle.piper_machine.specs.Pipe.{Pipe}
use Rattle.piper_machine.proofs.Soundness.{length-lent}
use Rattle.piper_machine.proofs.Moves.{unread-set, lent-set}
use Rattle.piper_machine.proofs.machine.Machine.w_put.Goals as goal

pub returns : goal.returns
returns c =
    let m = c.self.inside in
    let i = c.self.invariant in
    let same = ap (λ (p : Pipe). length p.lent) c.self.view_is in
    let long = length-lent m i in
    let unread = unread-set m i c.args.offset c.args.byte (omega arith) in
    let lent = lent-set m i c.args.offset c.args.byte (omega arith) in
    let place = c.front.ensures.value in
    rw (← c.self.view_is) (cc)
