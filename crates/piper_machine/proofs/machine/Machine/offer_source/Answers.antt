use Rattle.std.proofs.Common.{length, ap, arith}
use Rattle.piper_machine.specs.Pipe.{Pipe}
use Rattle.piper_machine.specs.Machine.{pipe_of}
use Rattle.piper_machine.proofs.Sources.{source-called}
use Rattle.piper_machine.proofs.machine.Machine.offer_source.Goals as goal

pub returns-clause-lent : goal.returns-clause-lent
returns-clause-lent c = grind arith

pub returns-clause-after : goal.returns-clause-after
returns-clause-after c =
    let p = pipe_of c.self.inside in
    let q = pipe_of c.self-2.inside in
    let is = rw (← c.self-2.view_is) at c.write_round-count.ensures.after in
    let long = ap (λ (x : Pipe). length x.lent) c.self-2.view_is in
    let count = rw (c.front.ensures, c.replace-source.ensures.value) at c.write_round-count.ensures.count in
    let front = rw (← c.self-2.view_is, c.front.ensures, c.replace-source.ensures.value) at c.write_round-count.ensures.front in
    rw (← c.self.view_is) (source-called p q c.write_round-count.result _ c.pass.new.self is (omega arith) front (rw c.replace-source.ensures.value at c.pass.ensures))
