use Rattle.std.proofs.Common.{ap, length}
use Rattle.piper_machine.specs.Pipe.{Pipe}
use Rattle.piper_machine.proofs.Soundness.{length-unread, sound}
use Rattle.piper_machine.proofs.machine.Machine.unread_count.Goals as goal

pub returns-clause-value : goal.returns-clause-value
returns-clause-value c =
    let value = c.distance.ensures.value in
    let long = length-unread c.self.inside c.self.invariant in
    let same = ap (λ (p : Pipe). length p.unread) c.self.view_is in
    cc

pub returns-clause-sound : goal.returns-clause-sound
returns-clause-sound c = sound c.self.inside c.self.invariant _ c.self.view_is
