-- The waker that was taken is the one that was called.
use Rattle.std.proofs.Common.{rules, [], ◌∷◌}
use Rattle.piper.proofs.handles.waiting.wake_waiting.Goals as goal

pub returns-in-Some-clause-called : goal.returns-in-Some-clause-called
returns-in-Some-clause-called g c =
    (c.in-Some.waker ∷ [], (c.take.new.self.slots.taken, c.in-Some.ensures.ticket.waker, c.call.ensures.called, search rules))
