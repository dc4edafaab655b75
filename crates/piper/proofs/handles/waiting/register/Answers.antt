-- The waker that was granted is the one that lies in the slot.
use Rattle.std.proofs.Common.{rules}
use Rattle.piper.proofs.handles.waiting.register.Goals as goal

pub returns-clause-registered : goal.returns-clause-registered
returns-clause-registered g c = λ _. (
  search rules,
  record {
    held = c.cancel-waker.result;
    waker = c.in-Some.waker;
    back = c.cancel-waker.ensures.out.taken;
    asked = search rules;
    put = search rules;
    task = search rules;
  },
)
