-- Its own waker was taken as it lay there before the close.
use Rattle.std.proofs.Common.{false, rules}
use Rattle.piper_ring.specs.Log.{Ran}
use Rattle.piper.specs.Called.{WasCalled}
use Rattle.piper.proofs.Calling.{same_own}
use Rattle.piper.proofs.handles.Writer.poll_close.Goals as goal

pub returns-clause-closes : goal.returns-clause-closes
unfolding Ran
returns-clause-closes c =
    let kept = rw (c.store_closed.ensures.side.slots, c.begin_close.ensures.slots) at c.wake_waiting.ensures.own in record {
      answer = search rules;
      woken = search rules;
      called = search rules;
      leaves = search rules;
      own = same_own WasCalled false c.args.self.now.side.slots c.wake_waiting.new.side.slots c.wake_own.new.side.log kept c.wake_own.ensures.called;
      context = search rules;
      rest = search rules;
      ran = search rules;
    }
