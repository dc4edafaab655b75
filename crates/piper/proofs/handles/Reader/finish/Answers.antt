-- Whoever came out of a place was called, or dropped.
use Rattle.std.proofs.Common.{rules, ◌≡◌, ap, IfSome}
use Rattle.piper.specs.Called.{WasCalled}
use Rattle.piper.specs.Waits.{ReaderHasDropped}
use Rattle.piper.proofs.Calling.{calls_one}
use Rattle.piper.proofs.handles.Reader.finish.Goals as goal
use Rattle.piper.proofs.handles.Reader.finish.Goals.{in-Some, in_default}

is_called : (c : goal.After-result-1) → IfSome c.finish-side.result.taken WasCalled
is_called c =
    elim c.match-taken.branch [
      | in-Some w ↦ rw w.in-Some.is w.call.ensures.called
      | in_default w ↦ rw w.in_default.is tt
    ]

same_slots : (c : goal.After-result-1) → c.match-taken.side.1.0 ≡ c.finish-side.result.side.slots
same_slots c =
    elim c.match-taken.branch [
      | in-Some w ↦ ap (λ side. side.1.0) w.side-is
      | in_default w ↦ ap (λ side. side.1.0) w.side-is
    ]

dropped : (c : goal.After-result-1) → ReaderHasDropped c.args.self
unfolding ReaderHasDropped
dropped c = record {
  taken = c.finish-side.result.taken;
  after = c.finish-side.result.side.log;
  leaves = rw c.begin_drop.ensures.log at c.finish-side.ensures.leaves;
  called = is_called c;
  left = c.finish-side.result.left;
  gets = rw c.begin_drop.ensures.end at c.finish-side.ensures.left;
  reader = c.let_left_go.ensures.reader;
  writer = c.let_left_go.ensures.writer;
}

pub returns-clause-woken : goal.returns-clause-woken
returns-clause-woken c =
    let took = rw c.begin_drop.ensures.slots at c.finish-side.ensures.ticket.waker in
    let none = rw c.begin_drop.ensures.slots at c.finish-side.ensures.ticket.none in record {
      count = search rules;
      over = search rules;
      called = rw (same_slots c) (calls_one _ _ _ _ took none (is_called c));
      dropped = dropped c;
    }
