-- What came is at the front of the place, and the pipe is empty.
use Rattle.std.proofs.Common.{◌≡◌, ◌≤◌, ◌-◌, length, take}
use Rattle.example_order.specs.Rounds.{IsEmptied}
use Rattle.example_order.proofs.rounds.carry_in_rounds.Given as goal

abbrev pub invariant-loop-came : goal.invariant-loop-came
invariant-loop-came l = record {
  emptied : IsEmptied l.reader l.writer;
  within : l.came ≤ length l.bytes;
  came : take l.came l.place ≡ take l.came l.bytes;
}

abbrev pub decreases-loop-came : goal.decreases-loop-came
decreases-loop-came l = length l.bytes - l.came
