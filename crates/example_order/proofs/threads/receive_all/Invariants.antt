-- What was taken is at the front of the place.
use Rattle.std.proofs.Common.{◌≡◌, ◌≤◌, length, take}
use Rattle.example_order.proofs.threads.receive_all.Given as goal

abbrev pub invariant-loop : goal.invariant-loop
invariant-loop g l =
    (goal.iterator-loop g).can_next l.iterator' × (goal.iterator-loop g).is_finite l.iterator'
    × (l.came ≤ length l.place)
    × (l.reader.side.end.ring ≡ l.initial.reader.side.end.ring)
    × (l.reader.side.end.taken ≡ take l.came l.place)
