-- What was published is a beginning of the bytes: all that were given, until the pipe is seen
-- closed.
use Rattle.std.proofs.Common.{◌≡◌, ℕ, ◌≤◌, length, take, false}
use Rattle.example_order.proofs.threads.send_all.Given as goal

abbrev pub invariant-loop : goal.invariant-loop
invariant-loop g l = record {
  turns : (goal.iterator-loop g).can_next l.iterator' × (goal.iterator-loop g).is_finite l.iterator';
  within : l.given ≤ length l.bytes;
  ring : l.writer.side.end.ring ≡ l.initial.writer.side.end.ring;
  front : (m : ℕ) × (l.writer.side.end.sent ≡ take m l.bytes);
  all : l.writer.side.end.saw ≡ false → l.writer.side.end.sent ≡ take l.given l.bytes;
}
