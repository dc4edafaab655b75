use Rattle.std.proofs.Common.{◌≡◌, ◌≤◌, ◌++◌, length, take, drop}
use Rattle.piper_machine.specs.Types.{Slice}
use Rattle.piper_machine.specs.Step.{drain_opened}
use Rattle.piper_machine.proofs.Draining.{Draining, IsRead, left_of}
use Rattle.piper_machine.proofs.machine.Machine.drain_slice.Given as goal

abbrev pub invariant-steps : goal.invariant-steps
invariant-steps l = record {
  within : l.done ≤ length l.dest;
  known : l.done ≤ length l.fn.self.unread;
  bytes : l.dest ≡ take l.done l.fn.self.unread ++ drop l.done l.fn.dest;
  read : IsRead l.fn.self.unread (length l.fn.dest) l.done l.self;
  draining : Draining (drain_opened l.fn.context (Slice (length l.fn.dest)) l.fn.self) l.self;
}

abbrev pub decreases-steps : goal.decreases-steps
decreases-steps l = left_of l.self
