use Rattle.std.proofs.Common.{◌≡◌, ◌≤◌, ◌+◌, length, false}
use Rattle.piper_machine.specs.Types.{Busy}
use Rattle.piper_machine.specs.Refusal.{state_of}
use Rattle.piper_machine.specs.Alone.{alone_of, is_copying, wakes_of}
use Rattle.piper_machine.proofs.BySteps.{left_of}
use Rattle.piper_machine.proofs.machine.Machine.drive.Given as goal

abbrev pub invariant-steps : goal.invariant-steps
invariant-steps l = record {
  busy : state_of l.fn.side l.self ≡ Busy;
  moves : is_copying l.fn.side l.self ≡ false;
  wakes : length l.self.woken + wakes_of l.fn.side l.self ≤ 2;
  rest : alone_of l.fn.side l.fn.self ≡ alone_of l.fn.side l.self;
}

abbrev pub decreases-steps : goal.decreases-steps
decreases-steps l = left_of l.fn.side l.self
