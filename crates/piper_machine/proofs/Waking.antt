-- Both sides can't be blocked, since the capacity is not 0.
use Rattle.std.proofs.Common.{List, arith}
use Rattle.piper_machine.specs.Types.{Event}
use Rattle.piper_machine.specs.Awake.{IsAwake}
use Rattle.piper_machine.specs.Pipe.{Pipe}
use Rattle.piper_machine.specs.Remembered.{AreRemembered}
use Rattle.piper_machine.specs.Sound.{IsSound}

pub awake : (p : Pipe) (events : List Event) → IsSound p → AreRemembered p events → IsAwake p events
awake p events sound remembered reader writer asked written = grind arith
