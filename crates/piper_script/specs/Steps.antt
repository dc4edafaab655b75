-- Steps of one side's open call, made one after another.
use Rattle.std.specs.Prelude.{◌≡◌, ◌≢◌, ◌≤◌, ◌<◌, ℕ, List, replicate}
use Rattle.piper_protocol.specs.declared.table.Side.{Side}
use Rattle.piper_machine.specs.declared.calls.Step.TheVariants.{Go}
use Rattle.piper_machine.specs.declared.events.Event.{Event}
use Rattle.piper_machine.specs.declared.calls.SideState.TheVariants.{Busy}
use Rattle.piper_machine.specs.Pipe.{Pipe}
use Rattle.piper_machine.specs.Refusal.{state_of}
use Rattle.piper_machine.specs.Run.{Runs}
use Rattle.piper_script.specs.declared.command.Steps.{Steps}
use Rattle.piper_script.specs.declared.command.Steps.TheVariants.{Count, ToAnswer}

-- so many steps lead from one pipe and log to another
abbrev pub Goes : ℕ → Side → Pipe → List Event → Pipe → List Event → Type 0
Goes n side old before new after = Runs old before (replicate n (Go side)) new after

-- as many as the line says; up to the answer they are at least one, and then no call is open
abbrev pub GoesAs : Steps → Side → Pipe → List Event → Pipe → List Event → Type 0
GoesAs (Count n) side old before new after = Goes n side old before new after
GoesAs ToAnswer side old before new after =
    (n : ℕ) × (1 ≤ n) × Goes n side old before new after × (state_of side new ≢ Busy)

-- fewer steps than so many
abbrev pub GoesFewer : ℕ → Side → Pipe → List Event → Pipe → List Event → Type 0
GoesFewer most side old before new after = (n : ℕ) × (n < most) × Goes n side old before new after

-- fewer than the line says, so that it says another one; up to the answer, after the first one,
-- only an open call is to make another
abbrev pub GoesBefore : Steps → Side → Pipe → List Event → Pipe → List Event → Type 0
GoesBefore (Count n) side old before new after = GoesFewer n side old before new after
GoesBefore ToAnswer side old before new after =
    (n : ℕ) × Goes n side old before new after × (1 ≤ n → state_of side new ≡ Busy)
