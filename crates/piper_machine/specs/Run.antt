-- Runs: lists of steps, made one after another on a fresh pipe with an empty log.
use Rattle.std.specs.Prelude.{◌≡◌, ℕ, List, [], ◌∷◌, ◌++◌, take, slice_get, None, Some, ⊤, Bool, true, false}
use Rattle.piper_protocol.specs.Reported.{HasFailed}
use Rattle.piper_protocol.specs.declared.memory.OutOfMemory.{OutOfMemory}
use Rattle.piper_machine.specs.Types.{Step, Event, StepRefusal, Put}
use Rattle.piper_machine.specs.declared.refusals.StepRefusal.TheVariants.{Memory}
use Rattle.piper_machine.specs.declared.refusals.RunRefusal.{RunRefusal}
use Rattle.piper_machine.specs.declared.refusals.RunRefusal.TheVariants.{NoMachine, At}
use Rattle.piper_machine.specs.Pipe.{Pipe, fresh}
use Rattle.piper_machine.specs.Step.{stepped, MayLend}
use Rattle.piper_machine.specs.Refusal.{refusal_of}

-- the step was made: what it lends is read off the new pipe
pub record IsStepped (old : Pipe) (s : Step) (new : Pipe) (before after : List Event) : Type 0 where
  pub lent : MayLend new.lent s old
  pub pipe : new ≡ (stepped new.lent s old).pipe
  pub events : after ≡ before ++ (stepped new.lent s old).events

-- the step was accepted and made
pub record Made (old : Pipe) (s : Step) (new : Pipe) (before after : List Event) : Type 0 where
  pub accepted : refusal_of s old ≡ None
  pub made : IsStepped old s new before after

-- from one pipe and log to another by these steps
abbrev pub Runs : Pipe → List Event → List Step → Pipe → List Event → Type 0
Runs p before [] q after = (q ≡ p) × (after ≡ before)
Runs p before (s ∷ ss) q after =
    (mid : Pipe) × (events : List Event) × Made p s mid before events × Runs mid events ss q after

-- whether a step asks for memory: for its events in the log, and for what it copies
abbrev pub asks_for_memory : Step → Bool
asks_for_memory (Put offset byte) = false
asks_for_memory s = true

-- why a step is refused: by the pipe,
-- or for want of the memory that it asks for where the pipe accepts it
abbrev pub IsRefusal : Step → Pipe → StepRefusal → Type 0
IsRefusal s p Memory = (refusal_of s p ≡ None) × (asks_for_memory s ≡ true)
IsRefusal s p r = refusal_of s p ≡ Some r

-- an allocation was refused
abbrev pub MemoryIsRefused : Type 0
MemoryIsRefused = (refused : OutOfMemory) × HasFailed refused

-- where want of memory is the reason, an allocation was refused
abbrev pub IsOfMemory : StepRefusal → Type 0
IsOfMemory Memory = MemoryIsRefused
IsOfMemory r = ⊤

-- the first i steps were made from a fresh pipe, and the next one is refused so
pub record RefusedAt (capacity : ℕ) (steps : List Step) (i : ℕ) (r : StepRefusal) : Type 0 where
  pub pipe : Pipe
  pub events : List Event
  pub step : Step
  pub runs : Runs (fresh capacity) [] (take i steps) pipe events
  pub next : slice_get steps i ≡ Some step
  pub refused : IsRefusal step pipe r
  pub memory : IsOfMemory r

abbrev pub IsRunRefusal : ℕ → List Step → RunRefusal → Type 0
IsRunRefusal capacity steps NoMachine = MemoryIsRefused
IsRunRefusal capacity steps (At i r) = RefusedAt capacity steps i r
