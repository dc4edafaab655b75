-- How the run goes on from one pipe to another.
use Rattle.std.proofs.Common.{◌≡◌, ℕ, List, ◌∷◌, ◌++◌, Bool, true, false, None, refl, append-nil, arith, []}
use Rattle.std.proofs.lemmas.Grind.{common_steps}
use Rattle.piper_machine.specs.Types.{Action, Call, Side, Step, DestAct, SourceAct, Event, Begin, Acts}
use Rattle.piper_machine.specs.Action.{index_loaded_by, with_waker_in}
use Rattle.piper_machine.specs.Pipe.{Pipe}
use Rattle.piper_machine.specs.Refusal.{IsIdle}
use Rattle.piper_machine.specs.Run.{Made}
use Rattle.piper_machine.specs.Sound.{IsSound}
use Rattle.piper_machine.specs.Step.{action_of}
use Rattle.piper_machine.specs.logs.Wide.{Act, makes, learns, withdraws, drains, fills, or}
use Rattle.piper_machine.proofs.logs.Learning.{Kept, is_wide, kept-drains, kept-fills, kept-learned, kept-step, kept-withdrawn, wide-now, wide-same}

-- a run that came to p goes on to q, reports these events on the way, and makes an act of its own if
-- it says so
abbrev pub LeadsBy : Bool → ℕ → Pipe → Pipe → List Event → Type 0
LeadsBy acts_so capacity p q events = (acts : List Act) (before : List Event) → Kept capacity acts p before
    → (more : List Act) × Kept capacity more q (before ++ events) × (is_wide more ≡ or acts_so (is_wide acts))

abbrev pub Leads : ℕ → Pipe → Pipe → List Event → Type 0
Leads capacity p q events = LeadsBy false capacity p q events

-- with these chances, and these acts of a script, a line leads there
abbrev pub ahead : {A B : Type 0} {Leads : A → B → Type 0} (chance : A) (script : B) → Leads chance script → (c : A) × (acts : B) × Leads c acts
ahead chance script leads = (chance, script, leads)

pub leads-none : (capacity : ℕ) (p : Pipe) → Leads capacity p p []
leads-none capacity p acts before kept = (acts, rw append-nil kept, refl)

pub leads-step : (capacity : ℕ) (s : Step) (p q : Pipe) (events : List Event) → IsSound q → ((before : List Event) → Made p s q before (before ++ events)) → Leads capacity p q events
leads-step capacity s p q events sound made acts before kept = (acts ++ makes s ∷ [], kept-step capacity acts s p q before (before ++ events) sound kept (made before), wide-same acts s)

pub leads-both : (capacity : ℕ) (p q r : Pipe) (first then : List Event) → Leads capacity p q first → Leads capacity q r then → Leads capacity p r (first ++ then)
leads-both capacity p q r first then one two acts before kept = grind (arith, common_steps)

pub leads-learned : (capacity : ℕ) (side : Side) (p : Pipe) → IsSound (index_loaded_by side p) → IsIdle side p → LeadsBy true capacity p (index_loaded_by side p) []
leads-learned capacity side p sound idle acts before kept =
    (acts ++ learns side ∷ [], rw append-nil (kept-learned capacity acts side p before sound idle kept), wide-now acts (learns side) refl)

pub leads-withdrawn : (capacity : ℕ) (side : Side) (p : Pipe) → IsSound (with_waker_in side None p) → action_of side p ≡ Action.Register → LeadsBy true capacity p (with_waker_in side None p) []
leads-withdrawn capacity side p sound to acts before kept =
    (acts ++ withdraws side ∷ [], rw append-nil (kept-withdrawn capacity acts side p before sound to kept), wide-now acts (withdraws side) refl)

pub leads-drains : (capacity : ℕ) (script : List DestAct) (p mid : Pipe) (events : List Event) → IsSound (record mid { destination = Acts script }) → ((before : List Event) → Made p (Begin (Call.TryDrain 0)) mid before (before ++ events))
    → LeadsBy true capacity p (record mid { destination = Acts script }) events
leads-drains capacity script p mid events sound made acts before kept =
    (acts ++ drains script ∷ [], kept-drains capacity acts p mid before (before ++ events) kept script sound (made before), wide-now acts (drains script) refl)

pub leads-fills : (capacity : ℕ) (script : List SourceAct) (p mid : Pipe) (events : List Event) → IsSound (record mid { source = script }) → ((before : List Event) → Made p (Begin (Call.TryFill [])) mid before (before ++ events))
    → LeadsBy true capacity p (record mid { source = script }) events
leads-fills capacity script p mid events sound made acts before kept =
    (acts ++ fills script ∷ [], kept-fills capacity acts p mid before (before ++ events) kept script sound (made before), wide-now acts (fills script) refl)
