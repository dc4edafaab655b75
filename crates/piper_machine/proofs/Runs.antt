-- A run goes on by one step.
use Rattle.std.proofs.Common.{◌≡◌, List, ◌∷◌, ◌++◌, [], arith}
use Rattle.piper_machine.specs.Types.{Step, Event}
use Rattle.piper_machine.specs.Pipe.{Pipe}
use Rattle.piper_machine.specs.Sound.{IsSound}
use Rattle.piper_machine.specs.Run.{Made, Runs}

pub runs_more : (p q r : Pipe) (ss : List Step) (s : Step) (before mid after : List Event) → Runs p before ss q mid → Made q s r mid after → Runs p before (ss ++ s ∷ []) r after
runs_more p q r [] s before mid after run made = grind arith
runs_more p q r (t ∷ ss) s before mid after run made = (run.0, run.1, run.2, runs_more run.0 q r ss s run.1 mid after run.3 made)

-- a run of which each pipe that a step is made on is sound
abbrev pub SoundRuns : Pipe → List Event → List Step → Pipe → List Event → Type 0
SoundRuns p before [] q after = (q ≡ p) × (after ≡ before)
SoundRuns p before (s ∷ ss) q after =
    (mid : Pipe) × (events : List Event) × IsSound p × Made p s mid before events × SoundRuns mid events ss q after

pub sound_runs_more : (p q r : Pipe) (ss : List Step) (s : Step) (before mid after : List Event) → SoundRuns p before ss q mid → IsSound q → Made q s r mid after → SoundRuns p before (ss ++ s ∷ []) r after
sound_runs_more p q r [] s before mid after run sound made = grind arith
sound_runs_more p q r (t ∷ ss) s before mid after run sound made = (run.0, run.1, run.2, run.3, sound_runs_more run.0 q r ss s run.1 mid after run.4 sound made)

pub as_runs : (p q : Pipe) (ss : List Step) (before after : List Event) → SoundRuns p before ss q after → Runs p before ss q after
as_runs p q [] before after run = run
as_runs p q (s ∷ ss) before after run = (run.0, run.1, run.3, as_runs run.0 q ss run.1 after run.4)
