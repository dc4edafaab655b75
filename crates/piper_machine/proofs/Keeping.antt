-- What a run keeps from step to step: the laws at each moment so far, and of each law what the next
-- step needs to keep it.
use Rattle.std.proofs.Common.{◌≡◌, ℕ, ◌≤◌, List, ◌∷◌, ◌++◌, refl, ◌∙◌, []}
use Rattle.piper_machine.specs.Types.{Step, Event}
use Rattle.piper_machine.specs.Pipe.{Pipe, fresh}
use Rattle.piper_machine.specs.Sound.{IsSound}
use Rattle.piper_machine.specs.Known.{IsKnown}
use Rattle.piper_machine.specs.Conservation.{IsConserved}
use Rattle.piper_machine.specs.Run.{Made}
use Rattle.piper_machine.specs.Lawful.{IsLawful}
use Rattle.piper_machine.specs.Front.{Front}
use Rattle.piper_machine.proofs.Runs.{SoundRuns, sound_runs_more, as_runs}
use Rattle.piper_machine.proofs.Disjointness.{disjoint}
use Rattle.piper_machine.proofs.Conserving.{capacity-kept, conserved-step}
use Rattle.piper_machine.proofs.KnownRuns.{known_none, known_more, ready-run, counted-run, calls-counted}
use Rattle.piper_machine.proofs.Honesty.{Honest, honest_none, honest_more}
use Rattle.piper_machine.proofs.Waking.{awake}
use Rattle.piper_machine.proofs.Remembering.{Remembers, remembers_none, remembers_more}
use Rattle.piper_machine.proofs.Finality.{Final, final_none, final_more}
use Rattle.piper_machine.proofs.Stopping.{Stops, stops_none, stops_more}
use Rattle.piper_machine.proofs.Answering.{answered-run}
use Rattle.piper_machine.proofs.Fronts.{sound-fresh, conserved_none, fronts_none, fronts_more}

pub record Keeps (cap : ℕ) (ss : List Step) (p : Pipe) (events : List Event) : Type 0 where
  pub capacity : p.capacity ≡ cap
  pub runs : SoundRuns (fresh cap) [] ss p events
  pub honest : Honest p events
  pub final : Final p events
  pub stops : Stops p events
  pub remembers : Remembers p events
  pub lawful : IsLawful cap ss p events
  pub fronts : (i : ℕ) → Front cap ss i p events

laws : (cap : ℕ) (ss : List Step) (p : Pipe) (events : List Event) → SoundRuns (fresh cap) [] ss p events → IsSound p → IsConserved p events → IsKnown p events → Honest p events → Final p events → Stops p events → Remembers p events → IsLawful cap ss p events
laws cap ss p events runs sound conserved known honest final stops remembers =
    let plain = as_runs (fresh cap) p ss [] events runs in
    record {
      conserved = conserved;
      disjoint = disjoint p sound;
      honest = honest.honest;
      finality = final.final;
      stops = stops.stops;
      remembered = remembers.remembered;
      awake = awake p events sound remembers.remembered;
      answered = answered-run cap ss p events runs;
      known = known;
      ready = ready-run cap ss p events plain;
      counted = counted-run cap ss p events plain;
      called = calls-counted cap ss p events;
      sound = sound;
    }

pub keeps_none : (cap : ℕ) → 1 ≤ cap → Keeps cap [] (fresh cap) []
keeps_none cap some =
    let lawful = laws cap [] (fresh cap) [] (refl, refl) (sound-fresh cap some) (conserved_none cap) (known_none cap) (honest_none cap) (final_none cap) (stops_none cap) (remembers_none cap) in
    record {
      capacity = refl;
      runs = (refl, refl);
      honest = honest_none cap;
      final = final_none cap;
      stops = stops_none cap;
      remembers = remembers_none cap;
      lawful = lawful;
      fronts = fronts_none cap lawful;
    }

pub keeps_more : (cap : ℕ) (ss : List Step) (s : Step) (p q : Pipe) (before after : List Event) → IsSound p → IsSound q → Keeps cap ss p before → Made p s q before after → Keeps cap (ss ++ s ∷ []) q after
keeps_more cap ss s p q before after sound sound_after kept made =
    let same = capacity-kept p q s before after sound made in
    let plain = as_runs (fresh cap) p ss [] before kept.runs in
    let runs = sound_runs_more (fresh cap) p q ss s [] before after kept.runs sound made in
    let conserved = conserved-step p q s before after sound kept.lawful.conserved made in
    let known = known_more cap ss s p q before after sound kept.capacity same plain kept.lawful.known made in
    let honest = honest_more p q s before after kept.honest made in
    let final = final_more p q s before after sound kept.honest kept.final made in
    let stops = stops_more p q s before after kept.stops made in
    let remembers = remembers_more p q s before after sound kept.remembers made in
    let lawful = laws cap (ss ++ s ∷ []) q after runs sound_after conserved known honest final stops remembers in
    record {
      capacity = same ∙ kept.capacity;
      runs = runs;
      honest = honest;
      final = final;
      stops = stops;
      remembers = remembers;
      lawful = lawful;
      fronts = fronts_more cap ss s p q before after kept.fronts made (as_runs (fresh cap) q (ss ++ s ∷ []) [] after runs) lawful;
    }
