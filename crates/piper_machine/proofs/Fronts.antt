-- The fronts of a run, as the run goes on by one step.
use Rattle.std.proofs.Common.{◌≡◌, ◌⊎◌, inl, inr, ℕ, ◌≤◌, List, ◌∷◌, ◌++◌, take, drop, refl, sym, subst, arith, rules, []}
use Rattle.std.proofs.lemmas.Grind.{common_steps}
use Rattle.piper_machine.specs.Types.{Step, Event}
use Rattle.piper_machine.specs.Pipe.{Pipe, fresh}
use Rattle.piper_machine.specs.Sound.{IsSound}
use Rattle.piper_machine.specs.Conservation.{IsConserved}
use Rattle.piper_machine.specs.Run.{Made, Runs}
use Rattle.piper_machine.specs.Lawful.{IsLawful}
use Rattle.piper_machine.specs.Front.{Front}
use Rattle.piper_machine.proofs.Runs.{runs_more}

-- of one step more, the first i are those of the steps before, or they are all
record IsBefore (i : ℕ) (ss : List Step) (s : Step) : Type 0 where
  taken : take i (ss ++ s ∷ []) ≡ take i ss
  left : drop i (ss ++ s ∷ []) ≡ drop i ss ++ s ∷ []

record AreAll (i : ℕ) (ss : List Step) (s : Step) : Type 0 where
  taken : take i (ss ++ s ∷ []) ≡ ss ++ s ∷ []
  left : drop i (ss ++ s ∷ []) ≡ []

split : (i : ℕ) (ss : List Step) (s : Step) → IsBefore i ss s ⊎ AreAll i ss s
split i ss s = grind (arith, common_steps)

pub sound-fresh : (capacity : ℕ) → 1 ≤ capacity → IsSound (fresh capacity)
sound-fresh capacity some = grind arith

pub conserved_none : (capacity : ℕ) → IsConserved (fresh capacity) []
conserved_none capacity = record { bytes = refl; start = search rules }

pub fronts_none : (capacity : ℕ) → IsLawful capacity [] (fresh capacity) [] → (i : ℕ) → Front capacity [] i (fresh capacity) []
fronts_none capacity kept i = grind (arith, common_steps)

pub fronts_more : (capacity : ℕ) (ss : List Step) (s : Step) (p q : Pipe) (before after : List Event) → ((i : ℕ) → Front capacity ss i p before) → Made p s q before after
    → Runs (fresh capacity) [] (ss ++ s ∷ []) q after → IsLawful capacity (ss ++ s ∷ []) q after → (i : ℕ) → Front capacity (ss ++ s ∷ []) i q after
fronts_more capacity ss s p q before after fronts made on kept i = elim (split i ss s) [
  | inl earlier ↦
      let front = fronts i in
      record {
        pipe = front.pipe;
        log = front.log;
        runs = subst (λ (xs : List Step). Runs (fresh capacity) [] xs front.pipe front.log) (sym earlier.taken) front.runs;
        lawful = subst (λ (xs : List Step). IsLawful capacity xs front.pipe front.log) (sym earlier.taken) front.lawful;
        rest = subst (λ (xs : List Step). Runs front.pipe front.log xs q after) (sym earlier.left) (runs_more front.pipe p q (drop i ss) s front.log before after front.rest made);
      }
  | inr all ↦ record {
    pipe = q;
    log = after;
    runs = subst (λ (xs : List Step). Runs (fresh capacity) [] xs q after) (sym all.taken) on;
    lawful = subst (λ (xs : List Step). IsLawful capacity xs q after) (sym all.taken) kept;
    rest = subst (λ (xs : List Step). Runs q after xs q after) (sym all.left) (refl, refl);
  }
]
