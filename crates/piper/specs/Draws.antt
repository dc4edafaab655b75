-- Draws of a polling copy: it yields if the next word of the handle's generator is 0 modulo 100.
use Rattle.std.specs.Prelude.{◌≡◌, ◌%◌, ◌↔◌, ⊤}
use Rattle.futures.specs.Poll.{OnPending}
use Rattle.rand_pcg.specs.Lcg.{Lcg}
use Rattle.rand_pcg.specs.Pcg.{pcg32}
use Rattle.futures.specs.declared.task.Poll.{Poll}
use Rattle.futures.specs.declared.task.Poll.TheVariants.{Ready, Pending}

abbrev pub DrawsYield : Lcg → Type 0
DrawsYield rng = (pcg32 rng).0 % 100 ≡ 0

-- the generator after that word
abbrev pub drawn_from : Lcg → Lcg
drawn_from rng = (pcg32 rng).1

abbrev pub IsPending : {A : Type 0} → Poll A → Type 0
IsPending (Ready x) = ⊥
IsPending Pending = ⊤

-- a polling copy draws exactly if its look was true,
-- and is then pending exactly if it draws a yield
pub record Draws {A : Type 0} (looked_true : Type 0) (r : Poll A) (old new : Lcg) : Type 0 where
  pub word : looked_true → new ≡ drawn_from old
  pub yields : looked_true → (IsPending r ↔ DrawsYield old)
  pub none : ¬ looked_true → new ≡ old

-- a copy without a context never draws, and is pending only if its look was not true
pub record Undrawn {A : Type 0} (looked_true : Type 0) (r : Poll A) (old new : Lcg) : Type 0 where
  pub rest : new ≡ old
  pub waits : OnPending r (¬ looked_true)
