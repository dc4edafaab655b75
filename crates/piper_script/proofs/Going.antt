-- One step more of a side's open call.
use Rattle.std.proofs.Common.{◌≡◌, ℕ, zero, suc, ◌+◌, List, [], ◌∷◌, ◌++◌, replicate, refl, ap, ◌∙◌, sym, add-one}
use Rattle.piper_protocol.specs.declared.table.Side.{Side}
use Rattle.piper_machine.specs.declared.calls.Step.TheVariants.{Go}
use Rattle.piper_machine.specs.declared.events.Event.{Event}
use Rattle.piper_machine.specs.Pipe.{Pipe}
use Rattle.piper_machine.specs.Run.{Made}
use Rattle.piper_machine.proofs.Runs.{runs_more}
use Rattle.piper_script.specs.Steps.{Goes}

replicate-append : {A : Type 0} (n : ℕ) (x : A) → replicate n x ++ x ∷ [] ≡ replicate (n + 1) x
replicate-append {A} n x = go n ∙ ap (λ m. replicate m x) (sym (add-one n))
  where
    go : (n : ℕ) → replicate n x ++ x ∷ [] ≡ replicate (suc n) x
    go zero = refl
    go (suc n) = ap (λ (xs : List A). x ∷ xs) (go n)

pub goes_more : (n : ℕ) (side : Side) (old mid new : Pipe) (before between after : List Event) → Goes n side old before mid between → Made mid (Go side) new between after → Goes (n + 1) side old before new after
goes_more n side old mid new before between after so_far next =
    rw (sym (replicate-append n (Go side))) (runs_more old mid new (replicate n (Go side)) (Go side) before between after so_far next)
