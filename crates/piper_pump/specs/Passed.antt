-- What the output and the copies got.
use Rattle.std.specs.Prelude.{◌≡◌, ◌||◌, ℕ, Bool, false, List, Option, Result}
use Rattle.std.specs.List.{All, list_any}
use Rattle.piper_transfer.specs.Transfer.{Transfers, WritesAll}
use Rattle.piper_transfer.specs.declared.error.TransferError.{TransferError}
use Rattle.piper_pump.specs.Ended.{EndsAs}
use Rattle.piper_pump.specs.declared.ended.Ended.{Ended}
use Rattle.piper_pump.specs.declared.outlet.Outlet.{Outlet}
use Rattle.piper_pump.specs.declared.tees.Tee.{Tee}

-- a copy has taken just these bytes, unless it failed
abbrev pub HasGot : {D : Type 0} → (D → List (List ℕ) → List ℕ → Type 0) → List (List ℕ) → List ℕ → Tee D → Type 0
HasGot took names passed tee = tee.has_failed ≡ false → took tee.dest names passed

-- each copy has taken just these bytes, unless it failed
abbrev pub HaveGot : {R D : Type 0} → (D → List (List ℕ) → List ℕ → Type 0) → List (List ℕ) → List ℕ → Outlet R D → Type 0
HaveGot took names passed outlet = All (HasGot took names passed) outlet.tees.items

-- a copy has failed
abbrev pub has_lost_copy : {R D : Type 0} → Outlet R D → Bool
has_lost_copy outlet = list_any (λ tee. tee.has_failed) outlet.tees.items

-- a copy has failed, or the sum was not reported though it is wanted
abbrev pub lacks_some : {R D : Type 0} → Outlet R D → Bool
lacks_some outlet = has_lost_copy outlet || outlet.has_lost_sum

-- a transfer was made to the outlet, and the program ends as that ended: the output was given a front
-- of what the input gave, in order, each copy that has not failed took just the same, and where the
-- transfer wrote all, the output is flushed
pub record Passes {R D : Type 0}
    (input_old input_new : Option (List ℕ))
    (contents : D → Option (List ℕ))
    (took : D → List (List ℕ) → List ℕ → Type 0)
    (flushed : D → Type 0)
    (old new : Outlet R D)
    (ended : Ended) : Type 0 where
  pub moved : Result Unit TransferError
  pub transfers : Transfers moved input_old input_new (λ (o : Outlet R D). contents o.drain)
      (λ (o : Outlet R D) names passed. HaveGot took names passed o) old new
  pub flushes : WritesAll moved → flushed new.drain
  pub ends : EndsAs moved (lacks_some new) ended
