-- What a load showed stays so while an end moves on by what it knows of.
use Rattle.piper_ring.proofs.Kit.{◌≡◌, ℕ, ◌++◌, length, sym, subst, Ring, FoundPublished}
use Rattle.piper_ring.specs.ReadView.{HasLoadedTail, ReadView}

pub still_loaded : (a b : ReadView) → b.ring ≡ a.ring → length (b.taken ++ b.known) ≡ length (a.taken ++ a.known) → HasLoadedTail a → HasLoadedTail b
still_loaded a b ring same = subst (λ (p : Ring × ℕ). FoundPublished p.0.names p.1) (λ i. (sym ring i, sym same i))
