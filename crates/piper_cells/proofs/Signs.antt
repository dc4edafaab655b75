-- The signs in which proofs over a logic are written.
use Rattle.piper_cells.proofs.SpaceKit.{Ura, Fml, SProp, ent, sep, wand, Logic, sem}

pub record Signs {M : Type 1} (𝓤 : Ura M) : Type 3 where
  pub Pr : Type 2
  pub ⟦◌⟧ : Fml → SProp 𝓤
  pub ◌⊢◌ : SProp 𝓤 → SProp 𝓤 → Type 1
  pub ◌∗◌ : SProp 𝓤 → SProp 𝓤 → SProp 𝓤
  pub ◌-∗◌ : SProp 𝓤 → SProp 𝓤 → SProp 𝓤

abbrev pub signs : {M : Type 1} {𝓤 : Ura M} → Logic 𝓤 → Signs 𝓤
signs {M} {𝓤} 𝓛 = record { Pr = SProp 𝓤; ⟦◌⟧ = sem 𝓛; ◌⊢◌ = ent 𝓤; ◌∗◌ = sep 𝓤; ◌-∗◌ = wand 𝓤 }
