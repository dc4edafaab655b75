-- What the lemmas on steps call the parts of a ring, and an access of one of its words.
use Rattle.piper_ring.proofs.Kit.{ℕ, ◌+◌, Bool, List, Ura, SProp, Share, Fml, Logic, Ptr, block_ptr, block_of, count_of, asks, always, Names, Inner, common, reader_knows, writer_knows}

pub record Terms {M : Type 1} (𝓤 : Ura M) : Type 2 where
  pub I : Fml
  pub C : Fml
  pub cap : ℕ
  pub RK : Share → ℕ → ℕ → ℕ → Fml
  pub WK : Share → List ℕ → ℕ → Bool → ℕ → Fml
  -- of the word d bytes on
  pub access : (d : ℕ) (f : ℕ → ℕ) (after : ℕ → Fml) → SProp 𝓤

abbrev pub terms : {M : Type 1} {𝓤 : Ura M} → Logic 𝓤 → Ptr → Ptr → Names → Terms 𝓤
terms 𝓛 w p z = record {
  I = Inner w p z;
  C = common w p z;
  cap = z.capacity;
  RK = reader_knows w p z;
  WK = writer_knows w p z;
  access = λ d f after. asks 𝓛 (block_ptr (block_of w) (d + count_of w)) f always after;
}
