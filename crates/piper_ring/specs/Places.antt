-- What the owners of a stretch of the ring's places own and lend. Places are counted from the first
-- byte ever sent, and the k-th is at the offset `offset_of capacity k`: so a stretch that goes
-- round the end of the memory is cut and joined like any other.
use Rattle.std.specs.Prelude.{ℕ, suc, ◌+◌, ◌^◌, ◌<◌, List, [], ◌∷◌}
use mir.Raw.{raw}
use base.Fraction.{full_share}
use base.Fml.{Lft, Fml, ftrue, fsep, fex, froom}
use denote.Builtin.{u8}
use denote.Memory.{lone, part_at, shared_of}
use denote.Sharing.{nothing, said, beside}
use denote.RawPtr.{Ptr, block_of, count_of, InBlock}
use Rattle.rtrb.specs.Fifo.{slot_of as offset_of}
use Rattle.rtrb.specs.Shared.{run, span}

abbrev pub fact : Type 0 → Fml
fact φ = fex φ (λ _. ftrue)

-- `at` is where the ring's memory begins
module _ (at : Ptr) (capacity : ℕ) where
  -- where the k-th place lies in its block
  abbrev pub place : ℕ → ℕ
  place k = offset_of capacity k + count_of at

  -- the k-th place holds x
  abbrev pub byte : ℕ → ℕ → Fml
  byte k x = part_at u8 full_share x (block_of at) (place k)

  -- the k-th place is owned, and may be unset
  abbrev pub unset : ℕ → Fml
  unset k = froom (raw (lone u8.mir)) (block_of at) (place k)

  abbrev pub Placed : Type 0
  Placed = InBlock at × (capacity < 2 ^ 63)

  -- the places from the k-th on, which hold xs
  abbrev pub places_own : ℕ → List ℕ → Fml
  places_own k xs = fsep (fact Placed) (run byte k xs)

  -- n places from the k-th on, set or not
  abbrev pub blank_own : ℕ → ℕ → Fml
  blank_own k n = fsep (fact Placed) (span unset k n)

  abbrev pub run_lent : ℕ → List ℕ → Lft → Fml
  run_lent k [] = nothing
  run_lent k (x ∷ xs) = beside (shared_of u8 x (block_of at) (place k)) (run_lent (suc k) xs)

  abbrev pub places_lent : ℕ → List ℕ → Lft → Fml
  places_lent k xs = beside (said (fact Placed)) (run_lent k xs)
