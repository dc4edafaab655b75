-- What an owner of places ends as, once a `&mut` into
-- its bytes has ended: it holds what was written there.
use Rattle.std.specs.Prelude.{ℕ, List, length}
use Rattle.std.specs.Borrow.{Fml, MutBor, Array, Lends}
use Rattle.std.specs.List.{refill}
use denote.Builtin.{u8}
use Rattle.piper_ring.specs.declared.ring.places.Places.{Places}
use Rattle.piper_ring.specs.contracts.ring.places.Places.{the_row}

-- the bytes xs, with ws written over them
abbrev pub written : List ℕ → List ℕ → List ℕ
written xs ws = refill (length xs) xs ws

abbrev pub with_bytes : Places → List ℕ → List ℕ → Places
with_bytes p xs ws = record p { bytes = written xs ws }

abbrev pub lends_bytes : MutBor Places → MutBor (List ℕ) → Fml
lends_bytes p r = Lends the_row (Array u8 0) p r (with_bytes p.now r.now)
