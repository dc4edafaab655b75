-- How stretches of places follow one another, and what each end gains as it accepts more.
use Rattle.std.specs.Prelude.{◌≡◌, ℕ, ◌+◌, ◌≤◌, ◌++◌, List, length}
use denote.RawPtr.{Ptr}
use Rattle.rtrb.specs.Fifo.{slot_of as offset_of}
use Rattle.piper_ring.specs.declared.ring.places.Places.{Places}
use Rattle.piper_ring.specs.declared.ring.places.Blank.{Blank}
use Rattle.piper_ring.specs.declared.ring.seats.ReadSeat.{ReadSeat}
use Rattle.piper_ring.specs.declared.ring.seats.WriteSeat.{WriteSeat}

-- the stretch is in the memory at `at`, which has so many places, and begins at the k-th
abbrev pub BeginsAt : Ptr → ℕ → ℕ → Places → Type 0
BeginsAt at capacity k p = (p.at ≡ at) × (p.capacity ≡ capacity) × (p.first ≡ k)

-- places that need not be set: those of such a memory from the k-th on, up to number `end`
abbrev pub IsBlankFrom : Ptr → ℕ → ℕ → ℕ → Blank → Type 0
IsBlankFrom at capacity k end b =
    (b.at ≡ at) × (b.capacity ≡ capacity) × (b.first ≡ k) × (b.first + b.count ≡ end)

-- the first `len` places of p are contiguous, from the offset `from` of the memory at `base` on
abbrev pub IsPiece : Ptr → ℕ → ℕ → Places → Type 0
IsPiece base from len p =
    (base ≡ p.at) × (len ≤ length p.bytes) × (from ≡ offset_of p.capacity p.first)
    × (from + len ≤ p.capacity)

-- `more` begins where p ends
abbrev pub Follows : Places → Places → Type 0
Follows p more =
    (more.at ≡ p.at) × (more.capacity ≡ p.capacity) × (more.first ≡ p.first + length p.bytes)

abbrev pub FollowsBlank : Blank → Blank → Type 0
FollowsBlank b more =
    (more.at ≡ b.at) × (more.capacity ≡ b.capacity) × (more.first ≡ b.first + b.count)

-- the same places, whose bytes nobody speaks of any more
abbrev pub forgotten : Places → Blank
forgotten p = record {
  mark = p.mark;
  at = p.at;
  capacity = p.capacity;
  first = p.first;
  count = length p.bytes;
}

-- places of the same memory from that number on, which hold these bytes
abbrev pub places_from : Blank → ℕ → List ℕ → Places
places_from b first bytes = record {
  mark = b.mark;
  at = b.at;
  capacity = b.capacity;
  first = first;
  bytes = bytes;
}

-- the reader came to know of these bytes, with the places in which they are
pub record ReadGains (old new : ReadSeat) (known more : Places) (published : List ℕ) : Type 0 where
  pub bytes : List ℕ
  pub places : more ≡ record known { bytes = known.bytes ++ bytes }
  pub seat : new ≡ record old { seen = length published; have = old.have ++ bytes }
  pub seen : length published ≡ old.seen + length bytes
  pub whole : old.have ++ bytes ≡ published

-- so many places became the writer's room, up to this limit
pub record WriteGains (old new : WriteSeat) (room more : Places) (limit : ℕ) : Type 0 where
  pub bytes : List ℕ
  pub places : more ≡ record room { bytes = room.bytes ++ bytes }
  pub seat : new ≡ record old { limit = limit }
  pub grown : limit ≡ old.limit + length bytes

-- both are seats of one ring
pub record AreOfOneRing (reader : ReadSeat) (writer : WriteSeat) : Type 0 where
  pub words : writer.words ≡ reader.words
  pub memory : writer.at ≡ reader.at
  pub names : writer.names ≡ reader.names
