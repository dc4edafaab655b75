-- Where the bytes are in the buffer, and who holds which place.
use Rattle.std.specs.Prelude.{◌≡◌, ℕ, ◌+◌, ◌-◌, ◌<◌, min, List, length, take}
use Rattle.piper_protocol.specs.Index.{offset_of}
use Rattle.piper_machine.specs.Pipe.{Pipe}

-- the place of the unread byte number i
abbrev pub unread_place : Pipe → ℕ → ℕ
unread_place p i = offset_of p.capacity (p.start + i)

-- the place after the last unread byte, from which on is lent
abbrev pub end_place : Pipe → ℕ
end_place p = unread_place p (length p.unread)

-- the places from there up to the end of the buffer
abbrev pub places_left : Pipe → ℕ
places_left p = p.capacity - end_place p

-- how many known bytes are contiguous
abbrev pub peeked_count : Pipe → ℕ
peeked_count p = min p.known (p.capacity - p.start)

-- the slice that the reader is lent
abbrev pub peeked : Pipe → List ℕ
peeked p = take (peeked_count p) p.unread

-- the reader holds the places of the bytes that it knows
pub record HeldByReader (p : Pipe) (place : ℕ) : Type 0 where
  pub number : ℕ
  pub is_known : number < p.known
  pub valid : place ≡ unread_place p number

-- the writer holds the places of what it is lent
pub record HeldByWriter (p : Pipe) (place : ℕ) : Type 0 where
  pub number : ℕ
  pub is_lent : number < length p.lent
  pub valid : place ≡ end_place p + number

-- the slices that a side is shown are contiguous, at places that it holds
abbrev pub IsPeekHeld : Pipe → Type 0
IsPeekHeld p = (i : ℕ) → i < peeked_count p → HeldByReader p (p.start + i)

abbrev pub IsLentHeld : Pipe → Type 0
IsLentHeld p = (i : ℕ) → i < length p.lent → HeldByWriter p (end_place p + i)
