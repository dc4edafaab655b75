-- The slot in which a side that waits leaves its waker, as one word that both sides share. The word says
-- which of the ring's four cells lies in the slot, and whether a waker is in it. The right to a cell
-- moves with the word: each side has the right to one cell more, in which nothing is, and each slot to
-- the one that lies in it. Either side changes a slot by one step: its own cell goes in, and the one
-- that lay there comes out.
use Rattle.std.specs.Prelude.{◌≡◌, ◌≢◌, ℕ, ◌+◌, ◌*◌, ◌%◌, ◌<◌, ◌≤◌, ◌==◌, Bool, true, false, List, [], Option, Some, None, is_some, slice_index, refl}
use base.Fml.{Fml, fsep, fex, fauth}
use denote.RawPtr.{Ptr}
use Rattle.std.specs.Coded.{Coded, code_by, coded×, coded_list, coded_ℕ, coded_bool}
use Rattle.piper_ring.specs.Places.{fact}
use Rattle.piper_cells.specs.TokenCell.{right}
use Rattle.piper_ring.specs.Words.{flag, mirrored}
use Rattle.piper_ring.specs.Trace.{ticket_code}

-- What a side has stored for the other to find: the bytes that the writer published, or how many
-- the reader consumed, and whether the ring was closed.
pub record Stored : Type 0 where
  pub bytes : List ℕ
  pub count : ℕ
  pub closed : Bool

abbrev pub as_stored : List ℕ → ℕ → Bool → Stored
as_stored bytes count closed = record {
  bytes = bytes;
  count = count;
  closed = closed;
}

abbrev pub nothing_stored : Stored
nothing_stored = as_stored [] 0 false

abbrev pub stored_code : Coded Stored
stored_code =
    code_by (List ℕ × (ℕ × Bool)) (coded× (coded_list coded_ℕ) (coded× coded_ℕ coded_bool))
    (λ s. (s.bytes, (s.count, s.closed))) (λ p. as_stored p.0 p.1.0 p.1.1) (λ _. refl)

-- a cell, and whether a waker is in it
abbrev pub Filled : Type 0
Filled = ℕ × Bool

-- what the word of a slot says in which the cell lies
abbrev pub number : Filled → ℕ
number s = 2 * s.0 + flag s.1

-- which cell lies in a slot, and the ticket of the waker that is in it
abbrev pub Lying : Type 0
Lying = ℕ × Option ℕ

abbrev pub filled : Lying → Filled
filled s = (s.0, is_some s.1)

-- the ticket, if there is a waker
abbrev pub ticket_if : Bool → ℕ → Option ℕ
ticket_if true ticket = Some ticket
ticket_if false ticket = None

abbrev pub is_odd : ℕ → Bool
is_odd n = n % 2 == 1

-- a waker came out of the other's slot, with a ticket that was not taken before, or none was there
abbrev pub IsTicket : Bool → ℕ → ℕ → Type 0
IsTicket true old new = old < new
IsTicket false old new = new ≡ old

module _ (X : Type 0) where
  -- of the side that waits: whether it waits, since it registered and neither took its waker back nor
  -- found it gone; how often it registered; and what the other side had stored when it last checked
  -- before the last registration
  abbrev pub Waits : Type 0
  Waits = Bool × (ℕ × X)

  -- of the side that wakes: whose ticket it took last, and what it had stored when it checked last
  abbrev pub Wakes : Type 0
  Wakes = ℕ × X

  -- how both sides are, if a waker with this ticket is in the slot, or if none is
  abbrev pub AreAt : Option ℕ → Waits → Wakes → Type 0
  AreAt (Some ticket) a b =
      (a.0 ≡ true) × (b.1 ≡ a.1.1) × (b.0 < a.1.0) × (ticket ≡ a.1.0)
  AreAt None a b = (b.0 ≤ a.1.0) × (a.0 ≡ true → b.0 ≡ a.1.0)

  abbrev pub waits_code : Coded X → Coded Waits
  waits_code c = coded× coded_bool (coded× coded_ℕ c)

  abbrev pub wakes_code : Coded X → Coded Wakes
  wakes_code c = coded× coded_ℕ c

  -- a cell went into the own slot, with a waker or with none: the side is registered under the next
  -- ticket, or waits no more
  abbrev pub Exchanges : Bool → Waits → Waits → Type 0
  Exchanges true a a' = a' ≡ (true, (a.1.0 + 1, a'.1.1))
  Exchanges false a a' = a' ≡ (false, a.1)

  -- no forgotten waiter: if a side waits, and the other has checked after something new since, it was
  -- taken
  abbrev pub IsRemembered : Waits → Wakes → Type 0
  IsRemembered a b = a.0 ≡ true → b.1 ≢ a.1.1 → b.0 ≡ a.1.0

-- the word lies `far` bytes after w; the ghost names are those of the slot, of the side that waits and
-- of the side that wakes; `shows` is evidence of what was stored
module _ {X : Type 0} (w : Ptr) (far : ℕ) (cells : List ℕ) (name waits wakes : ℕ) (c : Coded X) (shows : X → Fml) where
  abbrev pub both_at : Option ℕ → Waits X × Wakes X → Fml
  both_at lies s =
      fsep (fact (AreAt X lies s.0 s.1))
      (fsep (shows s.1.1)
      (fsep (fauth waits ((waits_code X c).code s.0)) (fauth wakes ((wakes_code X c).code s.1))))

  -- what both sides are, if a waker is in the slot, or if none is
  abbrev pub both : Option ℕ → Fml
  both lies = fex (Waits X × Wakes X) (both_at lies)

  -- the right to the cell that lies there
  abbrev pub cell : Filled → Fml
  cell s = right true (slice_index cells s.0) s.1

  abbrev pub slot_at : Lying → Fml
  slot_at s =
      fsep (fact (s.0 < 4))
      (fsep (mirrored ticket_code name w far (number (filled s)) s.1)
      (fsep (cell (filled s)) (both s.1)))

  abbrev pub slot : Fml
  slot = fex Lying slot_at
