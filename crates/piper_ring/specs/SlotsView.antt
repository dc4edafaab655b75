-- What a contract sees of what a side has of the slots, and how the side keeps it.
use Rattle.std.specs.Prelude.{◌≡◌, ℕ, ◌+◌, ◌<◌, ◌≤◌, ◌⊎◌, Bool, true, false, not, [], length, refl, IsSome, Option, None}
use Rattle.std.specs.Coded.{Coded, code_by, coded×, coded_ℕ, coded_bool}
use Rattle.piper_ring.specs.Shared.{Names, names_code}
use Rattle.piper_ring.specs.Loads.{WasTaken}
use Rattle.piper_ring.specs.Slot.{Stored, as_stored, stored_code}
use Rattle.piper_ring.specs.SlotValues.{IsTokenOf}
use Rattle.piper_ring.specs.ReadView.{ReadView}
use Rattle.piper_ring.specs.WriteView.{WriteView}
use Rattle.piper_ring.specs.declared.ends.slots.SlotParts.{SlotParts}

pub record SlotsView : Type 0 where
  -- the names of the ring
  pub names : Names
  -- whether its waker may be in its slot: it registered, and neither took its waker back nor found
  -- it gone since
  pub waits : Bool
  -- how often it registered
  pub tickets : ℕ
  -- what the other side had stored at its last check of the slot before that registration
  pub heard : Stored
  -- the ticket of the other side's that it took last
  pub taken : ℕ
  -- what it had stored when it checked last
  pub stored : Stored

abbrev pub slots_of : Names → Bool → ℕ → Stored → ℕ → Stored → SlotsView
slots_of z w t h k s = record {
  names = z;
  waits = w;
  tickets = t;
  heard = h;
  taken = k;
  stored = s;
}

abbrev pub slots_code : Coded SlotsView
slots_code =
    code_by ((Names × (Bool × ℕ)) × (Stored × (ℕ × Stored)))
    (coded× (coded× names_code (coded× coded_bool coded_ℕ))
    (coded× stored_code (coded× coded_ℕ stored_code)))
    (λ s. ((s.names, (s.waits, s.tickets)), (s.heard, (s.taken, s.stored))))
    (λ p. slots_of p.0.0 p.0.1.0 p.0.1.1 p.1.0 p.1.1.0 p.1.1.1)
    (λ _. refl)

abbrev pub slots_view : {H : Type 0} → SlotParts H → SlotsView
slots_view s =
    slots_of s.waits.names s.waits.waits s.waits.tickets s.waits.heard s.wakes.taken s.wakes.stored

pub record IsSlots {H : Type 0} (r : Bool) (tells : H → Names → Stored → Type 0) (s : SlotParts H)
    : Type 0 where
  pub sides : (s.waits.for_reader ≡ r) × (s.wakes.for_reader ≡ not r)
  pub own : IsTokenOf s.waits.names.cells s.own.index false s.own.right
  pub is_waiting : s.is_waiting ≡ s.waits.waits
  pub heard : tells s.heard s.waits.names s.waits.heard
  pub of_one_ring : s.wakes.names ≡ s.waits.names

-- the side is registered in its slot, under a new ticket
abbrev pub Registers : SlotsView → SlotsView → Type 0
Registers a b = b ≡ record a { waits = true; tickets = a.tickets + 1; heard = b.heard }

-- the side waits as it did: since a it has at most checked the other's slot
abbrev pub WaitsAsBefore : SlotsView → SlotsView → Type 0
WaitsAsBefore a b = b ≡ record a { taken = b.taken; stored = b.stored }

-- since a, a check of the other's slot took its last ticket, and got this waker with it; or nobody was
-- registered there
pub record TakesTicket {T : Type 0} (a b : SlotsView) (got : Option T) : Type 0 where
  pub none : got ≡ None → b.taken ≡ a.taken
  pub some : IsSome got → a.taken < b.taken
  pub waker : WasTaken a.names a.taken b.taken got

-- the side has not checked the other's slot since a: it waits as it did, or otherwise
abbrev pub OnlyWaits : SlotsView → SlotsView → Type 0
OnlyWaits a b =
    b ≡ record a { waits = b.waits; tickets = b.tickets; heard = b.heard }

-- the reader waits: it has registered, and its look after that found nothing to do
pub record IsReaderPending (r : ReadView) (s : SlotsView) : Type 0 where
  pub registered : s.waits ≡ true
  pub none : r.known ≡ []
  pub stays_open : r.saw ≡ false
  pub looked : length s.heard.bytes ≤ length r.taken
  pub goes_on : s.heard.closed ≡ false

-- the writer waits: it has registered, and its look after that found no room
pub record IsWriterPending (w : WriteView) (s : SlotsView) : Type 0 where
  pub registered : s.waits ≡ true
  pub none : w.room ≡ 0
  pub stays_open : w.saw ≡ false
  pub looked : s.heard.count + w.capacity ≤ length w.sent
  pub goes_on : s.heard.closed ≡ false

-- the writer is between its calls: it has checked after all that it stored
abbrev pub IsWriterAtRest : WriteView → SlotsView → Type 0
IsWriterAtRest w s = s.stored ≡ as_stored w.sent 0 w.shut

-- the reader is between its calls: it has checked after all that it consumed
abbrev pub IsReaderAtRest : ReadView → SlotsView → Type 0
IsReaderAtRest r s = s.stored ≡ as_stored [] (length r.taken) false

-- when the writer checked last it had stored something that the reader has not seen
abbrev pub ReaderHasNews : ReadView → SlotsView → Type 0
ReaderHasNews r s = (length r.taken < length s.stored.bytes) ⊎ (s.stored.closed ≡ true)

-- when the reader checked last it had given room back that the writer has not seen, or had closed
-- the ring
abbrev pub WriterHasNews : WriteView → SlotsView → Type 0
WriterHasNews w s = (length w.sent < s.stored.count + w.capacity) ⊎ (s.stored.closed ≡ true)
