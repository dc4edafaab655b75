-- What a load of one of the ring's words found, and what lay in a side's slot. Of these definitions
-- those with a lemma below are sealed: no proof looks into them, and only those of the loads in
-- src/ring/seats.rt and remains.rt, and of the calls in src/ends/slots, use the lemmas.
-- So what a clause says of one of them came from such a call.
use Rattle.std.specs.Prelude.{◌≡◌, ⊤, ℕ, Bool, true, IsSome, Option}
use Rattle.piper_ring.specs.Shared.{Names}

-- the tail, which was loaded, was that of so many published bytes
pub FoundPublished : Names → ℕ → Type 0
FoundPublished names count = ⊤

-- the head, which was loaded, was that of so many consumed bytes
pub FoundConsumed : Names → ℕ → Type 0
FoundConsumed names count = ⊤

-- the word closed, which was loaded, was so
pub FoundClosed : Names → Bool → Type 0
FoundClosed names closed = ⊤

-- a side of this ring registered under this ticket, and this waker lay in its slot then
pub WasPut : {T : Type 0} → Names → ℕ → T → Type 0
WasPut names ticket waker = ⊤

-- a side of this ring, which waited or not and had registered so often, got out what lay in its slot:
-- this waker, or none
pub WasTakenBack : {T : Type 0} → Names → Bool → ℕ → Option T → Type 0
WasTakenBack names waits tickets waker = ⊤

-- a side of this ring got its waker back, which lay in its slot, or none
pub record TookBack {T : Type 0} (names : Names) (waits : Bool) (tickets : ℕ) (waker : Option T)
    : Type 0 where
  pub some : IsSome waker → waits ≡ true
  pub taken : WasTakenBack names waits tickets waker

-- a check of the other side's slot of this ring took the ticket `new`, where the last one was `old`,
-- and got this waker with it, or none
pub WasTaken : {T : Type 0} → Names → ℕ → ℕ → Option T → Type 0
WasTaken names old new waker = ⊤

-- an end left: the word of leaving, which it swapped, was so: 1 where the other end had left
pub FoundGone : Names → ℕ → Type 0
FoundGone names gone = ⊤

-- both ends had left: the reader's slot, or the writer's, held a waker, or none
pub FoundLeft : Names → Bool → Bool → Type 0
FoundLeft names for_reader is_found = ⊤

pub as_published : (names : Names) (count : ℕ) → FoundPublished names count
unfolding FoundPublished
as_published names count = tt

pub as_consumed : (names : Names) (count : ℕ) → FoundConsumed names count
unfolding FoundConsumed
as_consumed names count = tt

pub as_closed : (names : Names) (closed : Bool) → FoundClosed names closed
unfolding FoundClosed
as_closed names closed = tt

pub as_put : {T : Type 0} (names : Names) (ticket : ℕ) (waker : T) → WasPut names ticket waker
unfolding WasPut
as_put names ticket waker = tt

pub as_taken_back : {T : Type 0} (names : Names) (waits : Bool) (tickets : ℕ) (waker : Option T)
    → WasTakenBack names waits tickets waker
unfolding WasTakenBack
as_taken_back names waits tickets waker = tt

pub as_taken : {T : Type 0} (names : Names) (old new : ℕ) (waker : Option T)
    → WasTaken names old new waker
unfolding WasTaken
as_taken names old new waker = tt

pub as_gone : (names : Names) (gone : ℕ) → FoundGone names gone
unfolding FoundGone
as_gone names gone = tt

pub as_lying : (names : Names) (for_reader is_found : Bool) → FoundLeft names for_reader is_found
unfolding FoundLeft
as_lying names for_reader is_found = tt
