-- One list of all accesses of what both sides share, the last first, in which each finds what the last
-- one before it left.
use Rattle.std.specs.Prelude.{◌≡◌, ⊤, ℕ, ◌+◌, List, [], ◌∷◌, ◌++◌, length, Bool, true, false, Option, None, is_some}
use Rattle.piper_protocol.specs.declared.table.Side.{Side}
use Rattle.piper_protocol.specs.declared.table.Side.TheVariants.{Reader, Writer}

-- heads and tails are counts of all the bytes that were consumed and published so far
pub data Access : Type 0 where
  loaded_head : ℕ → Access
  loaded_tail : ℕ → Access
  loaded_closed : Bool → Access
  -- the head went past these bytes, or the tail
  stored_head : List ℕ → Access
  stored_tail : List ℕ → Access
  stored_closed : Access
  -- the slot in which this side waits was loaded: a waker is in it, or none
  loaded_slot : Side → Bool → Access
  -- what this slot held was exchanged for something else: what was found, and what was left. A waker
  -- goes by the number of registrations of its side
  swapped : Side → Option ℕ → Option ℕ → Access

-- what both sides share
pub record Words : Type 0 where
  -- the bytes published, oldest first: the tail is their number
  pub sent : List ℕ
  pub head : ℕ
  pub is_closed : Bool
  -- the wakers in the slots
  pub reader_slot : Option ℕ
  pub writer_slot : Option ℕ

abbrev pub fresh_words : Words
fresh_words = record {
  sent = [];
  head = 0;
  is_closed = false;
  reader_slot = None;
  writer_slot = None;
}

abbrev pub slot_in : Side → Words → Option ℕ
slot_in Reader s = s.reader_slot
slot_in Writer s = s.writer_slot

abbrev pub with_slot : Side → Option ℕ → Words → Words
with_slot Reader waker s = record s { reader_slot = waker }
with_slot Writer waker s = record s { writer_slot = waker }

-- what an access leaves
abbrev pub words_after : Access → Words → Words
words_after (stored_head bytes) s = record s { head = s.head + length bytes }
words_after (stored_tail bytes) s = record s { sent = s.sent ++ bytes }
words_after stored_closed s = record s { is_closed = true }
words_after (swapped side old left) s = with_slot side left s
words_after access s = s

-- an access found what is there
abbrev pub FindsWords : Access → Words → Type 0
FindsWords (loaded_head count) s = (count ≡ s.head)
FindsWords (loaded_tail count) s = (count ≡ length s.sent)
FindsWords (loaded_closed is_closed) s = (is_closed ≡ s.is_closed)
FindsWords (loaded_slot side is_filled) s = (is_filled ≡ is_some (slot_in side s))
FindsWords (swapped side old left) s = (old ≡ slot_in side s)
FindsWords access s = ⊤

-- what a side did
pub data By (A : Type 0) : Type 0 where
  by : Side → A → By A

abbrev pub is_same : Side → Side → Bool
is_same Reader Reader = true
is_same Writer Writer = true
is_same side other = false

abbrev pub kept_if : {A : Type 0} → Bool → A → List A → List A
kept_if true a rest = a ∷ rest
kept_if false a rest = rest

-- of all that both did, what this side did
abbrev pub did_by : {A : Type 0} → Side → List (By A) → List A
did_by side [] = []
did_by side (by other a ∷ rest) = kept_if (is_same side other) a (did_by side rest)

abbrev pub words_of : List (By Access) → Words
words_of [] = fresh_words
words_of (by side access ∷ before) = words_after access (words_of before)

-- each finds what it is to find where the ones before it lead
abbrev pub AreInOrder : List (By Access) → Type 0
AreInOrder [] = ⊤
AreInOrder (by side access ∷ before) =
    FindsWords access (words_of before) × AreInOrder before

-- the accesses of both sides are what is left of one list, in which each finds what it is to find
abbrev pub AreOneList : List Access → List Access → Type 0
AreOneList reader writer =
    (turns : List (By Access)) × AreInOrder turns × (did_by Reader turns ≡ reader)
    × (did_by Writer turns ≡ writer)
