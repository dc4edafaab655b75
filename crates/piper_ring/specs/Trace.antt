-- The ring's copy of what both sides share, and the list of all accesses that led to it. Each word of
-- the ring has a name under which the side of the list and the side of the word agree on what it is.
use Rattle.std.specs.Prelude.{◌≡◌, ◌⊎◌, ℕ, Bool, true, false, List, Option, slice_index, refl}
use mathlib.Core.Logic.{inl, inr}
use Rattle.std.specs.Coded.{Coded, code_by, coded×, coded⊎, coded_list, coded_option, coded_ℕ, coded_bool}
use base.Fml.{Fml, ftrue, fsep, fex, fauth, fobs}
use Rattle.piper_protocol.specs.declared.table.Side.{Side}
use Rattle.piper_protocol.specs.declared.table.Side.TheVariants.{Reader, Writer}
use Rattle.piper_protocol.specs.OneList.{Access, By, Words, AreInOrder, did_by, words_of, loaded_head, loaded_tail, loaded_closed, stored_head, stored_tail, stored_closed, loaded_slot, swapped}
use Rattle.piper_ring.specs.Places.{fact}

-- the side that waits in the reader's slot, and the one that waits in the writer's
abbrev pub side_of : Bool → Side
side_of true = Reader
side_of false = Writer

abbrev reads_of : Side → Bool
reads_of Reader = true
reads_of Writer = false

-- an access as a sum

abbrev Swap : Type 0
Swap = Bool × (Option ℕ × Option ℕ)

abbrev Sum : Type 0
Sum = ℕ ⊎ (ℕ ⊎ (Bool ⊎ (List ℕ ⊎ (List ℕ ⊎ (Bool ⊎ ((Bool × Bool) ⊎ Swap))))))

abbrev sum : Access → Sum
sum (loaded_head n) = inl n
sum (loaded_tail n) = inr (inl n)
sum (loaded_closed b) = inr (inr (inl b))
sum (stored_head xs) = inr (inr (inr (inl xs)))
sum (stored_tail xs) = inr (inr (inr (inr (inl xs))))
sum stored_closed = inr (inr (inr (inr (inr (inl true)))))
sum (loaded_slot side b) = inr (inr (inr (inr (inr (inr (inl (reads_of side, b)))))))
sum (swapped side old left) = inr (inr (inr (inr (inr (inr (inr (reads_of side, (old, left))))))))

abbrev of_sum : Sum → Access
of_sum (inl n) = loaded_head n
of_sum (inr (inl n)) = loaded_tail n
of_sum (inr (inr (inl b))) = loaded_closed b
of_sum (inr (inr (inr (inl xs)))) = stored_head xs
of_sum (inr (inr (inr (inr (inl xs))))) = stored_tail xs
of_sum (inr (inr (inr (inr (inr (inl u)))))) = stored_closed
of_sum (inr (inr (inr (inr (inr (inr (inl p))))))) = loaded_slot (side_of p.0) p.1
of_sum (inr (inr (inr (inr (inr (inr (inr p))))))) = swapped (side_of p.0) p.1.0 p.1.1

pub of_sums : (a : Access) → of_sum (sum a) ≡ a
of_sums (loaded_head n) = refl
of_sums (loaded_tail n) = refl
of_sums (loaded_closed b) = refl
of_sums (stored_head xs) = refl
of_sums (stored_tail xs) = refl
of_sums stored_closed = refl
of_sums (loaded_slot Reader b) = refl
of_sums (loaded_slot Writer b) = refl
of_sums (swapped Reader old left) = refl
of_sums (swapped Writer old left) = refl

abbrev pub access_code : Coded (List Access)
access_code =
    coded_list
    (code_by Sum
    (coded⊎ coded_ℕ
    (coded⊎ coded_ℕ
    (coded⊎ coded_bool
    (coded⊎ (coded_list coded_ℕ)
    (coded⊎ (coded_list coded_ℕ)
    (coded⊎ coded_bool
    (coded⊎ (coded× coded_bool coded_bool)
    (coded× coded_bool (coded× (coded_option coded_ℕ) (coded_option coded_ℕ))))))))))
    sum of_sum of_sums)

abbrev pub bytes_code : Coded (List ℕ)
bytes_code = coded_list coded_ℕ

abbrev pub ticket_code : Coded (Option ℕ)
ticket_code = coded_option coded_ℕ

-- the names are those of the head, of the tail, of closed and of both slots, the reader's first, and of
-- what the reader and the writer did
module _ (names : List ℕ) where
  abbrev pub head_name : ℕ
  head_name = slice_index names 0

  abbrev pub tail_name : ℕ
  tail_name = slice_index names 1

  abbrev pub closed_name : ℕ
  closed_name = slice_index names 2

  abbrev pub slot_name : Bool → ℕ
  slot_name true = slice_index names 3
  slot_name false = slice_index names 4

  abbrev pub did_name : Bool → ℕ
  did_name true = slice_index names 5
  did_name false = slice_index names 6

  -- the right of a side to what it did, if that is kept
  abbrev pub did_owns : Bool → Bool → List Access → Fml
  did_owns true reads accesses = fobs (did_name reads) (access_code.code accesses)
  did_owns false reads accesses = ftrue

  abbrev pub mirrors : Words → Fml
  mirrors s =
      fsep (fauth head_name (coded_ℕ.code s.head))
      (fsep (fauth tail_name (bytes_code.code s.sent))
      (fsep (fauth closed_name (coded_bool.code s.is_closed))
      (fsep (fauth (slot_name true) (ticket_code.code s.reader_slot))
      (fauth (slot_name false) (ticket_code.code s.writer_slot)))))

  abbrev pub sides : List (By Access) → Fml
  sides turns =
      fsep (fauth (did_name true) (access_code.code (did_by Reader turns)))
      (fauth (did_name false) (access_code.code (did_by Writer turns)))

  -- the words are as these accesses left them
  abbrev pub traced : List (By Access) → Fml
  traced turns =
      fsep (fact (AreInOrder turns)) (fsep (sides turns) (mirrors (words_of turns)))

  abbrev pub trace : Fml
  trace = fex (List (By Access)) traced
