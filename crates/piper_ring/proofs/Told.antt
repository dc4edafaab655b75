-- A note that is true keeps the log true.
use Rattle.std.proofs.Common.{◌≡◌, ℕ, ◌+◌, ◌-◌, ◌≤◌, ◌%◌, true≢false, sym, min, nat_le, if◌then◌else◌, ap, Bool, true, false, not, List, [], ◌∷◌, length, Option, None, refl, arith}
use Rattle.std.proofs.lemmas.Bool.Decides.{nat_tests}
use Rattle.piper_protocol.specs.Lines.{Line, access, action, comes_to, met, note}
use Rattle.piper_protocol.specs.OneList.{Access, is_same, loaded_slot, swapped}
use Rattle.piper_protocol.specs.Told.{are_told, begins, both, is_made, is_settled, lendable_in, may_draw, moved_in, rests, seen_in, shut_in, waits_in}
use Rattle.piper_protocol.specs.declared.table.Action.{Action}
use Rattle.piper_ring.proofs.Kit.{Found, Point, Reader, Writer, slot_of as offset_of, ReadView, in_one_piece, IsBounded, WriteView, lendable, side_of}
use Rattle.piper_protocol.specs.declared.table.Side.{Side}
use Rattle.piper_ring.specs.Log.{IsLoadedIn, IsToldIn, MayPassIn, as_is}
use Rattle.piper_protocol.specs.declared.log.Note.{Note}
use Rattle.piper_protocol.specs.declared.log.Note.TheVariants.{Began, ClosedLoaded, Drew, Made, Passed, Told}

module _ (capacity : ℕ) (own : Side) where
  pub begun_true : (first : Point) (lines : List Line) → begins capacity own first lines ≡ true
      → are_told capacity own (note (Began first) ∷ lines) ≡ are_told capacity own lines
  unfolding are_told
  begun_true first lines may = rw may refl

  pub drew_true : (is_drawn : Bool) (lines : List Line)
      → may_draw (comes_to lines).point lines ≡ true
      → are_told capacity own (note (Drew is_drawn) ∷ lines) ≡ are_told capacity own lines
  unfolding are_told
  drew_true is_drawn lines may = rw may refl

  pub made_true : (it : Action) (said : Found) (lines : List Line)
      → (action (comes_to lines).point ≡ it) × (is_made capacity own lines it said ≡ true)
      → are_told capacity own (note (Made said) ∷ lines) ≡ are_told capacity own lines
  unfolding are_told
  made_true it said lines is = rw (is.0, is.1) refl

  pub told_true : (it : Action) (said : Found) (lines : List Line)
      → IsToldIn capacity own it said lines
      → are_told capacity own (note (Told said) ∷ lines) ≡ are_told capacity own lines
  unfolding are_told
  told_true it said [] is = absurd is
  told_true it said (access a ∷ before) is = rw (is.0, is.1) refl
  told_true it said (note other ∷ before) is = absurd is
  told_true it said (met count ∷ before) is = absurd is

  pub passed_true : (it : Action) (lines : List Line) → MayPassIn own it lines
      → are_told capacity own (note Passed ∷ lines) ≡ are_told capacity own lines
  unfolding are_told
  passed_true it [] is = absurd is
  passed_true it (access a ∷ before) is = rw (is.0, is.1) refl
  passed_true it (note other ∷ before) is = absurd is
  passed_true it (met count ∷ before) is = absurd is

  pub closed_loaded_true : (none is_closed : Bool) (lines : List Line)
      → IsLoadedIn capacity own none is_closed lines
      → are_told capacity own (note (ClosedLoaded none is_closed) ∷ lines)
      ≡ are_told capacity own lines
  unfolding are_told
  closed_loaded_true none is_closed [] is = absurd is
  closed_loaded_true none is_closed (access a ∷ before) is = rw (is.0, is.1.0, is.1.1) refl
  closed_loaded_true none is_closed (note other ∷ before) is = absurd is
  closed_loaded_true none is_closed (met count ∷ before) is = absurd is

-- what the notes of accesses say

own_there : (b reads : Bool) → both (not (is_same (side_of reads) (side_of reads))) b ≡ false
own_there b true = refl
own_there b false = refl

other_there : (b reads : Bool)
    → both (not (is_same (side_of (not reads)) (side_of reads))) b ≡ b
other_there b true = refl
other_there b false = refl

-- whether a side's waker may be in its slot, once its own slot was loaded or emptied, or the other's

module _ (reads slot : Bool) (lines : List Line) where
  pub own_loaded : (is_filled : Bool) → slot ≡ reads → waits_in (side_of reads) lines ≡ true
      → waits_in (side_of reads) (access (loaded_slot (side_of slot) is_filled) ∷ lines) ≡ is_filled
  unfolding waits_in
  own_loaded true is waits = waits
  own_loaded false is waits = rw is (own_there _ reads)

  pub other_loaded : (is_filled : Bool) → slot ≡ not reads
      → waits_in (side_of reads) (access (loaded_slot (side_of slot) is_filled) ∷ lines)
      ≡ waits_in (side_of reads) lines
  unfolding waits_in
  other_loaded true is = refl
  other_loaded false is = rw is (other_there _ reads)

  pub other_taken : (old : Option ℕ) → slot ≡ not reads
      → waits_in (side_of reads) (access (swapped (side_of slot) old None) ∷ lines)
      ≡ waits_in (side_of reads) lines
  unfolding waits_in
  other_taken old is = rw is (other_there _ reads)

pub note_waits : (own : Side) (said : Note) (lines : List Line)
    → waits_in own (note said ∷ lines) ≡ waits_in own lines
unfolding waits_in
note_waits own said lines = refl

pub access_told : (capacity : ℕ) (own : Side) (a : Access) (lines : List Line)
    → are_told capacity own (access a ∷ lines) ≡ are_told capacity own lines
unfolding are_told
access_told capacity own a lines = refl

-- how much may be shown or lent, as the log has it and as the end's view has it

module _ (capacity : ℕ) (lines : List Line) where
  pub shown_is : (r : ReadView) → r.capacity ≡ capacity
      → seen_in lines ≡ as_is (length r.taken + length r.known) → moved_in lines ≡ r.taken
      → shut_in lines ≡ as_is false → lendable_in capacity Reader lines ≡ in_one_piece r
  unfolding as_is offset_of
  shown_is r same seen moved open_still =
      rw (seen, moved, open_still, same) (ap (λ (n : ℕ). min n (capacity - length r.taken % capacity)) (omega arith))

  pub lent_is : (w : WriteView) → IsBounded w → w.capacity ≡ capacity
      → seen_in lines ≡ as_is (length w.sent + w.room - w.capacity) → moved_in lines ≡ w.sent
      → shut_in lines ≡ as_is w.shut → lendable_in capacity Writer lines ≡ lendable w
  unfolding as_is offset_of
  lent_is w bounds same seen moved shut =
      rw (seen, moved, shut, same) (ap (λ (n : ℕ). if w.shut then 0 else min n (capacity - length w.sent % capacity)) (omega (arith, bounds.1, bounds.2, same)))

pub is_within : (n most : ℕ) → n ≤ most → nat_le n most ≡ true
is_within n most le = grind (arith, nat_tests)

pub rests_settled : (lines : List Line) → rests (comes_to lines) ≡ true → is_settled lines ≡ true
rests_settled [] rest = refl
rests_settled (access a ∷ before) rest = absurd (true≢false (sym rest))
rests_settled (note said ∷ before) rest = refl
rests_settled (met count ∷ before) rest = refl
