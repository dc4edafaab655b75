-- What the parts of a writer's end say of its indices.
use Rattle.std.proofs.Common.{◌≡◌, ℕ, ◌+◌, ◌-◌, ◌≤◌, ◌⊎◌, inl, inr, ⊎_elim, eq-or-lt_of_le, Bool, true, false, if◌then◌else◌, length, min, arith, ◌<◌, sym, subst, ap, ◌∙◌}
use Rattle.piper_ring.proofs.Kit.{slot_add, slot_small, slot_turn, slot_of as offset_of, position_of, distance, lend_bound}
use Rattle.piper_protocol.specs.WriterIndices.{WriterIndices, room_in, left_in, lendable_in}
use Rattle.piper_ring.specs.WriteView.{IsBounded, IsWriteEnd, write_view_of}
use Rattle.piper_ring.specs.declared.ends.writer.WriteParts.{WriteParts}
use Rattle.piper_ring.proofs.Indices.{apart}

at_most : (b : Bool) (n : ℕ) → (if b then 0 else n) ≤ n
at_most false n = omega arith
at_most true n = omega arith

-- after n bytes of a piece, the rest of it is still in one piece
pub rest_of_piece : (c s n l : ℕ) → 0 < c → offset_of c s + l ≤ c → n ≤ l → offset_of c (s + n) + (l - n) ≤ c
rest_of_piece c s n l pos piece within =
    let most : offset_of c s + n ≤ c = omega (arith, piece, within) in
    ⊎_elim
    (λ all. let whole : offset_of c s + n ≡ 0 + c = omega (arith, all) in let turn : offset_of c (s + n) ≡ 0 = sym (slot_add c s n) ∙ ap (offset_of c) whole ∙ slot_turn c 0 ∙ slot_small c 0 pos in omega (arith, turn, all, piece, within))
    (λ less. let there : offset_of c (s + n) ≡ offset_of c s + n = sym (slot_add c s n) ∙ slot_small c _ less in omega (arith, there, piece, within))
    (eq-or-lt_of_le most)

-- what is lent is within what is asked for, the bound, the room, and the end of the memory
pub lends_within : (most : ℕ) (w : WriterIndices) (n : ℕ) → n ≡ lendable_in most w → n ≤ min (min most (lend_bound w.zeroed)) (min (room_in w) (left_in w))
lends_within most w n is = let top : ℕ = min (min most (lend_bound w.zeroed)) (min (room_in w) (left_in w)) in subst (λ (k : ℕ). k ≤ top) (sym is) (at_most w.is_shut top)

-- a pipe that the writer closed lends nothing, and any other all of that
pub lends_none : (most : ℕ) (w : WriterIndices) (n : ℕ) → n ≡ lendable_in most w → w.is_shut ≡ true → n ≡ 0
lends_none most w n is shut = is ∙ ap (λ (b : Bool). if b then 0 else min (min most (lend_bound w.zeroed)) (min (room_in w) (left_in w))) shut

pub lends_all : (most : ℕ) (w : WriterIndices) (n : ℕ) → n ≡ lendable_in most w → w.is_shut ≡ false → n ≡ min (min most (lend_bound w.zeroed)) (min (room_in w) (left_in w))
lends_all most w n is open_still = is ∙ ap (λ (b : Bool). if b then 0 else min (min most (lend_bound w.zeroed)) (min (room_in w) (left_in w))) open_still

module _ (e : WriteParts) (i : IsWriteEnd e) where
  -- all that was published is below the limit of the room
  pub sent_below : length e.seat.sent ≤ e.seat.limit
  sent_below = let r = e.room in let a : r.lent.first ≡ length e.seat.sent = i.placed.2 in let b : r.ready.first ≡ r.lent.first + length r.lent.bytes = i.room.0.chain.0 in let c : r.ready.first + length r.ready.bytes + r.blank.count ≡ r.later.first = i.room.0.chain.1 in
      let d : r.later.first + length r.later.bytes ≡ e.seat.limit = i.placed.3 in omega arith

  -- the room is what the end's two indices leave
  pub room_apart : room_in e.indices ≡ e.seat.limit - length e.seat.sent
  room_apart = let cap : ℕ = e.indices.capacity in let s : ℕ = length e.seat.sent in let below : s ≤ e.seat.limit = sent_below in let low : cap ≤ e.seat.limit = i.freed.0 in let near : e.seat.limit ≤ s + cap = i.freed.1 in
      let far : distance cap e.indices.head e.indices.tail ≡ s - (e.seat.limit - cap) = apart cap _ _ (e.seat.limit - cap) s (omega arith) (omega arith) i.cached.1 i.cached.0 in omega arith

  -- the distance to its tail of a head that was loaded is that of their counts
  pub head_apart : (h head : ℕ) → h ≤ length e.seat.sent → e.seat.limit ≤ h + e.seat.names.capacity
      → head ≡ position_of e.seat.names.capacity h → distance e.indices.capacity head e.indices.tail ≡ length e.seat.sent - h
  head_apart h head sent room is = let below : length e.seat.sent ≤ e.seat.limit = sent_below in
      apart _ _ _ h (length e.seat.sent) sent (omega (arith, i.fits.0, room, below)) (is ∙ ap (λ (n : ℕ). position_of n h) (sym i.fits.0)) i.cached.0

  -- all that was published or is lent is set, or all places are
  all_set : (length e.seat.sent + length e.room.lent.bytes ≤ e.indices.zeroed) ⊎ (e.indices.zeroed ≡ e.indices.capacity)
  all_set = let r = e.room in let zeroed : e.indices.zeroed ≡ r.blank.first = i.room.1 in let cap : r.lent.capacity ≡ e.indices.capacity = i.placed.1 ∙ sym i.fits.0 in
      let first : r.lent.first ≡ length e.seat.sent = i.placed.2 in let ready : r.ready.first ≡ r.lent.first + length r.lent.bytes = i.room.0.chain.0 in
      ⊎_elim (λ all. inr (zeroed ∙ all ∙ cap)) (λ less. let turn : r.ready.first + length r.ready.bytes ≡ r.blank.first = i.room.0.first_turn less in inl (omega arith)) (eq-or-lt_of_le i.room.0.zeroing.0)

  -- a pipe that is open lends all that is asked for and fits, or as much of it as may be set at once
  pub lends_most : (most n : ℕ) → n ≡ lendable_in most e.indices → e.indices.is_shut ≡ false
      → min (lend_bound (length e.seat.sent + length e.room.lent.bytes)) (min most (min (e.seat.limit - length e.seat.sent) (left_in e.indices))) ≤ n
  lends_most most n is open_still = let all = lends_all most e.indices n is open_still in let room = room_apart in let near : e.seat.limit ≤ length e.seat.sent + e.indices.capacity = i.freed.1 in
      ⊎_elim (λ set. omega arith) (λ whole. omega arith) all_set

  -- the capacity is the ring's, and the room ends at most a turn after what was published
  pub bounded : IsBounded (write_view_of e)
  bounded = let below : length e.seat.sent ≤ e.seat.limit = sent_below in let low = i.freed.0 in let near = i.freed.1 in (i.fits.0, omega (arith, below, low, near), omega (arith, below, low, near))
