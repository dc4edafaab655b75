-- What is left of a piece once its front was consumed is in one piece still.
use Rattle.std.proofs.Common.{◌≡◌, ℕ, ◌+◌, ◌-◌, ◌<◌, ◌≤◌, ◌++◌, min, take, drop, length, length-append, length-take-le, length-drop, sym, ap, ◌∙◌, arith}
use native.Mathlib.Decide.{dec_le}
use Rattle.rtrb.specs.Fifo.{slot_of}
use Rattle.rtrb.proofs.Positions.{slot_small, slot_add}
use Rattle.piper.specs.ReadView.{ReadView, in_one_piece, read_place}

-- the place n bytes on, where the ring does not go round its end before it
place_on : (capacity m n : ℕ) → slot_of capacity m + n < capacity → slot_of capacity (m + n) ≡ slot_of capacity m + n
place_on capacity m n near = sym (slot_add capacity m n) ∙ slot_small capacity (slot_of capacity m + n) near

-- n bytes of a piece at the place s were consumed, and the next byte is at the place t
piece_on : (capacity known s n t : ℕ) → n ≤ min known (capacity - s) → (s + n < capacity → t ≡ s + n) → Dec (capacity ≤ s + n) → min known (capacity - s) - n ≤ min (known - n) (capacity - t)
piece_on capacity known s n t within near (yes round) = omega arith
piece_on capacity known s n t within near (no before) = let at : t ≡ s + n = near (omega arith) in omega arith

pub rest_in_one_piece : (a b : ReadView) (n : ℕ) → n ≤ in_one_piece a → b.capacity ≡ a.capacity → b.taken ≡ a.taken ++ take n a.known → b.known ≡ drop n a.known → in_one_piece a - n ≤ in_one_piece b
rest_in_one_piece a b n within capacity taken known =
    let few : n ≤ length a.known = omega arith in
    let count : length b.taken ≡ length a.taken + n = ap length taken ∙ length-append a.taken (take n a.known) ∙ ap (λ m. length a.taken + m) (length-take-le n a.known few) in
    let left : length b.known ≡ length a.known - n = ap length known ∙ length-drop n a.known in
    let next : read_place b ≡ slot_of a.capacity (length a.taken + n) = ap (λ c. slot_of c (length b.taken)) capacity ∙ ap (λ m. slot_of a.capacity m) count in
    let rest = piece_on a.capacity (length a.known) (read_place a) n (read_place b) within (λ near. next ∙ place_on a.capacity (length a.taken) n near) (dec_le a.capacity (read_place a + n)) in
    omega (arith, rest, left, capacity)
