-- A machine after one of its sides has moved, or a lent place was written: it is a machine again,
-- and which pipe it represents.
use Rattle.std.proofs.Common.{◌≡◌, ◌==◌, ◌+◌, ◌-◌, ◌*◌, ◌<◌, ◌≤◌, ℕ, List, ◌++◌, take, drop, length, min, false, inl, inr, refl, sym, ap, ◌∙◌, arith, length-take-le}
use Rattle.std.proofs.lemmas.Grind.{common_steps}
use Rattle.std.proofs.lemmas.List.{drop-take, drop-drop, take-take, drop_at}
use Rattle.std.proofs.lemmas.Bool.{cases_lt}
use Rattle.std.proofs.Math.Seq.{take-append-add}
use Rattle.std.proofs.lemmas.Bool.Decides.{nat_tests}
use Rattle.piper_machine.specs.Types.{OpenCall, SourceAct, Destination, ReadPoint, WritePoint, IndexLoaded as index_loaded}
use Rattle.piper_protocol.specs.Index.{distance, offset_of, advanced}
use Rattle.piper_machine.specs.Places.{places_left}
use Rattle.piper_machine.specs.Lend.{Lendable, lend_limit}
use Rattle.piper_machine.specs.Move.{published, consumed}
use Rattle.piper_protocol.specs.Table.{write_after}
use Rattle.piper_machine.specs.Side.{Reading, Writing, known_of, room_of, left_of, lend_length}
use Rattle.piper_machine.specs.Buffer.{between, written}
use Rattle.piper_machine.specs.Machine.{pipe_of, IsMachine}
use Rattle.piper_machine.specs.declared.machine.Machine.TheInside.{Inside}
use Rattle.piper_machine.proofs.Indices.{distance-advanced_from, offset_of-advanced, place_below, offset_of_low}
use Rattle.piper_machine.proofs.Between.{between-advanced_tail, between-advanced_head, between-written, between-set}
use Rattle.piper_machine.proofs.Ring.{slice-set}
use Rattle.std.proofs.Math.ListN.{set}
use Rattle.piper_machine.proofs.Soundness.{sound, some_lent, tail_below, length-unread, end_place-of, place-same}

-- the reader has seen where the tail is
module _ (m : Inside) (i : IsMachine m) (r : Reading) (point : ReadPoint) (call : OpenCall) (destination : Destination) (is : r ≡ record m.read { tail = m.write.tail; point = point }) where
  pub tail_seen-view : let p = pipe_of m in pipe_of (record m { read = r; reader_call = call; destination = destination }) ≡ record p { known = length p.unread; reader = point; reader_call = call; destination = destination }
  tail_seen-view = rw is (let long = length-unread m i in cc)

-- the writer has seen where the head is
module _ (m : Inside) (i : IsMachine m) (w : Writing) (point : WritePoint) (call : OpenCall) (acts : List SourceAct) (is : w ≡ record m.write { head = m.read.head; point = point }) where
  pub head_seen-view : let p = pipe_of m in pipe_of (record m { write = w; writer_call = call; source = acts }) ≡ record p { room = p.capacity - length p.unread; writer = point; writer_call = call; source = acts }
  head_seen-view = rw is (let long = length-unread m i in let same = i.capacity in cc)

-- what the call table makes of it, in terms of the pipe
pub index_loaded-next : (m : Inside) (i : IsMachine m) → let p = pipe_of m in
    write_after m.write.capacity (room_of m.write) m.write.point (index_loaded (m.write.capacity - distance m.write.capacity m.read.head m.write.tail == 0))
    ≡ write_after p.capacity p.room p.writer (index_loaded (p.capacity - length p.unread == 0))
index_loaded-next m i =
    ap (λ capacity. write_after capacity (room_of m.write) m.write.point (index_loaded (capacity - distance capacity m.read.head m.write.tail == 0))) i.capacity
    ∙ ap (λ count. write_after m.read.capacity (room_of m.write) m.write.point (index_loaded (m.read.capacity - count == 0))) (sym (length-unread m i))

-- bytes in one piece were passed by the reader
module _ (m : Inside) (i : IsMachine m) (n : ℕ) (r : Reading) (point : ReadPoint) (call : OpenCall) (destination : Destination) (is : r ≡ record m.read { head = advanced m.read.capacity m.read.head n; point = point }) (within : n ≤ known_of m.read) (flat : offset_of m.read.capacity m.read.head + n ≤ m.read.capacity) where
  known_left : distance m.read.capacity (advanced m.read.capacity m.read.head n) m.read.tail ≡ known_of m.read - n
  known_left = distance-advanced_from m.read.capacity m.read.head m.read.tail n i.reading.head i.reading.tail within i.reading.known flat i.reading.capacity.0

  pub consumed-view : pipe_of (record m { read = r; reader_call = call; destination = destination }) ≡ record (consumed n (pipe_of m)) { reader = point; reader_call = call; destination = destination }
  consumed-view =
      let bytes = between-advanced_head m.read.capacity m.read.head m.write.tail m.bytes.items i.bytes i.reading.head (tail_below m i) i.unread n (omega (arith, i.known)) flat i.reading.capacity.0 in
      let place = offset_of-advanced m.read.capacity m.read.head n i.reading.head flat i.reading.capacity.0 in
      let known = known_left in
      rw is (cc)

-- the writer's own bound lies within the bounds of lending
pub lend_length-Lendable : (m : Inside) → IsMachine m → (most : ℕ) → Lendable most (pipe_of m) (lend_length most m.write)
lend_length-Lendable m i most =
    let e = end_place-of m i in
    let same = place-same m i in
    let left : places_left (pipe_of m) ≡ left_of m.write = omega (arith, i.capacity) in
    let enough : (pipe_of m).is_shut ≡ false → min 4096 (lend_limit most (pipe_of m)) ≤ lend_length most m.write = λ is_open. rw (left, is_open) (omega arith) in
    record {
      at_most = grind (arith, nat_tests, left);
      at_least = enough;
      some = λ is_open asked known. some_lent most (pipe_of m) (lend_length most m.write) (sound m i (pipe_of m) refl) asked known (enough is_open);
      shut = λ is_shut. rw is_shut refl;
    }

-- what is left of a slice after its first n bytes
rest_at : (c t l n : ℕ) (xs : List ℕ) → t < 2 * c → 1 ≤ c → offset_of c t + l ≤ c → n ≤ l → take (l - n) (drop (offset_of c (advanced c t n)) xs) ≡ drop n (take l (drop (offset_of c t) xs))
rest_at c t l n xs tail some fits within =
    let k = offset_of c t in
    let there = offset_of-advanced c t n tail (omega arith) some in
    let whole : n + (l - n) ≡ l = omega arith in
    let rest : drop n (take l (drop k xs)) ≡ take (l - n) (drop (k + n) xs) = ap (λ j. drop n (take j (drop k xs))) (sym whole) ∙ drop-take n (l - n) (drop k xs) ∙ ap (take (l - n)) (drop-drop n k xs) in
    elim (cases_lt (k + n) c) [
      | inl low ↦ ap (λ j. take (l - n) (drop j xs)) (there ∙ offset_of_low c (k + n) low) ∙ sym rest
      | inr high ↦ ap (λ j. take j (drop (offset_of c (advanced c t n)) xs)) (let none : l - n ≡ 0 = omega arith in none) ∙ sym (rest ∙ ap (λ j. take j (drop (k + n) xs)) (let none : l - n ≡ 0 = omega arith in none))
    ]

-- what is in a slice whose front was written
front_written : (k l : ℕ) (xs ys : List ℕ) → k + l ≤ length xs → length ys ≤ l → take l (drop k (written xs k ys)) ≡ ys ++ drop (length ys) (take l (drop k xs))
front_written k l xs ys fits within =
    let long = length-take-le k xs (omega arith) in
    let rest : l ≡ length ys + (l - length ys) = omega arith in
    ap (take l) (drop_at (take k xs) (ys ++ drop (k + length ys) xs) k long)
    ∙ ap (λ j. take j (ys ++ drop (k + length ys) xs)) rest
    ∙ take-append-add ys (drop (k + length ys) xs) (l - length ys)
    ∙ ap (λ zs. ys ++ zs) (ap (take (l - length ys)) (sym (drop-drop (length ys) k xs)) ∙ sym (drop-take (length ys) (l - length ys) (drop k xs)) ∙ ap (λ j. drop (length ys) (take j (drop k xs))) (sym rest))

-- the first n lent places were passed by the writer
module _ (m : Inside) (i : IsMachine m) (n : ℕ) (w : Writing) (point : WritePoint) (call : OpenCall) (acts : List SourceAct) (is : w ≡ record m.write { tail = advanced m.write.capacity m.write.tail n; lent = m.write.lent - n; point = point }) (within : n ≤ m.write.lent) where
  flat : offset_of m.read.capacity m.write.tail + n ≤ m.read.capacity
  flat = omega (arith, i.writing.lent_place, place_below m.write.capacity m.write.tail i.writing.tail, place-same m i, i.capacity)

  room_left : room_of (record m.write { tail = advanced m.write.capacity m.write.tail n; lent = m.write.lent - n }) ≡ room_of m.write - n
  room_left = grind (arith, common_steps)

  unread_longer : between m.read.capacity m.read.head (advanced m.read.capacity m.write.tail n) m.bytes.items ≡ between m.read.capacity m.read.head m.write.tail m.bytes.items ++ take n (drop (offset_of m.read.capacity m.write.tail) m.bytes.items)
  unread_longer = between-advanced_tail m.read.capacity m.read.head m.write.tail m.bytes.items i.bytes i.reading.head (tail_below m i) i.unread n (omega (arith, i.room, i.writing.lent_room, i.capacity, i.writing.within)) flat i.reading.capacity.0

  front_of_lent : take n (take m.write.lent (drop (offset_of m.write.capacity m.write.tail) m.bytes.items)) ≡ take n (drop (offset_of m.read.capacity m.write.tail) m.bytes.items)
  front_of_lent = take-take n m.write.lent _ within ∙ ap (λ k. take n (drop k m.bytes.items)) (place-same m i)

  rest_of_lent : take (m.write.lent - n) (drop (offset_of m.write.capacity (advanced m.write.capacity m.write.tail n)) m.bytes.items) ≡ drop n (take m.write.lent (drop (offset_of m.write.capacity m.write.tail) m.bytes.items))
  rest_of_lent = rest_at m.write.capacity m.write.tail m.write.lent n m.bytes.items i.writing.tail i.writing.capacity.0 (omega (arith, i.writing.lent_place, place_below m.write.capacity m.write.tail i.writing.tail)) within

  pub published-view : pipe_of (record m { write = w; writer_call = call; source = acts }) ≡ record (published n (pipe_of m)) { writer = point; writer_call = call; source = acts }
  published-view =
      let same = i.capacity in
      let unread = unread_longer in
      let front = front_of_lent in
      let rest = rest_of_lent in
      let room = room_left in
      rw is (cc)

-- bytes were written into the front of what is lent
module _ (m : Inside) (i : IsMachine m) (ys : List ℕ) (within : length ys ≤ m.write.lent) where
  pub unread-written : between m.read.capacity m.read.head m.write.tail (written m.bytes.items (offset_of m.write.capacity m.write.tail) ys) ≡ between m.read.capacity m.read.head m.write.tail m.bytes.items
  unread-written =
      let fits = place_below m.write.capacity m.write.tail i.writing.tail in
      let same = place-same m i in
      ap (λ k. between m.read.capacity m.read.head m.write.tail (written m.bytes.items k ys)) (same ∙ omega arith)
      ∙ between-written m.read.capacity m.read.head m.write.tail m.bytes.items i.bytes i.reading.head (tail_below m i) i.unread 0 ys (omega (arith, i.room, i.writing.lent_room, i.capacity, i.writing.within)) (omega (arith, i.writing.lent_place, i.capacity))

  pub lent-written : take m.write.lent (drop (offset_of m.write.capacity m.write.tail) (written m.bytes.items (offset_of m.write.capacity m.write.tail) ys)) ≡ ys ++ drop (length ys) (take m.write.lent (drop (offset_of m.write.capacity m.write.tail) m.bytes.items))
  lent-written = front_written (offset_of m.write.capacity m.write.tail) m.write.lent m.bytes.items ys (omega (arith, i.bytes, i.capacity, i.writing.lent_place, place_below m.write.capacity m.write.tail i.writing.tail)) within

-- a byte was put into what is lent
module _ (m : Inside) (i : IsMachine m) (o b : ℕ) (within : o < m.write.lent) where
  pub unread-set : between m.read.capacity m.read.head m.write.tail (set m.bytes.items (offset_of m.write.capacity m.write.tail + o) b) ≡ between m.read.capacity m.read.head m.write.tail m.bytes.items
  unread-set =
      let fits = place_below m.write.capacity m.write.tail i.writing.tail in
      let same = place-same m i in
      ap (λ k. between m.read.capacity m.read.head m.write.tail (set m.bytes.items (k + o) b)) same
      ∙ between-set m.read.capacity m.read.head m.write.tail m.bytes.items i.bytes i.reading.head (tail_below m i) i.unread o b (omega (arith, i.room, i.writing.lent_room, i.capacity, i.writing.within)) (omega (arith, i.writing.lent_place, i.capacity))

  pub lent-set : take m.write.lent (drop (offset_of m.write.capacity m.write.tail) (set m.bytes.items (offset_of m.write.capacity m.write.tail + o) b)) ≡ set (take m.write.lent (drop (offset_of m.write.capacity m.write.tail) m.bytes.items)) o b
  lent-set = slice-set (offset_of m.write.capacity m.write.tail) m.write.lent o m.bytes.items b (omega (arith, i.bytes, i.capacity, i.writing.lent_place, place_below m.write.capacity m.write.tail i.writing.tail)) within
