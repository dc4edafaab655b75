-- A machine whose invariant holds represents a sound pipe.
use Rattle.std.proofs.Common.{◌≡◌, ◌+◌, ◌<◌, ◌≤◌, ◌*◌, ◌-◌, min, ℕ, take, drop, length, sym, ap, ◌∙◌, subst, arith}
use Rattle.std.proofs.lemmas.Grind.{common_steps}
use Rattle.piper_protocol.specs.Index.{distance, offset_of}
use Rattle.piper_machine.specs.Pipe.{Pipe}
use Rattle.std.proofs.lemmas.Bool.Decides.{nat_tests}
use Rattle.piper_machine.specs.Lend.{lend_limit}
use Rattle.piper_machine.specs.Places.{end_place}
use Rattle.piper_machine.specs.Sound.{IsSound}
use Rattle.piper_machine.specs.Machine.{pipe_of, IsMachine}
use Rattle.piper_machine.specs.declared.machine.Machine.TheInside.{Inside}
use Rattle.piper_machine.proofs.Indices.{offset_of-distance, place_below}
use Rattle.piper_machine.proofs.Between.{length-between}

module _ (m : Inside) (i : IsMachine m) where
  -- the writer's index in terms of the one capacity
  pub tail_below : m.write.tail < 2 * m.read.capacity
  tail_below = omega (arith, i.capacity, i.writing.tail)

  pub length-unread : length (pipe_of m).unread ≡ distance m.read.capacity m.read.head m.write.tail
  length-unread = length-between m.read.capacity m.read.head m.write.tail m.bytes.items i.bytes i.reading.head tail_below i.unread

  pub end_place-of : end_place (pipe_of m) ≡ offset_of m.read.capacity m.write.tail
  end_place-of =
      ap (λ n. offset_of m.read.capacity (offset_of m.read.capacity m.read.head + n)) length-unread
      ∙ sym (offset_of-distance m.read.capacity m.read.head m.write.tail i.reading.head tail_below i.unread)

  pub place-same : offset_of m.write.capacity m.write.tail ≡ offset_of m.read.capacity m.write.tail
  place-same = ap (λ n. offset_of n m.write.tail) i.capacity

  pub length-lent : length (pipe_of m).lent ≡ m.write.lent
  length-lent = grind (arith, common_steps)

  sound_of : IsSound (pipe_of m)
  sound_of =
      let long = length-unread in
      let lent = length-lent in
      let e = end_place-of in
      let same = place-same in
      let taken : distance m.write.capacity m.write.head m.write.tail ≤ m.write.capacity = i.writing.within in
      record {
        unread = omega (arith, i.unread);
        start = place_below m.read.capacity m.read.head i.reading.head;
        known = omega (arith, i.known);
        room = omega (arith, i.room, i.capacity, taken);
        lent_room = omega (arith, i.writing.lent_room);
        lent_place = rw e (omega (arith, i.writing.lent_place, i.capacity, same, lent));
        shut = λ is_shut. ap (λ n. take n (drop (offset_of m.write.capacity m.write.tail) m.bytes.items)) (i.writing.shut is_shut);
        closed = i.shut;
        head_store = i.reading.store;
        tail_store = omega (arith, i.writing.store);
      }

  pub sound : (p : Pipe) → pipe_of m ≡ p → IsSound p
  sound p e = subst IsSound e sound_of

pub place_left : (capacity place : ℕ) → place < 2 * capacity → 1 ≤ capacity - offset_of capacity place
place_left capacity place below = grind (arith, nat_tests)

-- of a sound pipe something is lent, wherever something is asked for and room is known
pub some_lent : (most : ℕ) (p : Pipe) (n : ℕ) → IsSound p → 1 ≤ most → 1 ≤ p.room → min 4096 (lend_limit most p) ≤ n → 1 ≤ n
some_lent most p n sound asked known least = grind arith
