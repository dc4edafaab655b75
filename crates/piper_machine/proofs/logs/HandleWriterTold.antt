-- Where an access of the writer leads, which says what it found.
use Rattle.std.proofs.Common.{◌≡◌, ℕ, ◌+◌, ◌-◌, ◌%◌, ◌≤◌, List, ◌∷◌, length, true, false, refl, sym, ap, subst, ◌∙◌, arith, length-append}
use Rattle.piper_machine.specs.Types.{Action, AfterWrite, Found, Purpose, WritePoint, Writer}
use Rattle.piper_protocol.specs.declared.log.Note.{Note}
use Rattle.piper_protocol.specs.declared.table.Point.{Point}
use Rattle.piper_protocol.specs.Index.{offset_of}
use Rattle.piper_protocol.specs.Lines as handle
use Rattle.piper_protocol.specs.OneList as shared
use Rattle.piper_protocol.specs.Table.{write_action}
use Rattle.piper_protocol.specs.Told.{fits, moved_in, piece_in, seen_in, shut_in, tickets_in, waits_in}
use Rattle.piper_machine.specs.logs.Line.{stored_tail}
use Rattle.piper_machine.specs.logs.Listed.{line_of}
use Rattle.piper_machine.specs.logs.OfHandles.{given_by}
use Rattle.piper_machine.specs.logs.Writing.{WriterAt, contiguous}
use Rattle.piper_machine.proofs.logs.HandleCalls.{Counted, equal-is, of-own-length, place-after}
use Rattle.piper_machine.proofs.logs.HandleWriter.{Follows, IsAt, at, row, steps}

module _ (capacity : ℕ) (some : 1 ≤ capacity) where
  module _ (w : WriterAt) (before : List handle.Line) (given : List ℕ) where
    pub pieces : Counted capacity Writer before w.tail w.head w.end w.may_wait → contiguous capacity w ≡ piece_in capacity Writer before
    pieces counted = let moves_so = counted.moves in let sees_so = counted.sees in let lies_so = counted.lies in cc

    pub lies-after : (end tail n : ℕ) → end ≡ tail % capacity → n ≤ capacity - end → offset_of capacity (end + n) ≡ (tail + n) % capacity
    lies-after end tail n lies within = ap (λ (m : ℕ). offset_of capacity (m + n)) lies ∙ place-after capacity tail n some (omega (arith, within, lies))

    abbrev ToldAt : WritePoint → shared.Access → Found → Type 0
    ToldAt point a f =
        (handle.comes_to before).point ≡ Point.Writer point → fits capacity Writer before (write_action point) a f ≡ true → IsAt capacity before (given_by given a) (at point w)
        → Follows capacity (handle.note (Note.Told f) ∷ handle.access a ∷ before) given (line_of a) (row point f) (at point w)

    told-take : (l : Purpose) (a : shared.Access) (f : Found) → ToldAt (WritePoint.LookTake l) a f
    unfolding moved_in seen_in waits_in tickets_in shut_in
    told-take l (shared.loaded_slot side is_filled) f = grind arith
    told-take l (shared.swapped side old left) f = grind arith
    told-take l a f = grind arith

    told-store : (n : ℕ) (next : AfterWrite) (a : shared.Access) (f : Found) → ToldAt (WritePoint.StoreTail n next) a f
    unfolding moved_in seen_in waits_in tickets_in shut_in
    told-store n next (shared.stored_tail bytes) Found.Nothing = λ e fit is. (
      (ap Action.StoreTail (sym (equal-is (length bytes) n fit)), sym (is.stores.1 ∙ of-own-length n bytes fit)),
      λ alive. steps capacity _ given (stored_tail bytes) (WritePoint.StoreTail n next) Found.Nothing w refl refl
          (record {
            moves = ap (λ (m : ℕ). m + length bytes) is.counted.moves ∙ sym (length-append (moved_in before) bytes);
            sees = is.counted.sees;
            lies = lies-after w.end w.tail (length bytes) is.counted.lies (subst (λ (m : ℕ). m ≤ capacity - w.end) (sym (equal-is (length bytes) n fit)) is.stores.0);
            may_wait = is.counted.may_wait;
          }) is.shut is.calls,
    )
    told-store n next a f = λ e fit is. absurd (let no : false ≡ true = fit in cc)

    told-take-reader : (next : AfterWrite) (a : shared.Access) (f : Found) → ToldAt (WritePoint.TakeReader next) a f
    unfolding moved_in seen_in waits_in tickets_in shut_in
    told-take-reader next (shared.loaded_slot side is_filled) f = grind arith
    told-take-reader next (shared.swapped side old left) f = grind arith
    told-take-reader next a f = grind arith

    -- an access, with the note that says what it found
    pub told : (point : WritePoint) (a : shared.Access) (f : Found) → ToldAt point a f
    unfolding moved_in seen_in waits_in tickets_in shut_in
    told (WritePoint.LookTake l) a f = told-take l a f
    told (WritePoint.StoreTail n next) a f = told-store n next a f
    told (WritePoint.TakeReader next) a f = told-take-reader next a f
    told point a f = grind arith
