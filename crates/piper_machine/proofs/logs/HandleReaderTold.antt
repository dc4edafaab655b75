-- Where an access of the reader leads, which says what it found.
use Rattle.std.proofs.Common.{◌≡◌, ℕ, ◌+◌, ◌-◌, ◌%◌, ◌≤◌, min, List, ◌∷◌, length, true, false, refl, sym, ap, ◌∙◌, arith, length-append}
use Rattle.piper_machine.specs.Types.{Action, AfterRead, Found, Purpose, ReadPoint, Reader}
use Rattle.piper_protocol.specs.declared.log.Note.{Note}
use Rattle.piper_protocol.specs.declared.table.Point.{Point}
use Rattle.piper_protocol.specs.Index.{offset_of}
use Rattle.piper_protocol.specs.Lines as handle
use Rattle.piper_protocol.specs.OneList as shared
use Rattle.piper_protocol.specs.Table.{read_action}
use Rattle.piper_protocol.specs.Told.{fits, moved_in, piece_in, seen_in, tickets_in, waits_in}
use Rattle.piper_machine.specs.logs.Line.{stored_head}
use Rattle.piper_machine.specs.logs.Listed.{line_of}
use Rattle.piper_machine.specs.logs.OfHandles.{given_by}
use Rattle.piper_machine.specs.logs.Reading.{ReaderAt}
use Rattle.piper_machine.proofs.logs.HandleCalls.{Counted, equal-is, of-own-length, place-after}
use Rattle.piper_machine.proofs.logs.HandleReader.{Follows, IsAt, at, row, steps}

module _ (capacity : ℕ) (some : 1 ≤ capacity) where
  module _ (r : ReaderAt) (before : List handle.Line) (given : List ℕ) where
    pub pieces : Counted capacity Reader before r.head r.tail r.start r.may_wait → min (r.tail - r.head) (capacity - r.start) ≡ piece_in capacity Reader before
    pieces counted = let moved = counted.moves in let seen = counted.sees in let place = counted.lies in cc

    abbrev ToldAt : ReadPoint → shared.Access → Found → Type 0
    ToldAt point a f =
        (handle.comes_to before).point ≡ Point.Reader point → fits capacity Reader before (read_action point) a f ≡ true → IsAt capacity before (given_by given a) (at point r)
        → Follows capacity (handle.note (Note.Told f) ∷ handle.access a ∷ before) given (line_of a) (row point f) (at point r)

    told-take : (l : Purpose) (a : shared.Access) (f : Found) → ToldAt (ReadPoint.LookTake l) a f
    unfolding moved_in seen_in waits_in tickets_in
    told-take l (shared.loaded_slot side is_filled) f = grind arith
    told-take l (shared.swapped side old left) f = grind arith
    told-take l a f = grind arith

    told-store : (n : ℕ) (next : AfterRead) (a : shared.Access) (f : Found) → ToldAt (ReadPoint.StoreHead n next) a f
    unfolding moved_in seen_in waits_in tickets_in
    told-store n next (shared.stored_head bytes) Found.Nothing = λ e fit is.
        let same : length bytes ≡ n = equal-is (length bytes) n fit in
        let start : r.start ≡ r.head % capacity = is.counted.lies in (
          (ap Action.StoreHead (sym same), sym (is.stores.1 ∙ of-own-length n bytes fit)),
          λ alive. steps capacity _ given (stored_head bytes) (ReadPoint.StoreHead n next) Found.Nothing r (λ x. absurd cc) refl
              (record {
                moves = ap (λ (m : ℕ). m + length bytes) is.counted.moves ∙ sym (length-append (moved_in before) bytes);
                sees = is.counted.sees;
                lies = ap (λ (m : ℕ). offset_of capacity (m + length bytes)) start ∙ place-after capacity r.head (length bytes) some (omega (arith, is.stores.0));
                may_wait = is.counted.may_wait;
              })
              is.calls,
        )
    told-store n next a f = λ e fit is. absurd (let no : false ≡ true = fit in cc)

    -- an access, with the note that says what it found
    pub told : (point : ReadPoint) (a : shared.Access) (f : Found) → ToldAt point a f
    unfolding moved_in seen_in waits_in tickets_in
    told (ReadPoint.LookTake l) a f = told-take l a f
    told (ReadPoint.StoreHead n next) a f = told-store n next a f
    told point a f = grind arith
