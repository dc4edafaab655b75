-- The log of a reader's handle is a list of runs of the call table.
use Rattle.std.proofs.Common.{◌≡◌, ℕ, suc, ◌-◌, ◌≤◌, ◌==◌, min, List, ◌∷◌, length, Bool, true, false, not, Option, None, refl, sym, ap, subst, ◌∙◌, arith, []}
use Rattle.std.proofs.Math.Nat.{zero-mod}
use Rattle.piper_machine.specs.Types.{AfterRead, Found, Polling, ReadPoint, Try, Reader, MOST_A_ROUND}
use Rattle.piper_protocol.specs.declared.log.Note.{Note}
use Rattle.piper_protocol.specs.declared.table.Point.{Point}
use Rattle.piper_protocol.specs.declared.table.Purpose.TheVariants.{Poll, Copy}
use Rattle.piper_protocol.specs.Lines as handle
use Rattle.piper_protocol.specs.OneList as shared
use Rattle.piper_protocol.specs.Table.{Next, read_action, reader_looks_for, reader_moved}
use Rattle.piper_protocol.specs.Told.{IsTrueLog, alike, begins as call_begins, fits, is_made, known_in, may_draw, may_empty, moved_in, passes, piece_in, reader_begins, rests, seen_in, shut_in, tickets_in, waits_in}
use Rattle.piper_machine.specs.logs.Line.{Line, began, met_tail, knew_empty, took, drew}
use Rattle.piper_machine.specs.logs.Listed.{line_of}
use Rattle.piper_machine.specs.logs.OfHandles.{given_by, line_made, lines_in, of_length, opening_at, reader_opening}
use Rattle.piper_machine.specs.logs.Reading.{AreReaderRuns, fresh_reader, IsReaderNext, MayTake, ReaderAt, reader_after, reader_begun, size_after}
use Rattle.piper_machine.proofs.logs.HandleLogs.{AreRuns, runs-of}
use Rattle.piper_machine.proofs.logs.HandleCalls.{Calls, Counted, first-of, kept, known_of, lent-within, moved-within, not-true, of-length, second-of, zero-is}
use Rattle.piper_machine.proofs.logs.HandleReader.{Arrives, Follows, IsAt, at, emptied, has-drawn, leads, moved, moved-stores, row, stage, steps, takes-within}
use Rattle.piper_machine.proofs.logs.HandleReaderTold.{pieces, told}

module _ (capacity : ℕ) (some : 1 ≤ capacity) where
  module _ (r : ReaderAt) (before : List handle.Line) (given : List ℕ) where
    -- an access that is no step of the table
    passed : (point : ReadPoint) (a : shared.Access) → (handle.comes_to before).point ≡ Point.Reader point → passes Reader before (read_action point) a ≡ true → IsAt capacity before (given_by given a) (at point r)
        → IsReaderNext capacity (line_of a) (at point r) × Arrives capacity (handle.note Note.Passed ∷ handle.access a ∷ before) given point (reader_after capacity (line_of a) (at point r))
    unfolding moved_in seen_in waits_in tickets_in
    passed point a e fit is = grind arith

    -- a step that is no access
    made : (point : ReadPoint) (f : Found) → (handle.comes_to before).point ≡ Point.Reader point → is_made capacity Reader before (read_action point) f ≡ true → IsAt capacity before given (at point r)
        → Follows capacity (handle.note (Note.Made f) ∷ before) given (line_made given before (read_action point) f) (row point f) (at point r)
    unfolding moved_in seen_in waits_in tickets_in
    made (ReadPoint.LookTake l) Found.Nothing e fit is =
        let first : may_empty Reader Reader before ≡ true = second-of (not (waits_in Reader before)) _ fit in (
          (
            refl,
            has-drawn l r.calling.draw before e first is.calls.1,
            is.counted.may_wait ∙ not-true (waits_in Reader before) (first-of (not (waits_in Reader before)) _ fit),
          ),
          λ alive. steps capacity _ given knew_empty (ReadPoint.LookTake l) Found.Nothing r (λ x. absurd cc) refl (kept _ _ before _ _ _ _ _ refl refl refl is.counted) (emptied _ _ _ l (is.calls.0, is.calls.2)),
        )
    made (ReadPoint.LookTake l) (Found.Waker false) e fit is =
        let first : may_empty Reader Reader before ≡ true = second-of (not (waits_in Reader before)) _ fit in (
          (
            refl,
            has-drawn l r.calling.draw before e first is.calls.1,
            is.counted.may_wait ∙ not-true (waits_in Reader before) (first-of (not (waits_in Reader before)) _ fit),
          ),
          λ alive. steps capacity _ given knew_empty (ReadPoint.LookTake l) (Found.Waker false) r (λ x. absurd cc) refl (kept _ _ before _ _ _ _ _ refl refl refl is.counted) (emptied _ _ _ l (is.calls.0, is.calls.2)),
        )
    made (ReadPoint.CallDestination form sum) (Found.Moved n) e fit is =
        let within = moved-within (shut_in before) MOST_A_ROUND n (piece_in capacity Reader before) fit in
        let shows : n ≤ min (r.tail - r.head) (capacity - r.start) = subst (λ (m : ℕ). n ≤ m) (sym (pieces capacity some r before given is.counted)) within.1 in
        let most : n ≤ MOST_A_ROUND = within.0 in
        let as_long : length (of_length n given) ≡ n = of-length n given in (
          (refl, subst (λ (size : Option ℕ). MayTake (min (min (r.tail - r.head) (capacity - r.start)) MOST_A_ROUND) size (length (of_length n given))) (sym is.calls) (takes-within n _ _ _ as_long shows most)),
          λ alive. leads capacity _ given (took (of_length n given)) (at (ReadPoint.CallDestination form sum) r) (row (ReadPoint.CallDestination form sum) (Found.Moved n))
              (ap (λ (m : ℕ). reader_moved (m == 0) m form sum) as_long)
              (kept _ _ before _ _ _ _ _ refl refl refl is.counted)
              (moved-stores capacity given (n == 0) n sum r.start form (omega (arith, shows)))
              (moved _ _ _ (n == 0) n sum form (ap (size_after (length (of_length n given))) is.calls)),
        )
    made point f e fit is = grind arith

    -- a copy draws
    draws : (point : ReadPoint) (is_drawn : Bool) → may_draw (Point.Reader point) before ≡ true → IsAt capacity before given (at point r)
        → IsReaderNext capacity (drew is_drawn) (at point r) × ((handle.drawn is_drawn (Point.Reader point) ≡ Point.Reader (ReadPoint.LookTake (Copy (Polling is_drawn)))) × IsAt capacity (handle.note (Note.Drew is_drawn) ∷ before) given (reader_after capacity (drew is_drawn) (at point r)))
    unfolding moved_in seen_in waits_in tickets_in
    draws point is_drawn may is = grind arith

    -- a call begins
    module _ (counted : Counted capacity Reader before r.head r.tail r.start r.may_wait) where
      abbrev Begins : ReadPoint → Type 0
      Begins first =
          let opening = reader_opening (suc (tickets_in before)) given first in
          IsReaderNext capacity (began opening) (at ReadPoint.Idle r) × Arrives capacity (handle.note (Note.Began (Point.Reader first)) ∷ before) given first (reader_begun opening (at ReadPoint.Idle r))

      begun-counts : (first : ReadPoint) → Counted capacity Reader (handle.note (Note.Began (Point.Reader first)) ∷ before) r.head r.tail r.start r.may_wait
      unfolding moved_in seen_in waits_in
      begun-counts first = kept _ _ before _ _ _ _ _ refl refl refl counted

      known-none : (b : Bool) → (known_in capacity Reader before == 0) ≡ b → (r.tail - r.head == 0) ≡ b
      known-none b e = ap (λ (n : ℕ). n == 0) (let moved = counted.moves in let seen = counted.sees in let same : r.tail - r.head ≡ known_in capacity Reader before = cc in same) ∙ e

      begins : (first : ReadPoint) → reader_begins capacity first before ≡ true → Begins first
      unfolding tickets_in
      begins (ReadPoint.LookTail Poll) may =
          let none = known-none true (first-of (known_in capacity Reader before == 0) _ may) in
          let point = ap (λ (b : Bool). reader_looks_for b Poll) none in
          ((refl, tt), (ap Point.Reader (sym point), record { counted = begun-counts _; stores = rw none tt; calls = rw none (refl, refl, tt, refl, refl) }))
      begins (ReadPoint.LookTail (Copy Try)) may =
          let none = known-none true (first-of (known_in capacity Reader before == 0) _ may) in
          let point = ap (λ (b : Bool). reader_looks_for b (Copy Try)) none in
          ((refl, tt), (ap Point.Reader (sym point), record { counted = begun-counts _; stores = rw none tt; calls = rw none (tt, refl, refl, refl, refl) }))
      begins (ReadPoint.LookTail (Copy (Polling false))) may =
          let none = known-none true (first-of (known_in capacity Reader before == 0) _ may) in
          let point = ap (λ (b : Bool). reader_looks_for b (Copy (Polling false))) none in
          ((refl, tt), (ap Point.Reader (sym point), record { counted = begun-counts _; stores = rw none tt; calls = rw none (refl, refl, refl, refl, refl) }))
      begins (ReadPoint.LookTail (Copy (Polling true))) may = absurd (let no : false ≡ true = second-of (known_in capacity Reader before == 0) false may in cc)
      begins (ReadPoint.LookTake Poll) may =
          let none = known-none false (not-true (known_in capacity Reader before == 0) may) in
          let point = ap (λ (b : Bool). reader_looks_for b Poll) none in
          ((refl, tt), (ap Point.Reader (sym point), record { counted = begun-counts _; stores = rw none tt; calls = rw none (refl, refl, tt) }))
      begins (ReadPoint.LookTake (Copy (Polling false))) may =
          let none = known-none false (not-true (known_in capacity Reader before == 0) may) in
          let point = ap (λ (b : Bool). reader_looks_for b (Copy (Polling false))) none in
          ((refl, tt), (ap Point.Reader (sym point), record { counted = begun-counts _; stores = rw none tt; calls = rw none (refl, refl, refl) }))
      begins (ReadPoint.CallDestination Try sum) may =
          let none = known-none false (not-true (known_in capacity Reader before == 0) (second-of (sum == 0) _ may)) in
          let first : 0 ≡ sum = sym (zero-is sum (first-of (sum == 0) _ may)) in
          let point = ap (λ (b : Bool). reader_looks_for b (Copy Try)) none ∙ ap (ReadPoint.CallDestination Try) first in
          ((refl, tt), (ap Point.Reader (sym point), record { counted = begun-counts _; stores = rw none tt; calls = rw none refl }))
      begins (ReadPoint.StoreHead n AfterRead.Answer) may =
          let lends : n ≤ piece_in capacity Reader before = lent-within (shut_in before) n (piece_in capacity Reader before) may in
          let shows : n ≤ min (r.tail - r.head) (capacity - r.start) = subst (λ (m : ℕ). n ≤ m) (sym (pieces capacity some r before given counted)) lends in
          let as_long : length (of_length n given) ≡ n = of-length n given in (
            (refl, omega (arith, as_long, shows)),
            (
              ap (λ (m : ℕ). Point.Reader (ReadPoint.StoreHead m AfterRead.Answer)) (sym as_long),
              record { counted = begun-counts _; stores = (omega (arith, as_long, shows), ap (λ (m : ℕ). of_length m given) (sym as_long)); calls = tt },
            ),
          )
      begins ReadPoint.StoreClosed may = ((refl, tt), (refl, record { counted = begun-counts _; stores = tt; calls = tt }))
      begins first may = absurd (let no : false ≡ true = may in cc)

  -- outside any call

  idle-at : (r : ReaderAt) (next : Next Point) → next.point ≡ Point.Reader r.point → rests next ≡ true → ReadPoint.Idle ≡ r.point
  idle-at r next e resting = grind arith

  begins-at : (r : ReaderAt) (before : List handle.Line) (given : List ℕ) (first : Point) → (handle.comes_to before).point ≡ Point.Reader r.point → rests (handle.comes_to before) ≡ true → call_begins capacity Reader first before ≡ true → IsAt capacity before given r
      → let opening = opening_at (suc (tickets_in before)) given first in IsReaderNext capacity (began opening) r × ((first ≡ Point.Reader (reader_begun opening r).point) × IsAt capacity (handle.note (Note.Began first) ∷ before) given (reader_begun opening r))
  begins-at r before given (Point.Reader first) e resting may is =
      let opening = reader_opening (suc (tickets_in before)) given first in
      subst (λ (p : ReadPoint). IsReaderNext capacity (began opening) (at p r) × Arrives capacity (handle.note (Note.Began (Point.Reader first)) ∷ before) given first (reader_begun opening (at p r))) (idle-at r (handle.comes_to before) e resting)
      (begins r before given is.counted first may)
  begins-at r before given (Point.Writer first) e resting may is = absurd (let no : false ≡ true = may in cc)

  learns : (r : ReaderAt) (before : List handle.Line) (given : List ℕ) (count : ℕ) → (handle.comes_to before).point ≡ Point.Reader r.point → rests (handle.comes_to before) ≡ true → IsAt capacity before given r
      → IsReaderNext capacity (met_tail count) r × ((handle.comes_to before).point ≡ Point.Reader r.point) × IsAt capacity (handle.met count ∷ before) given (reader_after capacity (met_tail count) r)
  unfolding moved_in seen_in waits_in
  learns r before given count e resting is =
      let idle = idle-at r (handle.comes_to before) e resting in (
        sym idle,
        e,
        record {
          counted = record { moves = is.counted.moves; sees = refl; lies = is.counted.lies; may_wait = is.counted.may_wait };
          stores = is.stores;
          calls = subst (λ (p : ReadPoint). Calls (stage p) (known_of (handle.met count ∷ before)) r.calling (r.size ≡ None)) idle tt;
        },
      )

  -- a look of the writer
  looks-not : (r : ReaderAt) (before : List handle.Line) (given : List ℕ) (a : shared.Access) (none is_closed : Bool) → (handle.comes_to before).point ≡ Point.Reader r.point → alike none (known_in capacity Reader before == 0) ≡ true → fits capacity Reader before (read_action r.point) a (Found.Flag is_closed) ≡ true → IsAt capacity before (given_by given a) r
      → IsReaderNext capacity (line_of a) r × (true ≡ false → ((handle.looks none is_closed (Point.Reader r.point)).point ≡ Point.Reader (reader_after capacity (line_of a) r).point) × IsAt capacity (handle.note (Note.ClosedLoaded none is_closed) ∷ handle.access a ∷ before) given (reader_after capacity (line_of a) r))
  looks-not r before given a none is_closed e knows fit is = ((told capacity some r before given r.point a (Found.Flag is_closed) e fit is).0, λ alive. absurd cc)

  first-is : (given : List ℕ) → IsAt capacity [] given fresh_reader
  unfolding moved_in seen_in waits_in
  first-is given = record { counted = record { moves = refl; sees = refl; lies = sym (zero-mod capacity); may_wait = refl }; stores = tt; calls = tt }

  same-runs : (lines : List Line) → AreRuns ReaderAt fresh_reader (reader_after capacity) (IsReaderNext capacity) lines → AreReaderRuns capacity lines
  same-runs lines runs = grind arith

  pub reads : (lines : List handle.Line) (moved : List ℕ) → IsTrueLog capacity Reader lines moved → AreReaderRuns capacity (lines_in Reader lines)
  reads lines moved log =
      same-runs (lines_in Reader lines)
      (runs-of capacity Reader ReaderAt fresh_reader (reader_after capacity) (IsReaderNext capacity) (λ r. Point.Reader r.point) (λ p r. p ≡ Point.Reader r.point) (IsAt capacity)
      refl first-is (λ p r e acts. e) (λ p r e. e)
      (λ r before given a f. told capacity some r before given r.point a f) (λ r before given a. passed r before given r.point a) looks-not (λ r before given f. made r before given r.point f) (λ r before given is_drawn. draws r before given r.point is_drawn)
      begins-at learns lines moved log)
