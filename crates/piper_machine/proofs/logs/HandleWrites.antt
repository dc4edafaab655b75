-- The log of a writer's handle is a list of runs of the call table.
use Rattle.std.proofs.Common.{◌≡◌, ◌⊎◌, inl, inr, ℕ, suc, ◌≤◌, ◌==◌, min, List, ◌∷◌, length, Bool, true, false, not, refl, sym, ap, subst, ◌∙◌, arith, []}
use Rattle.std.proofs.lemmas.Grind.{common_steps}
use Rattle.std.proofs.Math.Nat.{zero-mod}
use Rattle.piper_machine.specs.Types.{Action, Found, Polling, ReadPoint, WritePoint, Writer, MOST_A_ROUND}
use Rattle.piper_protocol.specs.declared.log.Note.{Note}
use Rattle.piper_protocol.specs.declared.table.Point.{Point}
use Rattle.piper_protocol.specs.declared.table.Purpose.TheVariants.{Copy}
use Rattle.piper_protocol.specs.Lines as handle
use Rattle.piper_protocol.specs.OneList as shared
use Rattle.piper_protocol.specs.Table.{Next, write_action, writer_moved}
use Rattle.piper_protocol.specs.Told.{IsTrueLog, alike, begins as call_begins, fits, is_made, known_in, may_draw, moved_in, passes, piece_in, rests, seen_in, shut_in, tickets_in, waits_in, writer_begins}
use Rattle.piper_machine.specs.logs.Line.{Line, began, met_head, knew_empty, gave, drew}
use Rattle.piper_machine.specs.logs.Listed.{line_of}
use Rattle.piper_machine.specs.logs.OfHandles.{given_by, line_made, lines_in, of_length, opening_at, writer_opening}
use Rattle.piper_machine.specs.logs.Writing.{AreWriterRuns, IsWriterNext, MayGive, Source, WriterAt, contiguous, fresh_writer, most_lent, own, source_after, unless, writer_after, writer_begun}
use Rattle.piper_machine.proofs.logs.HandleLogs.{AreRuns, runs-of}
use Rattle.piper_machine.proofs.logs.HandleCalls.{Calls, Counted, first-of, is_dead, kept, known_of, moved-within, not-true, of-length, second-of}
use Rattle.piper_machine.proofs.logs.HandleWriter.{Arrives, Follows, IsAt, at, emptied, has-drawn, leads, lent-so, moved, moved-stores, row, stage, steps}
use Rattle.piper_machine.proofs.logs.HandleWriterTold.{pieces, told}

module _ (capacity : ℕ) (some : 1 ≤ capacity) where
  module _ (w : WriterAt) (before : List handle.Line) (given : List ℕ) where
    -- an access that is no step of the table
    passed : (point : WritePoint) (a : shared.Access) → (handle.comes_to before).point ≡ Point.Writer point → passes Writer before (write_action point) a ≡ true → IsAt capacity before (given_by given a) (at point w)
        → IsWriterNext capacity (line_of a) (at point w) × Arrives capacity (handle.note Note.Passed ∷ handle.access a ∷ before) given point (writer_after capacity (line_of a) (at point w))
    unfolding moved_in seen_in waits_in tickets_in shut_in
    passed point a e fit is = grind arith

    -- the load of closed that a look begins with
    looks-first : (point : WritePoint) (a : shared.Access) (none is_closed : Bool) → (handle.comes_to before).point ≡ Point.Writer point → alike none (known_in capacity Writer before == 0) ≡ true → fits capacity Writer before (write_action point) a (Found.Flag is_closed) ≡ true → IsAt capacity before (given_by given a) (at point w)
        → IsWriterNext capacity (line_of a) (at point w) × (is_dead (handle.looks none is_closed (Point.Writer point)) ≡ false → ((handle.looks none is_closed (Point.Writer point)).point ≡ Point.Writer (writer_after capacity (line_of a) (at point w)).point) × IsAt capacity (handle.note (Note.ClosedLoaded none is_closed) ∷ handle.access a ∷ before) given (writer_after capacity (line_of a) (at point w)))
    unfolding moved_in seen_in waits_in tickets_in shut_in
    looks-first (WritePoint.LookClosed l) (shared.loaded_closed b) none is_closed e knows fit is = grind arith
    looks-first (WritePoint.LookClosed l) a none is_closed e knows fit is = absurd (let no : false ≡ true = fit in cc)
    looks-first point a none is_closed e knows fit is = ((told capacity some w before given point a (Found.Flag is_closed) e fit is).0, λ alive. absurd (let no : true ≡ false = alive in cc))

    -- a step that is no access
    made : (point : WritePoint) (f : Found) → (handle.comes_to before).point ≡ Point.Writer point → is_made capacity Writer before (write_action point) f ≡ true → IsAt capacity before given (at point w)
        → Follows capacity (handle.note (Note.Made f) ∷ before) given (line_made given before (write_action point) f) (row point f) (at point w)
    unfolding moved_in seen_in waits_in tickets_in shut_in
    made (WritePoint.LookTake l) Found.Nothing e fit is = (
      (refl, has-drawn l w.calling.draw before e (second-of (not (waits_in Writer before)) _ fit) is.calls.1, is.counted.may_wait ∙ not-true (waits_in Writer before) (first-of (not (waits_in Writer before)) _ fit)),
      λ alive. steps capacity _ given knew_empty (WritePoint.LookTake l) Found.Nothing w refl refl (kept _ _ before _ _ _ _ _ refl refl refl is.counted) is.shut (emptied _ _ _ l (is.calls.0, is.calls.2)),
    )
    made (WritePoint.LookTake l) (Found.Waker false) e fit is = (
      (refl, has-drawn l w.calling.draw before e (second-of (not (waits_in Writer before)) _ fit) is.calls.1, is.counted.may_wait ∙ not-true (waits_in Writer before) (first-of (not (waits_in Writer before)) _ fit)),
      λ alive. steps capacity _ given knew_empty (WritePoint.LookTake l) (Found.Waker false) w refl refl (kept _ _ before _ _ _ _ _ refl refl refl is.counted) is.shut (emptied _ _ _ l (is.calls.0, is.calls.2)),
    )
    made (WritePoint.CallSource form sum) (Found.Moved n) e fit is =
        let as_long : length (of_length n given) ≡ n = of-length n given in
        let within = moved-within (shut_in before) MOST_A_ROUND n (piece_in capacity Writer before) fit in
        let fits_in : n ≤ contiguous capacity w = subst (λ (m : ℕ). n ≤ m) (sym (pieces capacity some w before given is.counted)) within.1 in
        let lent : n ≤ min MOST_A_ROUND (unless w.is_shut (contiguous capacity w)) =
        subst (λ (b : Bool). n ≤ min MOST_A_ROUND (unless b (contiguous capacity w))) (sym is.shut)
        (subst (λ (m : ℕ). n ≤ min MOST_A_ROUND (unless (shut_in before) m)) (sym (pieces capacity some w before given is.counted)) (lent-so (shut_in before) n (piece_in capacity Writer before) MOST_A_ROUND fit)) in (
          (refl, subst (λ (from : Source). MayGive (most_lent capacity w) from (of_length n given)) (sym is.calls) (subst (λ (m : ℕ). m ≤ most_lent capacity w) (sym as_long) lent)),
          λ alive. leads capacity _ given (gave (of_length n given)) (at (WritePoint.CallSource form sum) w) (row (WritePoint.CallSource form sum) (Found.Moved n))
              (ap (λ (m : ℕ). writer_moved (m == 0) m form sum) as_long)
              (kept _ _ before _ _ _ _ _ refl refl refl is.counted)
              is.shut
              (moved-stores capacity given (n == 0) n sum w.end form (omega (arith, fits_in)))
              (moved _ _ _ (n == 0) n sum form (ap (source_after (length (of_length n given))) is.calls)),
        )
    made point f e fit is = grind arith

    -- a copy draws
    draws : (point : WritePoint) (is_drawn : Bool) → may_draw (Point.Writer point) before ≡ true → IsAt capacity before given (at point w)
        → IsWriterNext capacity (drew is_drawn) (at point w) × ((handle.drawn is_drawn (Point.Writer point) ≡ Point.Writer (WritePoint.LookTake (Copy (Polling is_drawn)))) × IsAt capacity (handle.note (Note.Drew is_drawn) ∷ before) given (writer_after capacity (drew is_drawn) (at point w)))
    unfolding moved_in seen_in waits_in tickets_in shut_in
    draws point is_drawn may is = grind arith

    -- a call begins
    begins : (start : WritePoint) → writer_begins capacity start before ≡ true → Counted capacity Writer before w.tail w.head w.end w.may_wait → w.is_shut ≡ shut_in before
        → let opening = writer_opening (suc (tickets_in before)) given start in
        IsWriterNext capacity (began opening) (at WritePoint.Idle w) × Arrives capacity (handle.note (Note.Began (Point.Writer start)) ∷ before) given start (writer_begun opening (at WritePoint.Idle w))
    unfolding moved_in seen_in waits_in tickets_in shut_in
    begins start may counted shut = grind (arith, common_steps)

  -- outside any call. No line of the writer says that it is the writer's log

  abbrev Meets : Point → WriterAt → Type 0
  Meets p w = (p ≡ Point.Writer w.point) ⊎ ((p ≡ Point.Reader ReadPoint.Idle) × (w.point ≡ WritePoint.Idle))

  acting : (p : Point) (w : WriterAt) → Meets p w → (handle.action p ≡ Action.Rest → ⊥) → p ≡ Point.Writer w.point
  acting p w there acts = grind arith

  idle-at : (w : WriterAt) (next : Next Point) → Meets next.point w → rests next ≡ true → WritePoint.Idle ≡ w.point
  idle-at w next there resting = grind arith

  begins-at : (w : WriterAt) (before : List handle.Line) (given : List ℕ) (start : Point) → Meets (handle.comes_to before).point w → rests (handle.comes_to before) ≡ true → call_begins capacity Writer start before ≡ true → IsAt capacity before given w
      → let opening = opening_at (suc (tickets_in before)) given start in IsWriterNext capacity (began opening) w × ((start ≡ Point.Writer (writer_begun opening w).point) × IsAt capacity (handle.note (Note.Began start) ∷ before) given (writer_begun opening w))
  begins-at w before given (Point.Writer start) there resting may is =
      let opening = writer_opening (suc (tickets_in before)) given start in
      subst (λ (p : WritePoint). IsWriterNext capacity (began opening) (at p w) × Arrives capacity (handle.note (Note.Began (Point.Writer start)) ∷ before) given start (writer_begun opening (at p w))) (idle-at w (handle.comes_to before) there resting)
      (begins w before given start may is.counted is.shut)
  begins-at w before given (Point.Reader start) there resting may is = absurd (let no : false ≡ true = may in cc)

  learns : (w : WriterAt) (before : List handle.Line) (given : List ℕ) (count : ℕ) → Meets (handle.comes_to before).point w → rests (handle.comes_to before) ≡ true → IsAt capacity before given w
      → IsWriterNext capacity (met_head count) w × Meets (handle.comes_to before).point w × IsAt capacity (handle.met count ∷ before) given (writer_after capacity (met_head count) w)
  unfolding moved_in seen_in waits_in shut_in
  learns w before given count there resting is =
      let idle = idle-at w (handle.comes_to before) there resting in (
        sym idle,
        there,
        record {
          counted = record { moves = is.counted.moves; sees = refl; lies = is.counted.lies; may_wait = is.counted.may_wait };
          shut = is.shut;
          stores = is.stores;
          calls = subst (λ (p : WritePoint). Calls (stage p) (known_of (handle.met count ∷ before)) w.calling (w.source ≡ own)) idle tt;
        },
      )

  first-is : (given : List ℕ) → IsAt capacity [] given fresh_writer
  unfolding moved_in seen_in waits_in shut_in
  first-is given = record { counted = record { moves = refl; sees = refl; lies = sym (zero-mod capacity); may_wait = refl }; shut = refl; stores = tt; calls = tt }

  same-runs : (lines : List Line) → AreRuns WriterAt fresh_writer (writer_after capacity) (IsWriterNext capacity) lines → AreWriterRuns capacity lines
  same-runs lines runs = grind arith

  pub writes : (lines : List handle.Line) (moved : List ℕ) → IsTrueLog capacity Writer lines moved → AreWriterRuns capacity (lines_in Writer lines)
  writes lines moved log =
      same-runs (lines_in Writer lines)
      (runs-of capacity Writer WriterAt fresh_writer (writer_after capacity) (IsWriterNext capacity) (λ w. Point.Writer w.point) Meets (IsAt capacity)
      (inr (refl, refl)) first-is acting (λ p w e. inl e)
      (λ w before given a f. told capacity some w before given w.point a f) (λ w before given a. passed w before given w.point a) (λ w before given a. looks-first w before given w.point a) (λ w before given f. made w before given w.point f) (λ w before given is_drawn. draws w before given w.point is_drawn)
      begins-at learns lines moved log)
