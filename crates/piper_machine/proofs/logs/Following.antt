-- What follows for two logs from the laws of the machine.
use Rattle.std.proofs.Common.{◌≡◌, inl, inr, ℕ, List, ◌∷◌, ◌++◌, false, refl, sym, ap, subst, Option, ◌∙◌, arith, append_assoc, append-nil, []}
use Rattle.std.proofs.lemmas.Grind.{flat_map-append}
use Rattle.piper_machine.specs.Types.{Event, Answer, Reader, Writer, Answered, Ready}
use Rattle.piper_machine.specs.Conservation.{consumed_in, consumed_of, published_in, published_of}
use Rattle.piper_machine.specs.Final.{IsOver}
use Rattle.piper_machine.specs.Log.{answer_event}
use Rattle.piper_protocol.specs.declared.answer.Answer.TheVariants.{Poll}
use Rattle.piper_machine.specs.logs.Reports.{events_of, reader_event, reader_reports, writer_reports}
use Rattle.piper_machine.specs.logs.Follows.{AreInTurn, IsHonestEnd, HasAnswered}
use Rattle.piper_machine.specs.logs.Moved.{consumed, consumed_by, published, published_by}
use Rattle.piper_machine.specs.logs.Line.{Line}
use Rattle.piper_machine.specs.logs.OneList.{By, by, did}
use Rattle.piper_machine.specs.logs.Wide.{IsOneWideRun}
use Rattle.piper_machine.specs.logs.Reading.{ReaderAt, reader_at}
use Rattle.piper_machine.specs.logs.Writing.{WriterAt, writer_at}

-- what each line reports of bytes

reader-consumes : (capacity : ℕ) (line : Line) (r : ReaderAt) → consumed_of (reader_reports capacity line r) ≡ consumed_by line
reader-consumes capacity line r = grind (arith, append-nil)

reader-publishes : (capacity : ℕ) (line : Line) (r : ReaderAt) → published_of (reader_reports capacity line r) ≡ []
reader-publishes capacity line r = grind arith

writer-publishes : (capacity : ℕ) (line : Line) (w : WriterAt) → published_of (writer_reports capacity line w) ≡ published_by line
writer-publishes capacity line w = grind (arith, append-nil)

writer-consumes : (capacity : ℕ) (line : Line) (w : WriterAt) → consumed_of (writer_reports capacity line w) ≡ []
writer-consumes capacity line w = grind arith

module _ (capacity : ℕ) where
  -- what is joined of the events of both sides
  consumes : (turns : List (By Line)) → consumed_of (events_of capacity turns) ≡ consumed (did Reader turns)
  consumes [] = refl
  consumes (by Reader line ∷ before) =
      let r : ReaderAt = reader_at capacity (did Reader before) in
      flat_map-append consumed_in (events_of capacity before) (reader_reports capacity line r)
      ∙ ap (λ (x : List ℕ). x ++ consumed_of (reader_reports capacity line r)) (consumes before)
      ∙ ap (λ (x : List ℕ). consumed (did Reader before) ++ x) (reader-consumes capacity line r)
  consumes (by Writer line ∷ before) =
      let w : WriterAt = writer_at capacity (did Writer before) in
      flat_map-append consumed_in (events_of capacity before) (writer_reports capacity line w)
      ∙ ap (λ (x : List ℕ). consumed_of (events_of capacity before) ++ x) (writer-consumes capacity line w)
      ∙ append-nil (consumed_of (events_of capacity before)) ∙ consumes before

  publishes : (turns : List (By Line)) → published_of (events_of capacity turns) ≡ published (did Writer turns)
  publishes [] = refl
  publishes (by Writer line ∷ before) =
      let w : WriterAt = writer_at capacity (did Writer before) in
      flat_map-append published_in (events_of capacity before) (writer_reports capacity line w)
      ∙ ap (λ (x : List ℕ). x ++ published_of (writer_reports capacity line w)) (publishes before)
      ∙ ap (λ (x : List ℕ). published (did Writer before) ++ x) (writer-publishes capacity line w)
  publishes (by Reader line ∷ before) =
      let r : ReaderAt = reader_at capacity (did Reader before) in
      flat_map-append published_in (events_of capacity before) (reader_reports capacity line r)
      ∙ ap (λ (x : List ℕ). published_of (events_of capacity before) ++ x) (reader-publishes capacity line r)
      ∙ append-nil (published_of (events_of capacity before)) ∙ publishes before

-- an event is there
abbrev Has : Event → List Event → Type 0
Has e events = (before : List Event) × (after : List Event) × (events ≡ before ++ e ∷ after)

has-front : (e : Event) (xs ys : List Event) → Has e xs → Has e (xs ++ ys)
has-front e xs ys h = (h.0, h.1 ++ ys, ap (λ (x : List Event). x ++ ys) h.2 ∙ append_assoc h.0 (e ∷ h.1) ys)

-- an answer of the reader is among the events of both
has-answer : (capacity : ℕ) (answer : Answer) (turns : List (By Line)) → HasAnswered capacity answer (did Reader turns) → Has (Answered Reader answer) (events_of capacity turns)
has-answer capacity answer [] h = absurd h
has-answer capacity answer (by Writer line ∷ before) h =
    has-front (Answered Reader answer) (events_of capacity before) (writer_reports capacity line (writer_at capacity (did Writer before))) (has-answer capacity answer before h)
has-answer capacity answer (by Reader line ∷ before) h =
    let r : ReaderAt = reader_at capacity (did Reader before) in
    elim h [
      | inl here ↦ (
        events_of capacity before ++ reader_event line r,
        [],
        ap (λ (x : Option Answer). events_of capacity before ++ (reader_event line r ++ answer_event Reader x)) here
            ∙ sym (append_assoc (events_of capacity before) (reader_event line r) (Answered Reader answer ∷ [])),
      )
      | inr old ↦ has-front (Answered Reader answer) (events_of capacity before) (reader_reports capacity line r) (has-answer capacity answer before old)
    ]

module _ (capacity : ℕ) (reader writer : List Line) (run : IsOneWideRun capacity reader writer) where
  all-bytes : consumed reader ++ run.pipe.unread ≡ published writer
  all-bytes =
      ap (λ (x : List ℕ). x ++ run.pipe.unread) (sym (consumes capacity run.turns ∙ ap consumed run.reader_did))
      ∙ run.safe.conserved.bytes ∙ publishes capacity run.turns ∙ ap published run.writer_did

  pub in-turn : AreInTurn capacity reader writer
  in-turn = record { rest = run.pipe.unread; bytes = all-bytes; within = omega (arith, run.safe.sound.unread, run.left.places) }

  pub honest-end : IsHonestEnd capacity reader writer
  honest-end answered =
      let there = has-answer capacity (Poll (Ready false)) run.turns (subst (HasAnswered capacity (Poll (Ready false))) (sym run.reader_did) answered) in
      let over : IsOver run.pipe there.1 = run.safe.finality.noted there.0 there.1 there.2 in
      sym (append-nil (consumed reader)) ∙ ap (λ (x : List ℕ). consumed reader ++ x) (sym over.1) ∙ all-bytes
