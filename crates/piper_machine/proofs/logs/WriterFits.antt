-- Both sides and the words fit after each line of the writer.
use Rattle.std.proofs.Common.{◌≡◌, ℕ, ◌+◌, ◌≤◌, List, ◌++◌, length, Bool, true, false, Option, None, Some, refl, sym, ap, ◌∙◌, arith, []}
use Rattle.std.proofs.lemmas.Grind.{common_steps}
use Rattle.piper_machine.specs.Types.{Answer, Action, Found, WritePoint, Reader, Writer}
use Rattle.piper_protocol.specs.Index.{offset_of}
use Rattle.piper_protocol.specs.Table.{Next, ends_fill, tail_store, write_action, write_after}
use Rattle.piper_machine.specs.logs.Calling.{Calling, calling_after, may_wait_after, no_calling}
use Rattle.piper_machine.specs.logs.Line.{met_head, met_tail, Line, began, loaded_head, loaded_tail, loaded_closed, stored_head, stored_tail, stored_closed, loaded_slot, swapped, knew_empty, took, gave, failed, drew, refused, yielded, woke}
use Rattle.piper_machine.specs.logs.OneList.{FindsCount, Words, words_after}
use Rattle.piper_machine.specs.logs.Reading.{ReaderAt}
use Rattle.piper_machine.specs.logs.Writing.{HasDrawn, IsWriterNext, WriterAt, room_to, writer_after, writer_answered, writer_changed, writer_stepped, writer_told}
use Rattle.piper_machine.proofs.logs.Joint.{Fits, writer_point}
use Rattle.piper_machine.proofs.logs.WriterDraws.{ends-at, next-same, stored-none}

abbrev at_rest : WriterAt → WriterAt
at_rest w = record w { point = WritePoint.Idle; calling = no_calling }

module _ (capacity : ℕ) (r : ReaderAt) where
  answer-fits : (w : WriterAt) (s : Words) (point : WritePoint) (calling : Calling) (is_fill : Bool) (answer : Option Answer) → ((a : Answer) → answer ≡ Some a → write_action point ≡ Action.Rest) → tail_store point ≤ length w.given → writer_point calling.draw false point ≡ point
      → Fits capacity r (at_rest w) s → Fits capacity r (writer_answered is_fill answer (record w { point = point; calling = calling })) s
  answer-fits w s point calling is_fill answer rests stores draws fits = grind arith

  module _ (w : WriterAt) (s : Words) (fits : Fits capacity r w s) where
    -- a line that is a step of the table
    steps-fit : (line : Line) (action : Action) → write_action w.point ≡ action → (action ≡ Action.Take Writer → HasDrawn w.point w.calling.draw) → (calling_after line w.calling).draw ≡ w.calling.draw
        → tail_store (write_after capacity (room_to capacity w) w.point (writer_told capacity line w)).point ≤ length (writer_changed capacity line w).given
        → Fits capacity r (at_rest (record (writer_changed capacity line w) { may_wait = may_wait_after Writer line w.may_wait })) (words_after line s) → Fits capacity r (writer_stepped capacity line w) (words_after line s)
    steps-fit line action e drawn kept stores rest =
        let f : Found = writer_told capacity line w in
        let next : Next WritePoint = write_after capacity (room_to capacity w) w.point f in
        let same : next.point ≡ writer_point w.calling.draw false next.point =
        ap (λ (n : Next WritePoint). n.point) (ap (λ (x : WritePoint). write_after capacity (room_to capacity w) x f) (sym fits.writes.draws) ∙ next-same capacity (room_to capacity w) w.calling.draw false w.point f (λ t. drawn (sym e ∙ t))) in
        answer-fits (record (writer_changed capacity line w) { may_wait = may_wait_after Writer line w.may_wait }) (words_after line s) next.point (calling_after line w.calling) (ends_fill w.point) next.answer (ends-at capacity (room_to capacity w) w.point f) stores
        (ap (λ (d : Option Bool). writer_point d false next.point) kept ∙ sym same) rest

    -- the tail goes past the bytes that are given
    tail-fits : (bytes : List ℕ) → bytes ≡ w.given → Fits capacity r (at_rest (record w { tail = w.tail + length bytes; end = offset_of capacity (w.end + length bytes); given = [] })) (record s { sent = s.sent ++ bytes })
    tail-fits bytes same = grind (arith, common_steps)

    pub writer-fits : (line : Line) → IsWriterNext capacity line w → FindsCount line s → Fits capacity r (writer_after capacity line w) (words_after line s)
    writer-fits (began opening) next finds = grind arith
    writer-fits (loaded_head count) next finds = grind arith
    writer-fits (loaded_closed b) next finds = grind arith
    writer-fits (stored_tail bytes) next finds =
        let none = stored-none capacity (room_to capacity w) (length bytes) w.point (writer_told capacity (stored_tail bytes) w) next.0 in
        steps-fit (stored_tail bytes) (Action.StoreTail (length bytes)) next.0 (λ x. absurd cc) refl (omega arith) (tail-fits bytes next.1)
    writer-fits stored_closed next finds = grind arith
    writer-fits (loaded_slot side true) next finds = fits
    writer-fits (loaded_slot Reader false) next finds = grind arith
    writer-fits (loaded_slot Writer false) next finds = grind arith
    writer-fits knew_empty next finds = grind arith
    writer-fits (swapped Reader old None) next finds = grind arith
    writer-fits (swapped Writer old None) next finds = grind arith
    writer-fits (swapped Writer old (Some waker)) next finds = grind arith
    writer-fits (swapped Reader old (Some waker)) next finds = absurd (let no : Reader ≡ Writer = next.0 in cc)
    writer-fits (gave bytes) next finds = grind arith
    writer-fits failed next finds = grind arith
    writer-fits (drew b) next finds = grind arith
    writer-fits refused next finds = grind arith
    writer-fits (yielded waker) next finds = grind arith
    writer-fits (woke waker) next finds = grind arith
    writer-fits (met_head count) next finds = grind arith
    writer-fits (met_tail count) next finds = absurd next
    writer-fits (loaded_tail count) next finds = absurd next
    writer-fits (stored_head bytes) next finds = absurd next
    writer-fits (took bytes) next finds = absurd next
