-- Both sides and the words fit after each line of the reader.
use Rattle.std.proofs.Common.{◌≡◌, ℕ, true, false, None, Some, arith}
use Rattle.std.proofs.lemmas.Grind.{common_steps}
use Rattle.piper_machine.specs.Types.{Reader, Writer}
use Rattle.piper_machine.specs.logs.Line.{met_head, met_tail, Opening, Line, began, loaded_head, loaded_tail, loaded_closed, stored_head, stored_tail, stored_closed, loaded_slot, swapped, knew_empty, took, gave, failed, drew, refused, yielded, woke}
use Rattle.piper_machine.specs.logs.OneList.{FindsCount, Words, words_after}
use Rattle.piper_machine.specs.logs.Reading.{IsReaderNext, ReaderAt, reader_after, reader_begun}
use Rattle.piper_machine.specs.logs.Writing.{WriterAt}
use Rattle.piper_machine.proofs.logs.Joint.{Fits}

module _ (capacity : ℕ) (w : WriterAt) where
  module _ (r : ReaderAt) (s : Words) (fits : Fits capacity r w s) where
    pub begin-fits : (opening : Opening) → IsReaderNext capacity (began opening) r → Fits capacity (reader_begun opening r) w s
    begin-fits opening next = grind (arith, common_steps)

    pub reader-fits : (line : Line) → IsReaderNext capacity line r → FindsCount line s → Fits capacity (reader_after capacity line r) w (words_after line s)
    reader-fits (began opening) next finds = begin-fits opening next
    reader-fits (loaded_tail count) next finds = grind arith
    reader-fits (loaded_closed b) next finds = grind arith
    reader-fits (stored_head bytes) next finds = grind arith
    reader-fits stored_closed next finds = grind arith
    reader-fits (loaded_slot side true) next finds = fits
    reader-fits (loaded_slot Reader false) next finds = grind arith
    reader-fits (loaded_slot Writer false) next finds = grind arith
    reader-fits knew_empty next finds = grind arith
    reader-fits (swapped Reader old None) next finds = grind arith
    reader-fits (swapped Writer old None) next finds = grind arith
    reader-fits (swapped Reader old (Some waker)) next finds = grind arith
    reader-fits (swapped Writer old (Some waker)) next finds = absurd (let no : Writer ≡ Reader = next.0 in cc)
    reader-fits (took bytes) next finds = grind arith
    reader-fits failed next finds = grind arith
    reader-fits (drew b) next finds = grind arith
    reader-fits refused next finds = grind arith
    reader-fits (yielded waker) next finds = grind arith
    reader-fits (woke waker) next finds = grind arith
    reader-fits (met_tail count) next finds = grind arith
    reader-fits (met_head count) next finds = absurd next
    reader-fits (loaded_head count) next finds = absurd next
    reader-fits (stored_tail bytes) next finds = absurd next
    reader-fits (gave bytes) next finds = absurd next
