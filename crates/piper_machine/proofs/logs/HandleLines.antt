-- The accesses and the bytes of a handle's log are those of its lines.
use Rattle.std.proofs.Common.{◌≡◌, ℕ, List, ◌∷◌, ◌++◌, true, false, Option, refl, ap, ◌∙◌, append-nil, arith, []}
use Rattle.std.proofs.lemmas.Grind.{common_steps}
use Rattle.piper_machine.specs.Types.{Side, Reader, Writer}
use Rattle.piper_protocol.specs.declared.log.Note.{Note}
use Rattle.piper_protocol.specs.Lines as handle
use Rattle.piper_protocol.specs.OneList as shared
use Rattle.piper_protocol.specs.Told.{have_met, moved_in}
use Rattle.piper_machine.specs.logs.Line.{Line}
use Rattle.piper_machine.specs.logs.Listed.{line_of, lines_of}
use Rattle.piper_machine.specs.logs.Moved.{consumed, published}
use Rattle.piper_machine.specs.logs.OfHandles.{given_by, line_noted, lines_with, with_line}
use Rattle.piper_machine.specs.logs.OneList.{accesses, is_access, kept_if}
use Rattle.piper_machine.specs.logs.Reading.{AreReaderRuns}
use Rattle.piper_machine.specs.logs.Writing.{AreWriterRuns}

is-one : (a : shared.Access) (rest : List Line) → kept_if (is_access (line_of a)) (line_of a) rest ≡ line_of a ∷ rest
is-one a rest = grind arith

-- a note adds nothing that is shared
record AddsNone (added : Option Line) : Type 0 where
  accessed : (rest : List Line) → accesses (with_line added rest) ≡ accesses rest
  consumed_same : (rest : List Line) → consumed (with_line added rest) ≡ consumed rest
  published_same : (rest : List Line) → published (with_line added rest) ≡ published rest

notes-none : (given : List ℕ) (before : List handle.Line) (said : Note) → AddsNone (line_noted given before said)
notes-none given before said = grind (arith, common_steps)

pub accesses-same : (own : Side) (given : List ℕ) (lines : List handle.Line) → have_met lines ≡ false → accesses (lines_with own given lines) ≡ lines_of (handle.accesses_in lines)
unfolding have_met
accesses-same own given [] apart = refl
accesses-same own given (handle.access a ∷ before) apart =
    is-one a (accesses (lines_with own (given_by given a) before)) ∙ ap (λ (x : List Line). line_of a ∷ x) (accesses-same own (given_by given a) before apart)
accesses-same own given (handle.note said ∷ before) apart = (notes-none given before said).accessed (lines_with own given before) ∙ accesses-same own given before apart
accesses-same own given (handle.met count ∷ before) apart = absurd (let no : true ≡ false = apart in cc)

runs-before : (capacity : ℕ) (added : Option Line) (rest : List Line) → AreReaderRuns capacity (with_line added rest) → AreReaderRuns capacity rest
runs-before capacity added rest runs = grind arith

writes-before : (capacity : ℕ) (added : Option Line) (rest : List Line) → AreWriterRuns capacity (with_line added rest) → AreWriterRuns capacity rest
writes-before capacity added rest runs = grind arith

pub consumed-same : (capacity : ℕ) (given : List ℕ) (lines : List handle.Line) → have_met lines ≡ false → AreReaderRuns capacity (lines_with Reader given lines) → consumed (lines_with Reader given lines) ≡ moved_in lines
unfolding have_met moved_in
consumed-same capacity given [] apart runs = refl
consumed-same capacity given (handle.access (shared.stored_head bytes) ∷ before) apart runs = ap (λ (x : List ℕ). x ++ bytes) (consumed-same capacity bytes before apart runs.1)
consumed-same capacity given (handle.access (shared.stored_tail bytes) ∷ before) apart runs = absurd runs.0
consumed-same capacity given (handle.access a ∷ before) apart runs = append-nil (consumed (lines_with Reader given before)) ∙ consumed-same capacity given before apart runs.1
consumed-same capacity given (handle.note said ∷ before) apart runs =
    let rest : List Line = lines_with Reader given before in
    (notes-none given before said).consumed_same rest ∙ consumed-same capacity given before apart (runs-before capacity (line_noted given before said) rest runs)
consumed-same capacity given (handle.met count ∷ before) apart runs = absurd (let no : true ≡ false = apart in cc)

pub published-same : (capacity : ℕ) (given : List ℕ) (lines : List handle.Line) → have_met lines ≡ false → AreWriterRuns capacity (lines_with Writer given lines) → published (lines_with Writer given lines) ≡ moved_in lines
unfolding have_met moved_in
published-same capacity given [] apart runs = refl
published-same capacity given (handle.access (shared.stored_tail bytes) ∷ before) apart runs = ap (λ (x : List ℕ). x ++ bytes) (published-same capacity bytes before apart runs.1)
published-same capacity given (handle.access (shared.stored_head bytes) ∷ before) apart runs = absurd runs.0
published-same capacity given (handle.access a ∷ before) apart runs = append-nil (published (lines_with Writer given before)) ∙ published-same capacity given before apart runs.1
published-same capacity given (handle.note said ∷ before) apart runs =
    let rest : List Line = lines_with Writer given before in
    (notes-none given before said).published_same rest ∙ published-same capacity given before apart (writes-before capacity (line_noted given before said) rest runs)
published-same capacity given (handle.met count ∷ before) apart runs = absurd (let no : true ≡ false = apart in cc)
