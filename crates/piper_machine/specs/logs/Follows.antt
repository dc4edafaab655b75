-- What follows for two logs from the laws of the machine.
use Rattle.std.specs.Prelude.{◌≡◌, ◌⊎◌, ℕ, ◌≤◌, List, [], ◌∷◌, ◌++◌, length, true, false, Some}
use Rattle.piper_machine.specs.Types.{Side, Answer, Reader, Writer, Ready}
use Rattle.piper_protocol.specs.declared.answer.Answer.TheVariants.{Poll}
use Rattle.piper_machine.specs.Refusal.{IsIdle}
use Rattle.piper_machine.specs.Remembered.{WaitsRegistered, WasCalled}
use Rattle.piper_machine.specs.Wait.{Wait, wait_of}
use Rattle.piper_machine.specs.logs.Line.{Line}
use Rattle.piper_machine.specs.logs.Moved.{consumed, published}
use Rattle.piper_machine.specs.logs.Wide.{IsOneWideRun}
use Rattle.piper_machine.specs.logs.Reading.{reader_answers, reader_at}
use Rattle.piper_machine.specs.logs.Reports.{events_of}

-- first in, first out: what the reader consumed is the beginning of what the writer published, and
-- the rest fits into the pipe
pub record AreInTurn (capacity : ℕ) (reader writer : List Line) : Type 0 where
  pub rest : List ℕ
  pub bytes : consumed reader ++ rest ≡ published writer
  pub within : length rest ≤ capacity

-- a call of the reader answered this
abbrev pub HasAnswered : ℕ → Answer → List Line → Type 0
HasAnswered capacity answer [] = ⊥
HasAnswered capacity answer (line ∷ before) =
    (reader_answers capacity line (reader_at capacity before) ≡ Some answer)
    ⊎ HasAnswered capacity answer before

-- if a poll of the reader answered false, it has consumed every byte that was ever published
abbrev pub IsHonestEnd : ℕ → List Line → List Line → Type 0
IsHonestEnd capacity reader writer =
    HasAnswered capacity (Poll (Ready false)) reader → consumed reader ≡ published writer

-- what the lines say of a side's last polling call: whether it returned pending, and whether its
-- waker was called since
abbrev pub wait_in : {capacity : ℕ} {reader writer : List Line}
    → IsOneWideRun capacity reader writer → Side → Wait
wait_in {capacity} run side = wait_of side (events_of capacity run.turns)

abbrev pub AreOutside : {capacity : ℕ} {reader writer : List Line}
    → IsOneWideRun capacity reader writer → Type 0
AreOutside run = IsIdle Reader run.pipe × IsIdle Writer run.pipe

-- if both sides are outside any call, and the last polling call of one returned pending, then its
-- waker was called since, or it has nothing to do and its waker is in its slot
abbrev pub IsNobodyForgotten : {capacity : ℕ} {reader writer : List Line}
    → IsOneWideRun capacity reader writer → Type 0
IsNobodyForgotten run = (side : Side) → AreOutside run → (wait_in run side).is_pending ≡ true →
    WasCalled (wait_in run side) ⊎ WaitsRegistered side run.pipe (wait_in run side)

-- if both sides are outside any call, and the last polling call of both returned pending, then the
-- waker of one was called since
abbrev pub IsOneAwake : {capacity : ℕ} {reader writer : List Line}
    → IsOneWideRun capacity reader writer → Type 0
IsOneAwake run =
    AreOutside run → (wait_in run Reader).is_pending ≡ true → (wait_in run Writer).is_pending ≡ true
    → WasCalled (wait_in run Reader) ⊎ WasCalled (wait_in run Writer)
