-- Two sides of one pipe that were both left pending.
use Rattle.std.specs.Prelude.{◌≡◌, ℕ, ◌⊎◌, [], ◌∷◌}
use Rattle.piper_protocol.specs.declared.answer.Answer.TheVariants.{Count, Poll}
use Rattle.piper_protocol.specs.declared.answer.Polled.TheVariants.{Pending}
use Rattle.piper_protocol.specs.declared.table.Form.TheVariants.{Try}
use Rattle.piper_protocol.specs.declared.table.Point.TheVariants as point
use Rattle.piper_protocol.specs.declared.table.Purpose.TheVariants as purpose
use Rattle.piper_protocol.specs.declared.table.WritePoint.TheVariants.{LookClosed}
use Rattle.piper_ring.specs.Log.{AreRuns, Log, has_met}
use Rattle.piper.specs.OfReader.{slots}
use Rattle.piper.specs.OfWriter as of_writer
use Rattle.piper.specs.declared.handles.Reader.{Reader}
use Rattle.piper.specs.declared.handles.Writer.{Writer}

-- the last waker that one of them registered was taken by the other
abbrev pub IsAwake : Reader → Writer → Type 0
IsAwake r w =
    ((of_writer.slots w).taken ≡ (slots r).tickets) ⊎ ((slots r).taken ≡ (of_writer.slots w).tickets)

-- all that the writer did since a was to try a fill, which took n bytes, and to make a poll, which is
-- pending: the accesses of both are runs of the call table. Then it met the reader
pub record FilledAndPolled (a b : Writer) : Type 0 where
  pub count : ℕ
  pub there : Log
  pub ran : AreRuns
      ((point.Writer (LookClosed (purpose.Copy Try)), Count count)
      ∷ (point.Writer (LookClosed purpose.Poll), Poll Pending) ∷ [])
      (of_writer.log a) there
  pub taken : ℕ
  pub met : of_writer.log b ≡ has_met taken there
