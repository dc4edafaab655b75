-- What is published of a slice is its front.
use Rattle.std.proofs.Common.{sym}
use Rattle.piper.proofs.Wrote.{fills_slice}
use Rattle.piper.proofs.handles.Writer.poll_fill_bytes.Goals as goal

pub returns-clause-filled : goal.returns-clause-filled
returns-clause-filled c =
    fills_slice (λ s. s.rest.now) _ _ _ _ _ c.poll_fill_with.new.source (rw (sym c.as_slice_copy.ensures) at c.poll_fill_with.ensures.filled.0)
