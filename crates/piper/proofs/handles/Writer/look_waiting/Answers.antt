-- It was granted a waker before it looked once more.
use Rattle.std.proofs.Common.{rules}
use Rattle.piper.proofs.Pending.{writer_pends}
use Rattle.piper.proofs.handles.Writer.look_waiting.Goals as goal

pub returns-clause-pending : goal.returns-clause-pending
returns-clause-pending c =
    writer_pends _ _ _ _ _ c.register.new.side.slots _ _ (search rules) c.look_again.ensures.rest.0 c.register.ensures.covered
    (search rules) (search rules) (c.register.ensures.registered c.if-not-register.false)
