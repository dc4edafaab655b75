-- What the copy of the slice says is what a call of the trait says.
use Rattle.piper.proofs.AsTraits.{read_waits, reads}
use Rattle.piper.proofs.copies.polling.ReaderAsyncRead.poll_read.Goals as goal

pub returns-clause-says : goal.returns-clause-says
returns-clause-says c =
    let copy = c.poll_drain_bytes.ensures in
    rw c.as_pipe.ensures (reads _ _ _ _ _ _ _ copy.ran copy.drained copy.waiting copy.rest)

pub returns-clause-pending : goal.returns-clause-pending
returns-clause-pending c =
    let copy = c.poll_drain_bytes.ensures in rw c.as_pipe.ensures (read_waits _ _ _ _ _ copy.rest.same copy.waiting.pending)
