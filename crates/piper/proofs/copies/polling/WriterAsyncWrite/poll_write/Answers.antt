-- What the copy of the slice says is what a call of the trait says.
use Rattle.piper.proofs.AsTraits.{write_waits, writes}
use Rattle.piper.proofs.copies.polling.WriterAsyncWrite.poll_write.Goals as goal

pub returns-clause-says : goal.returns-clause-says
returns-clause-says c =
    let copy = c.poll_fill_bytes.ensures in
    rw c.as_pipe.ensures (writes _ _ _ _ _ _ copy.ran copy.filled copy.waiting copy.rest)

pub returns-clause-pending : goal.returns-clause-pending
returns-clause-pending c =
    let copy = c.poll_fill_bytes.ensures in rw c.as_pipe.ensures (write_waits _ _ _ _ _ copy.rest.same copy.waiting.pending)
