use Rattle.std.proofs.Common.{ap}
use Rattle.tokio.specs.Io.Moved.{count_moved}
use Rattle.piper_tokio.proofs.Fronts.{gave_front}
use Rattle.piper_tokio.proofs.halves.streams.CompatWriterAsyncWrite.poll_write.Goals as goal

pub returns-in-Ready-Ok-clause-bytes : goal.returns-in-Ready-Ok-clause-bytes
returns-in-Ready-Ok-clause-bytes c =
    let told = c.in-Ready-Ok.ensures in
    let filled = rw c.in-Ready-Ok.field-0-is at told.filled in
    let rest = rw c.in-Ready-Ok.field-0-is at told.rest in
    gave_front c.args.self.now.writer c.poll_fill_bytes.new.self c.in-Ready-Ok.count c.args.buf.now filled.0 (λ seen. ap count_moved (rest.end.over seen)) rest.same
