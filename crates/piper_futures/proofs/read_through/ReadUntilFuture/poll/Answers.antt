use Rattle.std.proofs.Common.{rules, ◌≡◌, vec_capacity, sym, subst}
use Rattle.piper_lines.specs.Refusals.{IsReported}
use Rattle.piper_futures.specs.Reading.{LacksSpace}
use Rattle.piper_futures.specs.Writing.{FailsOnce}
use Rattle.piper_futures.proofs.ReadingOn.{told_once}
use Rattle.piper_futures.proofs.UntilOn.{read_through_then}
use Rattle.piper_futures.proofs.read_through.ReadUntilFuture.poll.Goals as goal

pub returns-in-Pending-clause-same : goal.returns-in-Pending-clause-same
returns-in-Pending-clause-same g c = λ output gave.
    let before = read_through_then g.R.AsyncBufRead.taken g.R.AsyncBufRead.known g.R.AsyncBufRead.saw g.R.AsyncBufRead.knows_end g.R.AsyncBufRead.woken g.R.AsyncBufRead.fails c.args.self.now.byte c.in-Some.reader c.poll_read_until.new.reader c.in-Some.bytes c.poll_read_until.new.bytes c.in-Pending.ensures.reaches c.poll_read_until.ensures.room c.poll_read_until.ensures.stays output gave in
    search rules

pub returns-in-Ready-Err-clause-value : goal.returns-in-Ready-Err-clause-value
returns-in-Ready-Err-clause-value g c =
    let same : c.unwrap-left.result.0 ≡ c.poll_read_until.new.reader = search rules in
    let came : c.unwrap-left.result.1.items ≡ c.poll_read_until.new.bytes.items = search rules in
    let own : IsReported c.in-Ready-Err.error (FailsOnce g.R.AsyncBufRead.fails c.unwrap-left.result.0) (LacksSpace (vec_capacity c.in-Some.bytes) c.unwrap-left.result.1.items (g.R.AsyncBufRead.known c.unwrap-left.result.0)) =
    subst (λ r. IsReported c.in-Ready-Err.error (FailsOnce g.R.AsyncBufRead.fails r) (LacksSpace (vec_capacity c.in-Some.bytes) c.unwrap-left.result.1.items (g.R.AsyncBufRead.known r))) (sym same)
    (subst (λ bs. IsReported c.in-Ready-Err.error (FailsOnce g.R.AsyncBufRead.fails c.poll_read_until.new.reader) (LacksSpace (vec_capacity c.in-Some.bytes) bs (g.R.AsyncBufRead.known c.poll_read_until.new.reader))) (sym came)
    (told_once g.R.AsyncBufRead.fails _ _ _ _ _ (λ lacks. lacks) (rw c.in-Ready-Err.field-0-is at c.in-Ready-Err.ensures.error))) in
    search rules
