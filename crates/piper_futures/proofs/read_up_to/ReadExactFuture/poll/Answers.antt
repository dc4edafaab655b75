use Rattle.std.proofs.Common.{rules, ◌≡◌, vec_capacity, sym, subst}
use Rattle.piper_lines.specs.Refusals.{IsReported, LacksRoom}
use Rattle.piper_futures.specs.Writing.{FailsOnce}
use Rattle.piper_futures.proofs.ReadingOn.{told_once}
use Rattle.piper_futures.proofs.read_up_to.ReadExactFuture.poll.Goals as goal

pub returns-in-Ready-Err-clause-value : goal.returns-in-Ready-Err-clause-value
returns-in-Ready-Err-clause-value g c =
    let same : c.unwrap-left.result.0 ≡ c.fill_up.new.reader = search rules in
    let came : c.unwrap-left.result.1.items ≡ c.fill_up.new.gathered.items = search rules in
    let own : IsReported c.in-Ready-Err.error (FailsOnce g.R.AsyncBufRead.fails c.unwrap-left.result.0) (LacksRoom c.args.self.now.size (vec_capacity c.in-Some.bytes) c.unwrap-left.result.1.items (g.R.AsyncBufRead.known c.unwrap-left.result.0)) =
    subst (λ r. IsReported c.in-Ready-Err.error (FailsOnce g.R.AsyncBufRead.fails r) (LacksRoom c.args.self.now.size (vec_capacity c.in-Some.bytes) c.unwrap-left.result.1.items (g.R.AsyncBufRead.known r))) (sym same)
    (subst (λ bs. IsReported c.in-Ready-Err.error (FailsOnce g.R.AsyncBufRead.fails c.fill_up.new.reader) (LacksRoom c.args.self.now.size (vec_capacity c.in-Some.bytes) bs (g.R.AsyncBufRead.known c.fill_up.new.reader))) (sym came)
    (told_once g.R.AsyncBufRead.fails _ _ _ _ _ (λ lacks. lacks) (rw c.in-Ready-Err.field-0-is at c.in-Ready-Err.ensures.error))) in
    search rules
