use Rattle.std.proofs.Common.{◌≡◌, [], drop, Ok, arith}
use Rattle.std.proofs.lemmas.List.{drop_all}
use Rattle.futures.specs.declared.task.Poll.TheVariants.{Ready}
use Rattle.piper_lines.specs.declared.write_all.Written.TheVariants.{Whole}
use Rattle.piper_lines.proofs.Sending.{sends_both, sends_front}
use Rattle.piper_lines.proofs.write_all.poll_write_both.Goals as goal

pub returns-in-Ready-Ok-Whole-clause-sends : goal.returns-in-Ready-Ok-Whole-clause-sends
returns-in-Ready-Ok-Whole-clause-sends g c =
    let is_whole : c.poll_write_all.result ≡ Ready (Ok Whole) = cc in
    let whole = c.poll_write_all.ensures.within.1 is_whole in
    let none : drop c.poll_write_all.new.written c.args.front.now ≡ [] = drop_all _ c.args.front.now (omega arith) in
    sends_both _ _ _ _ _ _ _ _ _ _ c.poll_write_all.ensures.sends none c.poll_write_all-in-Ready-Ok-Whole.ensures.sends
    c.poll_write_all.ensures.stays.0 c.poll_write_all-in-Ready-Ok-Whole.ensures.stays.0

pub returns-in_default-clause-sends : goal.returns-in_default-clause-sends
returns-in_default-clause-sends g c = sends_front _ _ _ _ _ _ _ c.poll_write_all.ensures.sends

pub returns-in_default-2-clause-sends : goal.returns-in_default-2-clause-sends
returns-in_default-2-clause-sends g c = sends_front _ _ _ _ _ _ _ c.poll_write_all.ensures.sends

pub returns-in_default-3-clause-sends : goal.returns-in_default-3-clause-sends
returns-in_default-3-clause-sends g c = sends_front _ _ _ _ _ _ _ c.poll_write_all.ensures.sends
