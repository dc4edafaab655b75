use Rattle.std.proofs.Common.{◌<◌, ◌++◌, length, rules, arith}
use Rattle.std.proofs.lemmas.List.Elements.{AllWithin-more_set}
use Rattle.piper_pump.specs.Passed.{HasGot}
use Rattle.piper_pump.proofs.Elements.{AllWithin-rest_set}
use Rattle.piper_pump.proofs.tees.give_all.Goals as goal

pub loop-tee-preserved : goal.loop-tee-preserved
loop-tee-preserved g c =
    let Copy = HasGot g.D.Destination.took in
    let i = c.loop-tee.tee-index in
    let tees = c.loop-tee.tees in
    let before = c.loop-tee.invariant in
    let inside : i < length tees = search rules in
    record {
      given = λ names m all. AllWithin-more_set tees i c.give.new.self inside (Copy names (m ++ c.args.bytes.now)) (before.given names m all)
          (c.give.ensures names m (before.rest names m all i c.tee-item.result (omega arith) inside));
      rest = λ names m all. AllWithin-rest_set (Copy names m) tees i c.give.new.self (before.rest names m all);
    }

pub returns : goal.returns
returns g c = λ names m all k d inside.
    c.loop-tee.invariant.given names m all k d (omega arith) (search rules)
