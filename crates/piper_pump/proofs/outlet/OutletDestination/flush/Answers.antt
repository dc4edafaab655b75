use Rattle.std.proofs.Common.{rules, ◌≡◌, length, subst, sym}
use Rattle.std.proofs.lemmas.List.{with_items_is}
use Rattle.std.specs.List.{All}
use Rattle.piper_pump.specs.Passed.{HasGot}
use Rattle.piper_pump.proofs.outlet.OutletDestination.flush.Goals as goal

pub returns-clause-taken : goal.returns-clause-taken
returns-clause-taken g c = λ names m got.
    let Copy = HasGot g.D.Destination.took names m in
    let lent = c.as_mut_slice.ensures.value in
    let size : length c.finish_all.new.tees ≡ c.args.self.now.tees.len = search rules in
    let back = with_items_is c.args.self.now.tees c.finish_all.new.tees size in
    subst (All Copy) (sym back) (c.finish_all.ensures names m (subst (All Copy) (sym lent) got))
