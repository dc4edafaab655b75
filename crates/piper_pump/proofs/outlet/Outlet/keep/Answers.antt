use Rattle.std.proofs.Common.{rules, ◌≡◌, length, subst, sym}
use Rattle.std.proofs.lemmas.List.{with_items_is}
use Rattle.std.specs.List.{All}
use Rattle.piper_pump.specs.Passed.{HasGot}
use Rattle.piper_pump.proofs.outlet.Outlet.keep.Goals as goal

pub returns-clause-tees : goal.returns-clause-tees
returns-clause-tees g c = λ names m got.
    let Copy = HasGot g.D.Destination.took names in
    let lent = c.as_mut_slice.ensures.value in
    let size : length c.give_all.new.tees ≡ c.args.self.now.tees.len = search rules in
    let back = with_items_is c.args.self.now.tees c.give_all.new.tees size in
    subst (All (Copy _)) (sym back) (c.give_all.ensures names m (subst (All (Copy m)) (sym lent) got))
