use Rattle.std.proofs.Common.{subst}
use Rattle.piper_pump.specs.Ended.{EndsAs}
use Rattle.piper_pump.proofs.Passed.{passes}
use Rattle.piper_pump.proofs.outlet.pass.Goals as goal

pub returns : goal.returns
returns g c =
    let transfer = c.transfer-moved in
    let rest = c.report_rest in
    passes _ _ g.D.Destination.contents g.D.Destination.took g.D.Destination.flushed c.args.outlet.now transfer.new.dest rest.new.self transfer.result c.of.result
    transfer.ensures.moved transfer.ensures.flushed rest.ensures.drain rest.ensures.tees
    (subst (λ lacks. EndsAs transfer.result lacks c.of.result) c.lacks_some.ensures c.of.ensures)
