-- That std returned it is what a call of this function says.
use Rattle.piper_protocol.specs.Reported.{as_failure, as_reported}
use Rattle.piper_protocol.proofs.reported.reported.Goals as goal

pub returns-clause-reported : goal.returns-clause-reported
returns-clause-reported g c = as_reported c.args.returned

pub returns-clause-error : goal.returns-clause-error
returns-clause-error g c = as_failure c.args.returned
