-- A client that fails is an echo that fails.
use Rattle.std.proofs.Common.{inr}
use Rattle.piper_duplex.proofs.Talking.{if_err}
use Rattle.piper_duplex.proofs.engine.session.echo_through.Goals as goal

pub returns-clause-failed : goal.returns-clause-failed
returns-clause-failed g c = if_err _ _ _ c.exchange-printed.ensures.failed (λ e fails. inr fails)
