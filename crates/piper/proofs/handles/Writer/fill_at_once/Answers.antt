-- Nothing is moved where the look is not true.
use Rattle.std.proofs.Common.{Ok, refl, inr}
use Rattle.futures.specs.declared.task.Poll.TheVariants.{Ready, Pending}
use Rattle.piper.proofs.LookingIn.{fills_none}
use Rattle.piper.proofs.handles.Writer.fill_at_once.Goals as goal

pub returns-in-Closed-clause-filled : goal.returns-in-Closed-clause-filled
returns-in-Closed-clause-filled g c =
    fills_none _ _ _ (Ready (Ok 0)) _ _ _ c.look_now.ensures.looked (g.met.R.ReadLike.gives_nothing _, refl) (inr c.in-Closed.ensures.found)

pub returns-in-NotReady-clause-filled : goal.returns-in-NotReady-clause-filled
returns-in-NotReady-clause-filled g c =
    fills_none _ _ _ Pending _ _ _ c.look_now.ensures.looked (refl, refl) tt
