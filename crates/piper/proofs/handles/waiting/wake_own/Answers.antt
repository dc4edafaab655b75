-- The waker that came out is the one that was called.
use Rattle.std.proofs.Common.{false, inl, inr}
use Rattle.piper_protocol.specs.declared.table.Found.TheVariants.{Waker as waker}
use Rattle.piper.proofs.Calling.{none_own}
use Rattle.piper.proofs.handles.waiting.wake_own.Goals as goal

pub returns-in-Some-clause-called : goal.returns-in-Some-clause-called
returns-in-Some-clause-called g c = inl (c.in-Some.waker, c.in-Some.ensures.out.taken, c.call.ensures.called)

pub returns-in_default-clause-called : goal.returns-in_default-clause-called
returns-in_default-clause-called g c = inr (none_own g.E.SlotEnd.READS c.args.side.now.slots.waits c.args.side.now.slots.tickets (waker false) _ _ c.in_default.ensures.side.log)
