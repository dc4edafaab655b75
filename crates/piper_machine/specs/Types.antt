-- The types of the call table and of the machine, and the variants that are named without their type.
pub use Rattle.piper_protocol.specs.declared.table.Side.{Side}
pub use Rattle.piper_protocol.specs.declared.table.Side.TheVariants.{Reader, Writer}
pub use Rattle.piper_protocol.specs.declared.table.Query.{Query}
pub use Rattle.piper_protocol.specs.declared.table.Query.TheVariants.{IsEmpty, IsFull, Len}
pub use Rattle.piper_protocol.specs.declared.table.Form.{Form}
pub use Rattle.piper_protocol.specs.declared.table.Form.TheVariants.{Polling, Try}
pub use Rattle.piper_protocol.specs.declared.table.Purpose.{Purpose}
pub use Rattle.piper_protocol.specs.declared.table.Action.{Action}
pub use Rattle.piper_protocol.specs.declared.table.AfterRead.{AfterRead}
pub use Rattle.piper_protocol.specs.declared.table.AfterWrite.{AfterWrite}
pub use Rattle.piper_protocol.specs.declared.table.ReadPoint.{ReadPoint}
pub use Rattle.piper_protocol.specs.declared.table.WritePoint.{WritePoint}
pub use Rattle.piper_protocol.specs.declared.table.Found.{Found}
pub use Rattle.piper_protocol.specs.declared.table.Found.TheVariants.{Granted, IndexLoaded, Moved, Nothing, Unread, Waker}
pub use Rattle.piper_protocol.specs.declared.table.TheConstants.{MOST_A_ROUND}
pub use Rattle.piper_protocol.specs.declared.answer.Answer.{Answer}
pub use Rattle.piper_protocol.specs.declared.answer.Answer.TheVariants.{Count, Done, Lent}
pub use Rattle.piper_protocol.specs.declared.answer.Polled.{Polled}
pub use Rattle.piper_protocol.specs.declared.answer.Polled.TheVariants.{Memory, Pending, Ready}
pub use Rattle.piper_protocol.specs.declared.answer.Failed.{Failed}
pub use Rattle.piper_machine.specs.declared.calls.Call.{Call}
pub use Rattle.piper_machine.specs.declared.calls.Kind.{Kind}
pub use Rattle.piper_machine.specs.declared.calls.OpenCall.{OpenCall}
pub use Rattle.piper_machine.specs.declared.calls.SideState.{SideState}
pub use Rattle.piper_machine.specs.declared.calls.SideState.TheVariants.{Busy}
pub use Rattle.piper_machine.specs.declared.calls.Step.{Step}
pub use Rattle.piper_machine.specs.declared.calls.Step.TheVariants.{Begin, Go, Put}
pub use Rattle.piper_machine.specs.declared.destination.Destination.{Destination}
pub use Rattle.piper_machine.specs.declared.destination.Destination.TheVariants.{Acts, Slice}
pub use Rattle.piper_machine.specs.declared.events.Event.{Event}
pub use Rattle.piper_machine.specs.declared.events.Event.TheVariants.{Answered, Began, Closed, Consumed, Looked, Published, Registered, Woken}
pub use Rattle.piper_machine.specs.declared.events.Seen.{Seen}
pub use Rattle.piper_machine.specs.declared.polling.Context.{Context}
pub use Rattle.piper_machine.specs.declared.polling.Luck.{Luck}
pub use Rattle.piper_machine.specs.declared.refusals.StepRefusal.{StepRefusal}
pub use Rattle.piper_machine.specs.declared.scripted.DestAct.{DestAct}
pub use Rattle.piper_machine.specs.declared.scripted.SourceAct.{SourceAct}
