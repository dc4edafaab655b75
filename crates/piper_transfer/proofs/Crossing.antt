-- What the side that reads the input is lent may go to another thread.
use denote.RattleType.{RattleType}
use denote.Ref.{NamedLft}
use denote.Param.{param}
use denote.Param.Send.{IsSend, IsSync, sendable}
use denote.Struct.Field.{shr_ref_field, mut_ref_field, u64-field}
use Rattle.std.proofs.Crossing.{crosses}
use Rattle.piper.proofs.handles.Writer.TheSendSync as writer
use Rattle.piper.specs.contracts.handles.Writer as Writer
use Rattle.piper_transfer.specs.contracts.meter.Meter as Meter
use Rattle.piper_transfer.specs.contracts.start.Start as Start
use Rattle.piper_transfer.specs.contracts.turns.Turns as Turns
use Rattle.piper_transfer.proofs.meter.Meter.TheSendSync as meter
use Rattle.piper_transfer.proofs.start.Start.TheSendSync as start
use Rattle.piper_transfer.proofs.turns.Turns.TheSendSync as turns

pub writer_send : IsSend Writer.the_row
writer_send = search (sendable, crosses, writer.the_send) depth 20

-- each as it is lent, since a search that goes down through all of them at once runs out of steps
pub writer_lent : (ℓ : NamedLft) → IsSend (mut_ref_field ℓ Writer.the_row tt).row
writer_lent ℓ = search (sendable, writer_send)

pub start_lent : (ℓ : NamedLft) → IsSend (shr_ref_field ℓ Start.the_row tt).row
start_lent ℓ = search (sendable, start.the_sync)

pub turns_lent : (ℓ : NamedLft) → IsSend (mut_ref_field ℓ Turns.the_row tt).row
turns_lent ℓ = search (sendable, turns.the_send)

pub meter_lent : (ℓ : NamedLft) → IsSend (shr_ref_field ℓ Meter.the_row tt).row
meter_lent ℓ = search (sendable, meter.the_sync)

pub count_lent : (ℓ : NamedLft) → IsSend (shr_ref_field ℓ (u64-field).row tt).row
count_lent ℓ = search sendable

pub handle_lent : (ℓ : NamedLft) (R : RattleType) → IsSync (param 0 R) → IsSend (shr_ref_field ℓ (param 0 R) tt).row
handle_lent ℓ R y = search sendable

pub source_lent : (ℓ : NamedLft) (S : RattleType) → IsSend (param 1 S) → IsSend (mut_ref_field ℓ (param 1 S) tt).row
source_lent ℓ S s = search sendable
