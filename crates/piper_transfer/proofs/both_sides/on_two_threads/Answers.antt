-- All that the side which reads the input is lent may go to another thread.
use denote.Ref.{NamedLft}
use denote.Param.{param}
use denote.Param.Send.{sendable, IsSend, IsSync}
use Rattle.std.proofs.Crossing.{crosses}
use Rattle.piper_transfer.proofs.Crossing.{writer_lent, start_lent, turns_lent, meter_lent, count_lent, handle_lent, source_lent}
use Rattle.piper_transfer.proofs.both_sides.on_two_threads.Goals as goal

pub join_mut-requires-send-F : goal.join_mut-requires-send-F
join_mut-requires-send-F g c κs within =
    let send_S : IsSend (param 1 g.row.S) = c.type_bounds.send-S in
    let sync_R : IsSync (param 0 g.row.R) = c.type_bounds.sync-R in
    let handle = λ (ℓ : NamedLft). handle_lent ℓ g.row.R sync_R in
    let source = λ (ℓ : NamedLft). source_lent ℓ g.row.S send_S in
    search (sendable, crosses, writer_lent, start_lent, turns_lent, meter_lent, count_lent, handle, source) depth 30
