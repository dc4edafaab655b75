use Rattle.std.proofs.Common.{rules, ◌≡◌, Err, OnOk, ap, ◌∙◌}
use Rattle.std.specs.Io.KnownBytes.{IsAtEnd}
use Rattle.piper.specs.WriteView.{WriteView}
use Rattle.piper_transfer.proofs.Sides.{met_same, poured_kept, poured_same}
use Rattle.piper_transfer.proofs.Told.{ends_with_both, failed_writes_not}
use Rattle.piper_transfer.proofs.Whole.{none_known, whole}
use Rattle.piper_transfer.proofs.both_sides.Ready.transfer.Goals as goal

pub returns-in_err-filled-clause-moved : goal.returns-in_err-filled-clause-moved
returns-in_err-filled-clause-moved g c =
    let contents = g.D.Destination.contents in
    let took = g.D.Destination.took in
    let both = c.run_sides-both in
    let told = c.in_err-filled.ensures in
    let met = c.meet.ensures.met in
    let r1 = both.new.output.reader.side.end in
    let r2 = c.meet.new.self.side.end in
    let p = both.new.dest in
    let e = c.in_err-filled.field-0.0 in
    let is : c.from_residual.result ≡ Err e = search rules in
    let failed = failed_writes_not c.from_residual.result e (g.D.Destination.fails p) (g.D.Destination.full p) is told.reported in
    let ended : OnOk c.from_residual.result (IsAtEnd (g.S.Source.remaining both.new.source)) = rw is tt in
    let poured = poured_same contents took _ p _ r1 r2 told.poured (met_same r1 r2 met.reader) in
    let fifo = met.fifo ∙ ap (λ (v : WriteView). v.sent) met.writer in
    whole contents took _ p _ _ _ _ _ _ _ c.requires.ready.input.sent c.requires.ready.output.taken told.fed poured fifo (λ writes. absurd (failed writes)) ended

pub returns-clause-moved : goal.returns-clause-moved
returns-clause-moved g c =
    let contents = g.D.Destination.contents in
    let took = g.D.Destination.took in
    let both = c.run_sides-both in
    let told = c.in_ok-filled.ensures in
    let met = c.meet.ensures.met in
    let w1 = both.new.input.writer.side.end in
    let w2 = c.meet.new.other.side.end in
    let r1 = both.new.output.reader.side.end in
    let r2 = c.meet.new.self.side.end in
    let p = both.new.dest in
    let q = c.flush.new.dest in
    let sent : w2.sent ≡ w1.sent = ap (λ (v : WriteView). v.sent) met.writer in
    let poured = poured_same contents took _ p _ r1 r2 told.poured (met_same r1 r2 met.reader) in
    let flushed = poured_kept contents took _ p q _ r2 poured c.flush.ensures.kept c.flush.ensures.taken in
    let none = none_known r1 r2 w1 w2 told.drained met.reader met.fifo sent met.all met.kept in
    let ended = ends_with_both c.flush.result c.in_ok-filled.filled c.and.result (IsAtEnd (g.S.Source.remaining both.new.source)) (search rules) told.input_ended in
    whole contents took _ q _ _ _ _ _ _ _ c.requires.ready.input.sent c.requires.ready.output.taken told.fed flushed (met.fifo ∙ sent) (λ _. none) ended
