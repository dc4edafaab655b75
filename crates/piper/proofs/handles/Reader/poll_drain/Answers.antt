-- What the writer took is what the struct that holds it took.
use Rattle.std.proofs.Common.{rules, sym}
use Rattle.piper.proofs.OfStd.{drained_held}
use Rattle.piper.specs.declared.like.streams.StdWrite.{StdWrite}
use Rattle.piper.proofs.handles.Reader.poll_drain.Goals as goal

pub returns-clause-drained : goal.returns-clause-drained
returns-clause-drained g c =
    drained_held (λ (s : StdWrite g.row.W.Denot). s.object.now) _ _ _ _ g.W.StdWriter.full g.W.StdWriter.fails (λ a xs b passed. passed.1) (λ a full. full) (λ a e b failed. failed.1)
    _ _ (sym c.as_std_copy.ensures) c.new-dest.result c.poll_drain_with.new.dest _ _ c.new-dest.ensures.object (search rules) _ _ c.poll_drain_with.ensures.drained.0
