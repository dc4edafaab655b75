-- What the reader gave is what the struct that holds it gave.
use Rattle.std.proofs.Common.{rules, sym}
use Rattle.piper.proofs.OfStd.{filled_held}
use Rattle.piper.specs.declared.like.streams.StdRead.{StdRead}
use Rattle.piper.proofs.handles.Writer.poll_fill.Goals as goal

pub returns-clause-filled : goal.returns-clause-filled
returns-clause-filled g c =
    filled_held (λ (s : StdRead g.row.R.Denot). s.object.now) _ _ _ _ _ g.R.StdReader.fails (λ a xs b passed. passed.1) (λ a dry. dry) (λ a e b failed. failed.1)
    _ _ (sym c.as_std_copy.ensures) c.new-source.result c.poll_fill_with.new.source _ _ c.new-source.ensures.object (search rules) _ _ c.poll_fill_with.ensures.filled.0
