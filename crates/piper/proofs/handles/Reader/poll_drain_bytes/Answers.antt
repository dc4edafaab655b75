-- What is taken is at the front of the slice.
use Rattle.std.proofs.Common.{rules, refl, sym}
use Rattle.piper.proofs.Front.{drains_slice}
use Rattle.piper.proofs.handles.Reader.poll_drain_bytes.Goals as goal

pub returns-clause-drained : goal.returns-clause-drained
returns-clause-drained c =
    drains_slice (λ s. s.bytes.now) (λ s. s.place) _ _ (λ s xs t took. (took.1, took.2)) _ _ _ _ c.poll_drain_with.new.dest _ _ refl refl (search rules) (search rules) (search rules)
    (rw (sym c.as_slice_copy.ensures) at c.poll_drain_with.ensures.drained.0)
