-- What came out of the slot was dropped.
use Rattle.piper.proofs.Calling.{lets_go}
use Rattle.piper.proofs.handles.waiting.let_own_go.Goals as goal

pub returns-then-is_registered-clause-dropped : goal.returns-then-is_registered-clause-dropped
returns-then-is_registered-clause-dropped g c =
    let kept = c.is_registered.ensures.some c.if-is_registered.true in
    lets_go _ c.args.side.now.slots _ _ _ _ kept.slots c.take_registered.ensures.out c.let_go.ensures c.take_registered.ensures.side.log
