-- The trait says less: what was sent stays so also where a poll failed.
use Rattle.std.proofs.Common.{rules}
use Rattle.piper_futures.proofs.PiecesSent.{unless_failed}
use Rattle.piper_futures.proofs.piece_sink.PieceSinkSinkVecU8.TheImpl.Goals as goal

pub poll_ready-tells : goal.poll_ready-tells
poll_ready-tells g w c = record {
  ready = search rules;
  again = search rules;
  same = search rules;
  history = unless_failed c.result _ c.ensures.history;
  registered = search rules;
  kept = search rules;
}

pub poll_flush-tells : goal.poll_flush-tells
poll_flush-tells g w c = record {
  goes = search rules;
  flushed = search rules;
  again = search rules;
  same = search rules;
  history = unless_failed c.result _ c.ensures.history;
  registered = search rules;
  kept = search rules;
}

pub poll_close-tells : goal.poll_close-tells
poll_close-tells g w c = record {
  closed = search rules;
  again = search rules;
  history = unless_failed c.result _ c.ensures.history;
  registered = search rules;
  kept = search rules;
}
