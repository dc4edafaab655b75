use Rattle.piper_futures.proofs.PiecesSent.{sent_then}
use Rattle.piper_futures.proofs.piece_sink.PieceSinkSinkVecU8.poll_ready.Goals as goal

pub returns-clause-history : goal.returns-clause-history
returns-clause-history g c = λ items sent. sent_then g.F.Framing.framed c.args.self.now.framing c.poll_write.new.self.framing items _ _ _ _ _ _ c.poll_write.ensures.kept.1 sent c.poll_write.ensures.sends c.poll_write.ensures.tells.1.0
