use Rattle.std.proofs.Common.{◌∙◌}
use Rattle.std.specs.List.{flat_map}
use Rattle.piper_futures.proofs.PiecesSent.{sent_then, sent_same}
use Rattle.piper_futures.proofs.piece_sink.PieceSinkSinkVecU8.poll_flush.Goals as goal

pub returns-in-Ready-Ok-clause-history : goal.returns-in-Ready-Ok-clause-history
returns-in-Ready-Ok-clause-history g c = λ items sent.
    sent_same (flat_map (g.F.Framing.framed c.poll_write.new.self.framing) items) _ _ _ _ _ (sent_then g.F.Framing.framed c.args.self.now.framing c.poll_write.new.self.framing items _ _ _ _ _ _ c.poll_write.ensures.kept.1 sent c.poll_write.ensures.sends c.poll_write.ensures.tells.1.0) (λ seen. c.poll_flush.ensures.saw ∙ seen) c.poll_flush.ensures.sent

pub returns-in_default-clause-history : goal.returns-in_default-clause-history
returns-in_default-clause-history g c = λ items sent. sent_then g.F.Framing.framed c.args.self.now.framing c.poll_write.new.self.framing items _ _ _ _ _ _ c.poll_write.ensures.kept.1 sent c.poll_write.ensures.sends c.poll_write.ensures.tells.1.0

pub returns-in_default-2-clause-history : goal.returns-in_default-2-clause-history
returns-in_default-2-clause-history g c = λ items sent. sent_then g.F.Framing.framed c.args.self.now.framing c.poll_write.new.self.framing items _ _ _ _ _ _ c.poll_write.ensures.kept.1 sent c.poll_write.ensures.sends c.poll_write.ensures.tells.1.0
