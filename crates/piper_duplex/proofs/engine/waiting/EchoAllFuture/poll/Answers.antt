-- What a poll of the echo gives, and what it hands on to the next one.
use Rattle.piper_duplex.proofs.EchoingAll.{gives_later, gives_now, returns_pieces}
use Rattle.piper_duplex.proofs.engine.waiting.EchoAllFuture.poll.Goals as goal

pub returns-clause-value : goal.returns-clause-value
returns-clause-value g c =
    let polled = c.poll.ensures in
    gives_now _ _ _ _ _ _ _ _ c.args.self.now (record { lines = c.poll.new.lines; writer = c.poll.new.writer; echo = c.poll.new.self })
    (returns_pieces _ _ _ _ _ _ _ _ _ _ _ _ polled.echoes polled.stays.0.0) c.poll.new.cx c.poll.result polled.ended polled.closed polled.error

pub returns-clause-same : goal.returns-clause-same
returns-clause-same g c =
    let polled = c.poll.ensures in
    gives_later _ _ _ _ _ _ _ _ c.args.self.now (record { lines = c.poll.new.lines; writer = c.poll.new.writer; echo = c.poll.new.self })
    (returns_pieces _ _ _ _ _ _ _ _ _ _ _ _ polled.echoes polled.stays.0.0) c.poll.result
