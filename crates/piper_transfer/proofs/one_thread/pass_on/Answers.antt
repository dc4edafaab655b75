-- Once all known bytes are written and both handles meet, no byte is known.
use Rattle.std.proofs.Common.{ap, rules}
use Rattle.piper.specs.ReadView.{ReadView}
use Rattle.piper.specs.WriteView.{WriteView}
use Rattle.piper_transfer.proofs.Sides.{room_again, taken_all}
use Rattle.piper_transfer.proofs.one_thread.pass_on.Goals as goal

pub returns-clause-room : goal.returns-clause-room
returns-clause-room g c =
    let first = c.meet.ensures.met in
    let second = c.meet-2.ensures.met in
    let drained = c.drain_known.ensures in
    room_again c.meet.new.self.side.end c.drain_known.new.reader.side.end c.meet-2.new.self.side.end
    c.meet.new.other.side.end c.meet-2.new.other.side.end
    first.fifo drained.known (search rules) (ap (λ (v : ReadView). v.taken) second.reader) second.fifo (ap (λ (v : WriteView). v.sent) second.writer)
    second.room (search rules)

pub returns-clause-all : goal.returns-clause-all
returns-clause-all g c =
    let first = c.meet.ensures.met in
    let second = c.meet-2.ensures.met in
    let drained = c.drain_known.ensures in
    taken_all c.meet.new.self.side.end c.drain_known.new.reader.side.end c.meet-2.new.self.side.end
    c.meet.new.other.side.end c.meet-2.new.other.side.end
    first.fifo drained.known (search rules) (ap (λ (v : ReadView). v.taken) second.reader) (ap (λ (v : WriteView). v.sent) second.writer)
