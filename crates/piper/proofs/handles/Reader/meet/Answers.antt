-- Who waits with something to do had its waker taken after the other's last look.
use Rattle.std.proofs.Common.{rules, ◌∙◌, sym, ap, length, length-append, inl, arith}
use Rattle.piper_ring.specs.ReadView.{ReadView}
use Rattle.piper_ring.specs.Slot.{Stored}
use Rattle.piper_ring.specs.WriteView.{WriteView}
use Rattle.piper.specs.ReaderCalls.{HaveTrueLogs, LogsMeet}
use Rattle.piper.proofs.RoomOrNone.{and_open, either_less, news_by, none_or_told, room_or_none}
use Rattle.piper.proofs.handles.Reader.meet.Goals as goal

pub returns-clause-logs : goal.returns-clause-logs
unfolding HaveTrueLogs LogsMeet
returns-clause-logs c = (c.meet.ensures.logs, search rules, search rules)

pub returns-clause-woken : goal.returns-clause-woken
returns-clause-woken c =
    let met = c.meet.ensures.ends in
    let cap = c.meet.ensures.capacity in record {
      reader = λ waits rests.
          none_or_told c.meet.new.self.end.known (length c.args.self.now.side.end.taken) (length c.args.other.now.side.end.sent) _ _ (ap (λ (s : Stored). s.closed) rests)
          (omega (arith, ap length met.fifo, length-append c.meet.new.self.end.taken c.meet.new.self.end.known, ap (λ (r : ReadView). length r.taken) met.reader.rest, ap (λ (w : WriteView). length w.sent) met.writer.rest))
          (λ news. c.meet.ensures.reader waits (news_by _ _ rests news));
      writer = λ waits rests.
          and_open _ _ _
          (room_or_none _ (length c.args.other.now.side.end.sent) c.args.self.now.side.slots.stored.count _ _ _ met.room
          (omega (arith, ap length met.fifo, length-append c.meet.new.self.end.taken c.meet.new.self.end.known, ap (λ (s : Stored). s.count) rests, ap (λ (r : ReadView). length r.taken) met.reader.rest, ap (λ (w : WriteView). length w.sent) met.writer.rest))
          (λ less. c.meet.ensures.writer waits (inl (omega (arith, less, cap.0, ap (λ (r : ReadView). r.capacity) met.reader.rest)))))
          (sym met.other_shut ∙ ap (λ (w : WriteView). w.saw) met.writer.rest ∙ waits.stays_open);
      awake = λ reads rests writes writer_rests.
          either_less (length c.args.self.now.side.end.taken) (length c.args.other.now.side.end.sent) c.args.self.now.side.end.capacity cap.1
          (λ less. c.meet.ensures.reader reads (inl (omega (arith, less, ap (λ (s : Stored). length s.bytes) writer_rests))))
          (λ less. c.meet.ensures.writer writes (inl (omega (arith, less, cap.0, ap (λ (s : Stored). s.count) rests))));
    }
