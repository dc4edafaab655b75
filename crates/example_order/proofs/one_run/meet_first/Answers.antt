-- What a meet says of both logs is what the model's theorem asks for.
use Rattle.std.proofs.Common.{◌≡◌, ℕ, ap, sym, subst}
use Rattle.piper_ring.specs.ReadView.{ReadView}
use Rattle.piper_ring.specs.Log.{Log}
use Rattle.piper_protocol.specs.declared.table.Side.TheVariants.{Reader, Writer}
use Rattle.piper.specs.ReaderCalls.{HaveTrueLogs, LogsMeet}
use Rattle.piper_machine.specs.logs.OfHandles.{lines_in}
use Rattle.piper_machine.specs.logs.Wide.{IsOneWideRun}
use Rattle.example_order.proofs.one_run.meet_first.Goals as goal

pub returns : goal.returns
unfolding HaveTrueLogs LogsMeet
returns c =
    let met = c.meet.ensures.met in
    let logs = c.meet.ensures.logs in
    let read = c.args.reader.now.side.log.lines in
    let written = c.args.writer.now.side.log.lines in record {
      read = read;
      written = written;
      reader = (_, ap (λ (l : Log). l.lines) logs.1);
      writer = (_, ap (λ (l : Log). l.lines) logs.2);
      run = subst (λ (k : ℕ). IsOneWideRun k (lines_in Reader read) (lines_in Writer written)) (sym (ap (λ (v : ReadView). v.capacity) met.reader))
          (c.handles_are_one_run.ensures _ read written _ _ logs.0 c.requires.first.0 c.requires.first.1);
    }
