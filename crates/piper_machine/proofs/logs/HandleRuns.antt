-- The logs of two handles are counted logs, and so one run.
use Rattle.std.proofs.Common.{◌≡◌, ℕ, List, ◌++◌, false, sym, ap, ◌∙◌, []}
use Rattle.piper_machine.specs.Types.{Reader, Writer}
use Rattle.piper_protocol.specs.Lines as handle
use Rattle.piper_protocol.specs.Told.{AreTrueLogs, have_met}
use Rattle.piper_machine.specs.logs.OfHandles.{lines_in}
use Rattle.piper_machine.specs.logs.OneRun.{AreCountedLogs}
use Rattle.piper_machine.specs.logs.Wide.{IsOneWideRun}
use Rattle.piper_machine.proofs.logs.Counting.{counted-wide}
use Rattle.piper_machine.proofs.logs.HandleLines.{accesses-same, consumed-same, published-same}
use Rattle.piper_machine.proofs.logs.HandleReads.{reads}
use Rattle.piper_machine.proofs.logs.HandleWrites.{writes}
use Rattle.piper_machine.proofs.logs.Listed.{listed}

pub handles-wide : (capacity : ℕ) (reader writer : List handle.Line) (taken sent : List ℕ) → AreTrueLogs capacity reader writer taken sent → have_met reader ≡ false → have_met writer ≡ false
    → IsOneWideRun capacity (lines_in Reader reader) (lines_in Writer writer)
handles-wide capacity reader writer taken sent logs reader_apart writer_apart =
    let reading = reads capacity logs.some reader taken logs.reads in
    let writing = writes capacity logs.some writer sent logs.writes in
    let counted : AreCountedLogs capacity (lines_in Reader reader) (lines_in Writer writer) =
    record {
      some = logs.some;
      list = listed (lines_in Reader reader) (lines_in Writer writer) (handle.accesses_in reader) (handle.accesses_in writer) logs.list (accesses-same Reader [] reader reader_apart) (accesses-same Writer [] writer writer_apart);
      reads = reading;
      writes = writing;
      rest = logs.rest;
      bytes = ap (λ (x : List ℕ). x ++ logs.rest) (consumed-same capacity [] reader reader_apart reading ∙ logs.reads.bytes) ∙ logs.order ∙ sym (published-same capacity [] writer writer_apart writing ∙ logs.writes.bytes);
    } in
    counted-wide capacity (lines_in Reader reader) (lines_in Writer writer) counted
