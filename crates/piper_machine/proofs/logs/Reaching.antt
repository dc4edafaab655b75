-- One list of what both sides did leads the machine to where both are: by induction over the list.
-- What the open calls will still meet is free at each moment, and is settled by the lines that
-- come after.
use Rattle.std.proofs.Common.{◌≡◌, ℕ, ◌-◌, ◌≤◌, List, ◌∷◌, Bool, true, false, None, Some, refl, sym, ap, subst, ◌∙◌, arith, []}
use Rattle.piper_machine.specs.Types.{DestAct, SourceAct, Reader, Writer}
use Rattle.piper_machine.specs.Pipe.{Pipe, fresh}
use Rattle.piper_machine.proofs.Runs.{as_runs}
use Rattle.piper_machine.specs.logs.Reports.{events_of}
use Rattle.piper_machine.specs.logs.Line.{Line, met_head, met_tail, began, loaded_head, loaded_tail, loaded_closed, stored_head, stored_tail, stored_closed, loaded_slot, swapped, knew_empty, took, gave, failed, drew, refused, yielded, woke}
use Rattle.piper_machine.specs.logs.OneList.{AreInOrder, By, by, Finds, FindsCount, Words, did, fresh_words, words_after, words_of}
use Rattle.piper_machine.specs.logs.Reading.{AreReaderRuns, IsReaderNext, ReaderAt, fresh_reader, reader_after, reader_at}
use Rattle.piper_machine.specs.logs.Writing.{AreWriterRuns, IsWriterNext, WriterAt, fresh_writer, writer_after, writer_at}
use Rattle.piper_machine.specs.logs.OneRun.{AreLogs, IsLeft, IsOneRun}
use Rattle.piper_machine.specs.logs.Wide.{Act, IsOneWideRun, goes_beyond, is_beyond, next_of, or}
use Rattle.piper_machine.proofs.logs.Learning.{Kept, is_wide, kept-none, safe-of, steps_in}
use Rattle.piper_machine.proofs.logs.Filling.{all-lines}
use Rattle.piper_machine.proofs.logs.Joint.{Chance, Fits, pipe_at}
use Rattle.piper_machine.proofs.logs.ReaderFits.{reader-fits}
use Rattle.piper_machine.proofs.logs.WriterFits.{writer-fits}
use Rattle.piper_machine.proofs.logs.ReaderSteps as R
use Rattle.piper_machine.proofs.logs.ReaderBegins as RB
use Rattle.piper_machine.proofs.logs.WriterSteps as W
use Rattle.piper_machine.proofs.logs.WriterBegins as WB
use Rattle.piper_machine.proofs.logs.WriterGives as WG

module _ (capacity : ℕ) where
  reader-leads : (w : WriterAt) (l : Chance) (sources : List SourceAct) (r : ReaderAt) (s : Words) → Fits capacity r w s → (line : Line) → IsReaderNext capacity line r → Finds line s → Fits capacity (reader_after capacity line r) w (words_after line s) → R.ReaderLeads capacity w l sources r s line
  reader-leads w l sources r s fits (began opening) next finds after = RB.begins capacity w l sources r s fits opening next after
  reader-leads w l sources r s fits (loaded_tail count) next finds after = R.loads-tail capacity w l sources r s fits count next finds after
  reader-leads w l sources r s fits (loaded_closed b) next finds after = R.loads-closed capacity w l sources r s fits b next finds after
  reader-leads w l sources r s fits (stored_head bytes) next finds after = R.stores-head capacity w l sources r s fits bytes next finds after
  reader-leads w l sources r s fits stored_closed next finds after = R.stores-closed capacity w l sources r s fits next after
  reader-leads w l sources r s fits (loaded_slot side true) next finds after = R.finds-filled capacity w l sources r s fits side
  reader-leads w l sources r s fits (loaded_slot side false) next finds after = R.finds-empty capacity w l sources r s fits side next finds after
  reader-leads w l sources r s fits (swapped side old None) next finds after = R.takes capacity w l sources r s fits side old next finds after
  reader-leads w l sources r s fits (swapped side old (Some waker)) next finds after = R.registers-own capacity w l sources r s fits side old waker next after
  reader-leads w l sources r s fits knew_empty next finds after = R.knows-empty capacity w l sources r s fits next after
  reader-leads w l sources r s fits (took bytes) next finds after = R.takes-bytes capacity w l sources r s fits bytes next after
  reader-leads w l sources r s fits failed next finds after = R.fails capacity w l sources r s fits next after
  reader-leads w l sources r s fits (drew b) next finds after = R.draws capacity w l sources r s fits b next
  reader-leads w l sources r s fits refused next finds after = R.refuses-own capacity w l sources r s fits next after
  reader-leads w l sources r s fits (yielded waker) next finds after = R.yields-own capacity w l sources r s fits waker next after
  reader-leads w l sources r s fits (woke waker) next finds after = R.wakes capacity w l sources r s fits waker next after
  reader-leads w l sources r s fits (met_tail count) next finds after = R.learns-tail capacity w l sources r s fits count next finds after
  reader-leads w l sources r s fits line next finds after = absurd next

  writer-leads : (r : ReaderAt) (k : Chance) (acts : List DestAct) (w : WriterAt) (s : Words) → Fits capacity r w s → (line : Line) → IsWriterNext capacity line w → Finds line s → Fits capacity r (writer_after capacity line w) (words_after line s) → W.WriterLeads capacity r k acts w s line
  writer-leads r k acts w s fits (began opening) next finds after = WB.begins capacity r k acts w s fits opening next after
  writer-leads r k acts w s fits (loaded_head count) next finds after = W.loads-head capacity r k acts w s fits count next finds after
  writer-leads r k acts w s fits (loaded_closed b) next finds after = W.loads-closed capacity r k acts w s fits b next finds after
  writer-leads r k acts w s fits (stored_tail bytes) next finds after = W.stores-tail capacity r k acts w s fits bytes next after
  writer-leads r k acts w s fits stored_closed next finds after = W.stores-closed capacity r k acts w s fits next after
  writer-leads r k acts w s fits (loaded_slot side true) next finds after = W.finds-filled capacity r k acts w s fits side
  writer-leads r k acts w s fits (loaded_slot side false) next finds after = W.finds-empty capacity r k acts w s fits side next finds after
  writer-leads r k acts w s fits (swapped side old None) next finds after = W.takes capacity r k acts w s fits side old next finds after
  writer-leads r k acts w s fits (swapped side old (Some waker)) next finds after = W.registers-own capacity r k acts w s fits side old waker next after
  writer-leads r k acts w s fits knew_empty next finds after = W.knows-empty capacity r k acts w s fits next after
  writer-leads r k acts w s fits (gave bytes) next finds after = WG.gives capacity r k acts w s bytes next fits after
  writer-leads r k acts w s fits failed next finds after = WG.fails capacity r k acts w s next fits after
  writer-leads r k acts w s fits (drew b) next finds after = W.draws capacity r k acts w s fits b next
  writer-leads r k acts w s fits refused next finds after = W.refuses-own capacity r k acts w s fits next after
  writer-leads r k acts w s fits (yielded waker) next finds after = W.yields-own capacity r k acts w s fits waker next after
  writer-leads r k acts w s fits (woke waker) next finds after = W.wakes capacity r k acts w s fits waker next after
  writer-leads r k acts w s fits (met_head count) next finds after = W.learns-head capacity r k acts w s fits count next finds after
  writer-leads r k acts w s fits line next finds after = absurd next

  -- whether anything was done that the machine does not have
  abbrev beyond_among : List (By Line) → Bool
  beyond_among [] = false
  beyond_among (by side line ∷ before) = or (is_beyond line (next_of side capacity (did side before))) (beyond_among before)

  -- a run that reports what was done, and comes to this pipe
  abbrev Run : List (By Line) → Pipe → Type 0
  Run turns p = (acts : List Act) × Kept capacity acts p (events_of capacity turns) × (is_wide acts ≡ beyond_among turns)

  record Reached (turns : List (By Line)) : Type 0 where
    fits : Fits capacity (reader_at capacity (did Reader turns)) (writer_at capacity (did Writer turns)) (words_of turns)
    runs : (k : Chance) (acts : List DestAct) (l : Chance) (sources : List SourceAct) → Run turns
        (pipe_at capacity (reader_at capacity (did Reader turns)) (writer_at capacity (did Writer turns)) (words_of turns) k acts l sources)

  pub first-fits : 1 ≤ capacity → Fits capacity fresh_reader fresh_writer fresh_words
  first-fits some = grind arith

  first : 1 ≤ capacity → Reached []
  first some = record {
    fits = first-fits some;
    runs = λ k acts l sources. ([], subst (λ (x : ℕ). Kept capacity [] (record (fresh capacity) { room = x }) []) (let e : capacity ≡ capacity - 0 = omega arith in e) (kept-none capacity some), refl);
  }

  counted : (line : Line) (s : Words) → Finds line s → FindsCount line s
  counted line s finds = grind arith

  reader-more : (line : Line) (before : List (By Line)) → IsReaderNext capacity line (reader_at capacity (did Reader before)) → Finds line (words_of before) → Reached before → Reached (by Reader line ∷ before)
  reader-more line before next finds reached =
      let r : ReaderAt = reader_at capacity (did Reader before) in
      let w : WriterAt = writer_at capacity (did Writer before) in
      let s : Words = words_of before in
      let after = reader-fits capacity w r s reached.fits line next (counted line s finds) in
      record {
        fits = after;
        runs = λ k acts l sources.
            let step = reader-leads w l sources r s reached.fits line next finds after k acts in
            let run = reached.runs step.0 step.1 l sources in
            let more = step.2 run.0 (events_of capacity before) run.1 in
            (more.0, more.1, more.2 ∙ ap (or (is_beyond line (next_of Reader capacity (did Reader before)))) run.2);
      }

  writer-more : (line : Line) (before : List (By Line)) → IsWriterNext capacity line (writer_at capacity (did Writer before)) → Finds line (words_of before) → Reached before → Reached (by Writer line ∷ before)
  writer-more line before next finds reached =
      let r : ReaderAt = reader_at capacity (did Reader before) in
      let w : WriterAt = writer_at capacity (did Writer before) in
      let s : Words = words_of before in
      let after = writer-fits capacity r w s reached.fits line next (counted line s finds) in
      record {
        fits = after;
        runs = λ k acts l sources.
            let step = writer-leads r k acts w s reached.fits line next finds after l sources in
            let run = reached.runs k acts step.0 step.1 in
            let more = step.2 run.0 (events_of capacity before) run.1 in
            (more.0, more.1, more.2 ∙ ap (or (is_beyond line (next_of Writer capacity (did Writer before)))) run.2);
      }

  reaches : 1 ≤ capacity → (turns : List (By Line)) → AreInOrder turns → AreReaderRuns capacity (did Reader turns) → AreWriterRuns capacity (did Writer turns) → Reached turns
  reaches some [] order reader writer = first some
  reaches some (by Reader line ∷ before) order reader writer = reader-more line before reader.0 order.0 (reaches some before order.1 reader.1 writer)
  reaches some (by Writer line ∷ before) order reader writer = writer-more line before writer.0 order.0 (reaches some before order.1 reader writer.1)

  module _ (some : 1 ≤ capacity) (turns : List (By Line)) (order : AreInOrder turns) (reader : AreReaderRuns capacity (did Reader turns)) (writer : AreWriterRuns capacity (did Writer turns)) where
    abbrev there : Chance
    there = record { draws = false; registers = false }

    abbrev end_pipe : Pipe
    end_pipe = pipe_at capacity (reader_at capacity (did Reader turns)) (writer_at capacity (did Writer turns)) (words_of turns) there [] there []

    reached : Reached turns
    reached = reaches some turns order reader writer

    is-left : IsLeft capacity (did Reader turns) (did Writer turns) (words_of turns) end_pipe
    is-left = record {
      places = refl;
      unread = refl;
      is_closed = refl;
      reader_slot = refl;
      writer_slot = refl;
      known = refl;
      room = refl;
      reading = reached.fits.reads.draws;
      writing = reached.fits.writes.draws;
      reader_taken = refl;
      writer_taken = refl;
    }

    pub of-wide : IsOneWideRun capacity (did Reader turns) (did Writer turns)
    of-wide =
        let run = reached.runs there [] there [] in
        record {
          turns = turns;
          order = order;
          reader_did = refl;
          writer_did = refl;
          acts = run.0;
          pipe = end_pipe;
          runs = run.1.runs;
          left = is-left;
          safe = safe-of capacity run.0 end_pipe (events_of capacity turns) run.1;
        }

    pub of-turns : beyond_among turns ≡ false → IsOneRun capacity (did Reader turns) (did Writer turns)
    of-turns none =
        let run = reached.runs there [] there [] in
        let plain = run.1.plain (run.2 ∙ none) in
        record {
          turns = turns;
          order = order;
          reader_did = refl;
          writer_did = refl;
          steps = steps_in run.0;
          pipe = end_pipe;
          runs = as_runs (fresh capacity) end_pipe (steps_in run.0) [] (events_of capacity turns) plain.runs;
          left = is-left;
          lawful = plain.lawful;
          fronts = plain.fronts;
        }

  both-false : (a b : Bool) → or a b ≡ false → (a ≡ false) × (b ≡ false)
  both-false a b e = grind arith

  -- if neither side did such a thing, nothing such was done
  pub none-beyond : (turns : List (By Line)) → goes_beyond Reader capacity (did Reader turns) ≡ false → goes_beyond Writer capacity (did Writer turns) ≡ false → beyond_among turns ≡ false
  none-beyond [] reader writer = refl
  none-beyond (by Reader line ∷ before) reader writer =
      let parts = both-false (is_beyond line (next_of Reader capacity (did Reader before))) (goes_beyond Reader capacity (did Reader before)) reader in
      ap (λ (b : Bool). or b (beyond_among before)) parts.0 ∙ none-beyond before parts.1 writer
  none-beyond (by Writer line ∷ before) reader writer =
      let parts = both-false (is_beyond line (next_of Writer capacity (did Writer before))) (goes_beyond Writer capacity (did Writer before)) writer in
      ap (λ (b : Bool). or b (beyond_among before)) parts.0 ∙ none-beyond before reader parts.1

  -- from the lines of turns to those of logs
  module _ (reader writer : List Line) (turns : List (By Line)) (reader_did : did Reader turns ≡ reader) (writer_did : did Writer turns ≡ writer) (some : 1 ≤ capacity) (order : AreInOrder turns) (reads : AreReaderRuns capacity reader) (writes : AreWriterRuns capacity writer) where
    abbrev reads_there : AreReaderRuns capacity (did Reader turns)
    reads_there = subst (λ (x : List Line). AreReaderRuns capacity x) (sym reader_did) reads

    abbrev writes_there : AreWriterRuns capacity (did Writer turns)
    writes_there = subst (λ (x : List Line). AreWriterRuns capacity x) (sym writer_did) writes

    pub wide-of : IsOneWideRun capacity reader writer
    wide-of = subst (λ (x : List Line). IsOneWideRun capacity reader x) writer_did (subst (λ (x : List Line). IsOneWideRun capacity x (did Writer turns)) reader_did (of-wide some turns order reads_there writes_there))

    pub run-of : goes_beyond Reader capacity reader ≡ false → goes_beyond Writer capacity writer ≡ false → IsOneRun capacity reader writer
    run-of not_reader not_writer =
        let none = none-beyond turns (ap (goes_beyond Reader capacity) reader_did ∙ not_reader) (ap (goes_beyond Writer capacity) writer_did ∙ not_writer) in
        subst (λ (x : List Line). IsOneRun capacity reader x) writer_did (subst (λ (x : List Line). IsOneRun capacity x (did Writer turns)) reader_did (of-turns some turns order reads_there writes_there none))

  pub one-run : (reader writer : List Line) → AreLogs capacity reader writer → goes_beyond Reader capacity reader ≡ false → goes_beyond Writer capacity writer ≡ false → IsOneRun capacity reader writer
  one-run reader writer logs =
      let lines = all-lines reader writer logs.list in
      run-of reader writer lines.turns lines.reader_did lines.writer_did logs.some lines.order logs.reads logs.writes

  pub wide-run : (reader writer : List Line) → AreLogs capacity reader writer → IsOneWideRun capacity reader writer
  wide-run reader writer logs =
      let lines = all-lines reader writer logs.list in
      wide-of reader writer lines.turns lines.reader_did lines.writer_did logs.some lines.order logs.reads logs.writes
