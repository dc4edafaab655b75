-- Counts and the beginning of what was published say what the reader took at each moment.
use Rattle.std.proofs.Common.{◌≡◌, ℕ, ◌+◌, ◌≤◌, List, ◌∷◌, ◌++◌, length, take, drop, refl, sym, ap, subst, ◌∙◌, arith, append_assoc, append-nil, length-append, false, []}
use Rattle.std.proofs.lemmas.List.{take-append-drop, take-append-le}
use Rattle.std.proofs.Math.Seq.{take-append_seam, drop-append_seam}
use Rattle.piper_machine.specs.Types.{Reader, Writer}
use Rattle.piper_machine.specs.logs.Line.{Line}
use Rattle.piper_machine.specs.logs.Moved.{consumed, consumed_by, published, published_by}
use Rattle.piper_machine.specs.logs.OneList.{AreInOrder, AreOrdered, By, by, Finds, FindsCount, Words, did, words_after, words_of}
use Rattle.piper_machine.specs.logs.OneRun.{AreCountedLogs, IsOneRun}
use Rattle.piper_machine.specs.logs.Wide.{IsOneWideRun, goes_beyond}
use Rattle.piper_machine.specs.logs.Reading.{AreReaderRuns, IsReaderNext, ReaderAt, reader_at}
use Rattle.piper_machine.specs.logs.Writing.{AreWriterRuns, IsWriterNext, WriterAt, writer_at}
use Rattle.piper_machine.proofs.logs.Filling.{AllLines, counted-lines}
use Rattle.piper_machine.proofs.logs.Joint.{Fits}
use Rattle.piper_machine.proofs.logs.Reaching.{first-fits, wide-of, run-of}
use Rattle.piper_machine.proofs.logs.ReaderFits.{reader-fits}
use Rattle.piper_machine.proofs.logs.WriterFits.{writer-fits}

-- how the words grow

sent-more : (line : Line) (s : Words) → (words_after line s).sent ≡ s.sent ++ published_by line
sent-more line s = grind (arith, append-nil)

head-more : (line : Line) (s : Words) → (words_after line s).head ≡ s.head + length (consumed_by line)
head-more line s = grind arith

reader-publishes-none : (capacity : ℕ) (line : Line) (r : ReaderAt) → IsReaderNext capacity line r → published_by line ≡ []
reader-publishes-none capacity line r next = grind arith

writer-consumes-none : (capacity : ℕ) (line : Line) (w : WriterAt) → IsWriterNext capacity line w → consumed_by line ≡ []
writer-consumes-none capacity line w next = grind arith

-- what begins a list that goes on from another
first-of : (xs rest ys zs : List ℕ) → xs ++ rest ≡ ys ++ zs → length xs ≤ length ys → xs ++ drop (length xs) ys ≡ ys
first-of xs rest ys zs same short =
    let front : take (length xs) ys ≡ xs = sym (take-append-le (length xs) ys zs short) ∙ ap (take (length xs)) (sym same) ∙ take-append_seam xs rest in
    ap (λ (x : List ℕ). x ++ drop (length xs) ys) (sym front) ∙ take-append-drop (length xs) ys

module _ (capacity : ℕ) where
  sent-is : (turns : List (By Line)) → AreReaderRuns capacity (did Reader turns) → (words_of turns).sent ≡ published (did Writer turns)
  sent-is [] reads = refl
  sent-is (by Writer line ∷ before) reads = sent-more line (words_of before) ∙ ap (λ (x : List ℕ). x ++ published_by line) (sent-is before reads)
  sent-is (by Reader line ∷ before) reads =
      sent-more line (words_of before) ∙ ap (λ (x : List ℕ). (words_of before).sent ++ x) (reader-publishes-none capacity line (reader_at capacity (did Reader before)) reads.0)
      ∙ append-nil (words_of before).sent ∙ sent-is before reads.1

  head-is : (turns : List (By Line)) → AreWriterRuns capacity (did Writer turns) → (words_of turns).head ≡ length (consumed (did Reader turns))
  head-is [] writes = refl
  head-is (by Reader line ∷ before) writes =
      head-more line (words_of before) ∙ ap (λ (n : ℕ). n + length (consumed_by line)) (head-is before writes)
      ∙ sym (length-append (consumed (did Reader before)) (consumed_by line))
  head-is (by Writer line ∷ before) writes =
      let none : length (consumed_by line) ≡ 0 = ap length (writer-consumes-none capacity line (writer_at capacity (did Writer before)) writes.0) in
      let more = head-more line (words_of before) in
      let rest = head-is before writes.1 in
      omega arith

  fits-of : 1 ≤ capacity → (turns : List (By Line)) → AreOrdered FindsCount turns → AreReaderRuns capacity (did Reader turns) → AreWriterRuns capacity (did Writer turns)
      → Fits capacity (reader_at capacity (did Reader turns)) (writer_at capacity (did Writer turns)) (words_of turns)
  fits-of some [] order reads writes = first-fits capacity some
  fits-of some (by Reader line ∷ before) order reads writes =
      reader-fits capacity (writer_at capacity (did Writer before)) (reader_at capacity (did Reader before)) (words_of before) (fits-of some before order.1 reads.1 writes) line reads.0 order.0
  fits-of some (by Writer line ∷ before) order reads writes =
      writer-fits capacity (reader_at capacity (did Reader before)) (writer_at capacity (did Writer before)) (words_of before) (fits-of some before order.1 reads writes.1) line writes.0 order.0

  -- an access finds the bytes that are there
  finds-bytes : (line : Line) (s : Words) → FindsCount line s → consumed_by line ≡ take (length (consumed_by line)) (drop s.head s.sent) → Finds line s
  finds-bytes line s finds same = grind arith

  in-order : 1 ≤ capacity → (turns : List (By Line)) → AreOrdered FindsCount turns → AreReaderRuns capacity (did Reader turns) → AreWriterRuns capacity (did Writer turns)
      → (rest : List ℕ) → consumed (did Reader turns) ++ rest ≡ published (did Writer turns) → AreInOrder turns
  in-order some [] order reads writes rest same = tt
  in-order some (by Reader line ∷ before) order reads writes rest same =
      let s : Words = words_of before in
      let old : List ℕ = consumed (did Reader before) in
      let new : List ℕ = consumed_by line in
      let joined : old ++ (new ++ rest) ≡ published (did Writer before) = sym (append_assoc old new rest) ∙ same in
      let there : drop s.head s.sent ≡ new ++ rest =
      ap (λ (n : ℕ). drop n s.sent) (head-is before writes)
      ∙ ap (drop (length old)) (sent-is before reads.1 ∙ sym joined) ∙ drop-append_seam old (new ++ rest) in
      (finds-bytes line s order.0 (sym (ap (take (length new)) there ∙ take-append_seam new rest)), in-order some before order.1 reads.1 writes (new ++ rest) joined)
  in-order some (by Writer line ∷ before) order reads writes rest same =
      let s : Words = words_of before in
      let old : List ℕ = consumed (did Reader before) in
      let none : consumed_by line ≡ [] = writer-consumes-none capacity line (writer_at capacity (did Writer before)) writes.0 in
      let fits = fits-of some before order.1 reads writes.1 in
      let short : length old ≤ length (published (did Writer before)) =
      omega (arith, fits.counts.reads, fits.counts.reader_head, fits.counts.reader_tail, head-is before writes.1, ap length (sent-is before reads)) in (
        finds-bytes line s order.0 (ap (λ (x : List ℕ). x) none ∙ ap (λ (x : List ℕ). take (length x) (drop s.head s.sent)) (sym none)),
        in-order some before order.1 reads writes.1 (drop (length old) (published (did Writer before))) (first-of old rest (published (did Writer before)) (published_by line) same short),
      )

  pub counted-logs : (reader writer : List Line) → AreCountedLogs capacity reader writer → AllLines Finds reader writer
  counted-logs reader writer logs =
      let lines = counted-lines reader writer logs.list in
      let reads = subst (λ (x : List Line). AreReaderRuns capacity x) (sym lines.reader_did) logs.reads in
      let writes = subst (λ (x : List Line). AreWriterRuns capacity x) (sym lines.writer_did) logs.writes in
      let bytes : consumed (did Reader lines.turns) ++ logs.rest ≡ published (did Writer lines.turns) =
      ap (λ (x : List Line). consumed x ++ logs.rest) lines.reader_did ∙ logs.bytes ∙ ap published (sym lines.writer_did) in
      record {
        turns = lines.turns;
        order = in-order logs.some lines.turns lines.order reads writes logs.rest bytes;
        reader_did = lines.reader_did;
        writer_did = lines.writer_did;
      }

  pub counted-run : (reader writer : List Line) → AreCountedLogs capacity reader writer → goes_beyond Reader capacity reader ≡ false → goes_beyond Writer capacity writer ≡ false → IsOneRun capacity reader writer
  counted-run reader writer logs =
      let lines = counted-logs reader writer logs in
      run-of capacity reader writer lines.turns lines.reader_did lines.writer_did logs.some lines.order logs.reads logs.writes

  pub counted-wide : (reader writer : List Line) → AreCountedLogs capacity reader writer → IsOneWideRun capacity reader writer
  counted-wide reader writer logs =
      let lines = counted-logs reader writer logs in
      wide-of capacity reader writer lines.turns lines.reader_did lines.writer_did logs.some lines.order logs.reads logs.writes
