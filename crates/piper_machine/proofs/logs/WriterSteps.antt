-- Each line of the writer is a step of the machine, or none.
use Rattle.std.proofs.Common.{◌≡◌, inl, inr, ℕ, ◌+◌, ◌-◌, List, ◌∷◌, ◌++◌, length, take, drop, replicate, Bool, true, false, Option, None, Some, ◌==◌, is_some, refl, sym, ap, subst, ◌∙◌, arith, length-drop, []}
use Rattle.std.proofs.lemmas.List.{drop-append-le}
use Rattle.std.proofs.Math.Seq.{take-append_seam, drop-append_seam}
use Rattle.piper_machine.specs.Types.{Seen, Answer, Action, Found, Side, WritePoint, Event, Luck, DestAct, SourceAct, Reader, Writer, Go, Looked, Published}
use Rattle.piper_protocol.specs.Table.{Next, ends_fill, write_action, write_after}
use Rattle.piper_machine.specs.Log.{answer_event}
use Rattle.piper_machine.specs.Action.{found_by, logged_of, performed}
use Rattle.piper_machine.specs.Pipe.{Pipe}
use Rattle.piper_machine.specs.Sound.{IsSound}
use Rattle.piper_machine.specs.Step.{MayOffer, Stepped, call_after, filled_out, lent_after, lent_at as lent_to, source_after as sources_after, stepped, writer_stepped as machine_stepped}
use Rattle.piper_machine.specs.logs.Reports.{writer_reports, writer_event}
use Rattle.piper_machine.specs.logs.Calling.{calling_after, may_wait_after}
use Rattle.piper_machine.specs.logs.Wide.{is_beyond}
use Rattle.piper_machine.specs.logs.Line.{met_head, Line, loaded_head, loaded_closed, stored_tail, stored_closed, loaded_slot, swapped, knew_empty, drew, refused, yielded, woke}
use Rattle.piper_machine.specs.logs.OneList.{Finds, Words, words_after}
use Rattle.piper_machine.specs.logs.Reading.{ReaderAt}
use Rattle.piper_machine.specs.logs.Writing.{HasDrawn, IsToEmpty, IsWriterNext, MayWithdraw, WriterAt, room_to, writer_after, writer_answered, writer_changed, writer_empties, writer_stepped, writer_told}
use Rattle.piper_machine.proofs.logs.Contexts.{none-of, registers, grants, reports, yields, reports-yield, reports-wake, registers-none, refuses, reports-none}
use Rattle.piper_machine.proofs.logs.ReaderOpens.{writer-idle-same}
use Rattle.piper_machine.proofs.logs.Fitting.{sound}
use Rattle.piper_machine.proofs.logs.Joint.{Chance, Fits, context_with, luck_of, number_of, pipe_at, settled, writer_drawn, writer_point}
use Rattle.piper_machine.proofs.logs.Leading.{ahead, Leads, LeadsBy, leads-learned, leads-none, leads-step, leads-withdrawn}
use Rattle.piper_machine.proofs.logs.WriterDraws.{action-same, ends-at, fill-same, leaves-lent, next-same, offers-none, stays, writer_next}
use Rattle.piper_machine.proofs.logs.WriterDraws as W
use Rattle.piper_machine.proofs.logs.WriterOpens.{may-go, shuts, shuts-not}

-- the pipe after a step that changed it so and leads there
abbrev filled : Bool → Pipe → Next WritePoint → Pipe
filled is_fill p next = record p {
  writer = next.point;
  writer_call = call_after next.answer p.writer_call;
  source = sources_after next.answer p.source;
  lent = filled_out is_fill next.answer p.lent;
}

module _ (capacity : ℕ) (r : ReaderAt) (k : Chance) (acts : List DestAct) where
  answers : (w : WriterAt) (s : Words) (l : Chance) (sources : List SourceAct) (old point : WritePoint) (answer : Option Answer) (is_fill : Bool) → ((a : Answer) → answer ≡ Some a → write_action point ≡ Action.Rest)
      → filled is_fill (record (pipe_at capacity r w s k acts l sources) { writer = old }) (writer_next w.calling.draw l.draws (record { point = point; answer = answer }))
      ≡ pipe_at capacity r (writer_answered is_fill answer (record w { point = point })) s k acts l sources
  answers w s l sources old point answer is_fill rests = grind arith

  module _ (w : WriterAt) (s : Words) where
    abbrev pub at_first : Chance → List SourceAct → Pipe
    at_first l sources = pipe_at capacity r w s k acts l sources

    abbrev pub leads_to : Found → Next WritePoint
    leads_to f = write_after capacity (room_to capacity w) w.point f

    -- the writer after a step that changed it so, was told this and leads there
    abbrev pub comes_to : WriterAt → Found → WriterAt
    comes_to v f = writer_answered (ends_fill w.point) (leads_to f).answer (record v { point = (leads_to f).point })

    pub goes : (v : WriterAt) (s' : Words) (f : Found) (es : List Event) (lent : List ℕ) (action : Action) (l l' : Chance) (sources sources' : List SourceAct) → write_action w.point ≡ action → (action ≡ Action.Rest → ⊥)
        → let p = record (at_first l' sources') { lent = lent } in
        lent_to (at_first l' sources').writer (pipe_at capacity r (comes_to v f) s' k acts l sources).lent (at_first l' sources').lent ≡ lent
        → MayOffer (at_first l' sources').writer (at_first l' sources').source (pipe_at capacity r (comes_to v f) s' k acts l sources).lent (at_first l' sources')
        → performed Writer action p ≡ record (pipe_at capacity r v s' k acts l sources) { writer = p.writer }
        → write_after capacity (room_to capacity w) p.writer (found_by Writer action p) ≡ writer_next v.calling.draw l.draws (leads_to f)
        → logged_of Writer action p ≡ es
        → IsSound (pipe_at capacity r (comes_to v f) s' k acts l sources)
        → Leads capacity (at_first l' sources') (pipe_at capacity r (comes_to v f) s' k acts l sources) (es ++ answer_event Writer (leads_to f).answer)
    goes v s' f es lent action l l' sources sources' e moves offered may same finds logs sound =
        let p0 : Pipe = at_first l' sources' in
        let p : Pipe = record p0 { lent = lent } in
        let here : write_action p.writer ≡ action = action-same w.calling.draw l'.draws w.point ∙ e in
        let q : Pipe = pipe_at capacity r (comes_to v f) s' k acts l sources in
        let m : Pipe = performed Writer action p in
        let n : Next WritePoint = write_after capacity (room_to capacity w) p.writer (found_by Writer action p) in
        let lets : lent_after action p.writer n.answer m.lent ≡ filled_out (ends_fill w.point) n.answer m.lent =
        ap (λ (a : Action). lent_after a p.writer n.answer m.lent) (sym here) ∙ leaves-lent p.writer n.answer m.lent
        ∙ ap (λ (b : Bool). filled_out b n.answer m.lent) (fill-same w.calling.draw l'.draws w.point) in
        let pipe : (machine_stepped action p).pipe ≡ q =
        ap (λ (x : List ℕ). record (filled (ends_fill w.point) m n) { lent = x }) lets
        ∙ ap (λ (x : Pipe). filled (ends_fill w.point) x n) same
        ∙ ap (λ (x : Next WritePoint). filled (ends_fill w.point) (record (pipe_at capacity r v s' k acts l sources) { writer = p.writer }) x) finds
        ∙ answers v s' l sources p.writer (leads_to f).point (leads_to f).answer (ends_fill w.point) (ends-at capacity (room_to capacity w) w.point f) in
        let events : es ++ answer_event Writer (leads_to f).answer ≡ (machine_stepped action p).events =
        ap (λ (x : List Event). x ++ answer_event Writer (leads_to f).answer) (sym logs)
        ∙ ap (λ (x : Next WritePoint). logged_of Writer action p ++ answer_event Writer x.answer) (sym finds) in
        let steps : machine_stepped action p ≡ stepped q.lent (Go Writer) p0 =
        ap (λ (a : Action). machine_stepped a p) (sym here) ∙ ap (λ (x : List ℕ). machine_stepped (write_action p0.writer) (record p0 { lent = x })) (sym offered) in
        leads-step capacity (Go Writer) p0 q _ sound (λ before. record {
          accepted = W.may-go p.writer (λ rests. moves (sym here ∙ rests));
          made = record {
            lent = may;
            pipe = sym pipe ∙ ap (λ (x : Stepped). x.pipe) steps;
            events = ap (λ (x : List Event). before ++ x) (events ∙ ap (λ (x : Stepped). x.events) steps);
          };
        })

    -- a step that lends nothing to a source
    keeps : (line : Line) (action : Action) (l l' : Chance) (sources sources' : List SourceAct) → write_action w.point ≡ action → (action ≡ Action.Rest → ⊥) → (action ≡ Action.CallSource → ⊥)
        → let v : WriterAt = record (writer_changed capacity line w) { calling = calling_after line w.calling; may_wait = may_wait_after Writer line w.may_wait } in
        let p : Pipe = at_first l' sources' in
        performed Writer action p ≡ record (pipe_at capacity r v (words_after line s) k acts l sources) { writer = p.writer }
        → write_after capacity (room_to capacity w) p.writer (found_by Writer action p) ≡ writer_next v.calling.draw l.draws (leads_to (writer_told capacity line w))
        → logged_of Writer action p ≡ writer_event line w
        → IsSound (pipe_at capacity r (writer_stepped capacity line w) (words_after line s) k acts l sources)
        → Leads capacity p (pipe_at capacity r (writer_stepped capacity line w) (words_after line s) k acts l sources) (writer_event line w ++ answer_event Writer (leads_to (writer_told capacity line w)).answer)
    keeps line action l l' sources sources' e moves other same finds logs sound =
        let p : Pipe = at_first l' sources' in
        let here : write_action p.writer ≡ action = action-same w.calling.draw l'.draws w.point ∙ e in
        goes (record (writer_changed capacity line w) { calling = calling_after line w.calling; may_wait = may_wait_after Writer line w.may_wait }) (words_after line s) (writer_told capacity line w) (writer_event line w) p.lent action l l' sources sources' e moves
        (offers-none p.writer _ p.lent (λ x. other (sym here ∙ x)))
        (may-go p.writer p.source _ p (λ x. other (sym here ∙ x)))
        same finds logs sound

    -- where it leads, if no draw is in the way
    pub told : (l : Chance) (f : Found) (action : Action) → write_action w.point ≡ action → (action ≡ Action.Take Writer → HasDrawn w.point w.calling.draw) → write_after capacity (room_to capacity w) (writer_point w.calling.draw l.draws w.point) f ≡ writer_next w.calling.draw l.draws (leads_to f)
    told l f action e drawn = next-same capacity (room_to capacity w) w.calling.draw l.draws w.point f (λ t. drawn (sym e ∙ t))

    -- each line is a step of the machine, or none
    abbrev pub WriterLeads : Line → Type 0
    WriterLeads line = (l : Chance) (sources : List SourceAct) → (l' : Chance) × (sources' : List SourceAct)
        × LeadsBy (is_beyond line (write_action w.point)) capacity (at_first l' sources') (pipe_at capacity r (writer_after capacity line w) (words_after line s) k acts l sources) (writer_reports capacity line w)

    -- the same of a line by which a slot was found empty, or emptied, where the table has this next
    abbrev Empties : Action → Line → Type 0
    Empties action line = Fits capacity r (writer_empties capacity action line w) (words_after line s) → (l : Chance) (sources : List SourceAct) → (l' : Chance) × (sources' : List SourceAct)
        × LeadsBy (is_beyond line action) capacity (at_first l' sources') (pipe_at capacity r (writer_empties capacity action line w) (words_after line s) k acts l sources) (writer_reports capacity line w)

    at-action : (line : Line) (action : Action) → write_action w.point ≡ action → Empties action line → Empties (write_action w.point) line
    at-action line action e empties = subst (λ (a : Action). Empties a line) (sym e) empties

    module _ (fits : Fits capacity r w s) where
      unread : length (drop s.head s.sent) ≡ length s.sent - s.head
      unread = length-drop s.head s.sent

      pub loads-head : (count : ℕ) → IsWriterNext capacity (loaded_head count) w → Finds (loaded_head count) s → Fits capacity r (writer_after capacity (loaded_head count) w) s → WriterLeads (loaded_head count)
      loads-head count e finds after l sources =
          let p : Pipe = at_first l sources in
          let count_is : length (drop s.head s.sent) ≡ w.tail - count = omega (arith, unread, fits.counts.writes) in
          ahead l sources (keeps (loaded_head count) Action.LoadIndex l l sources sources e (λ x. absurd cc) (λ x. absurd cc)
          (ap (λ (n : ℕ). record p { room = capacity - n }) count_is)
          (ap (λ (n : ℕ). write_after capacity (room_to capacity w) p.writer (Found.IndexLoaded (capacity - n == 0))) count_is ∙ told l (Found.IndexLoaded (capacity - (w.tail - count) == 0)) Action.LoadIndex e (λ x. absurd cc))
          (ap (λ (n : ℕ). Looked Writer (Seen.Head n) ∷ []) count_is)
          (sound capacity r _ s k acts l sources after))

      pub learns-head : (count : ℕ) → IsWriterNext capacity (met_head count) w → Finds (met_head count) s → Fits capacity r (writer_after capacity (met_head count) w) s → WriterLeads (met_head count)
      learns-head count e finds after l sources =
          let p : Pipe = at_first l sources in
          let q : Pipe = pipe_at capacity r (writer_after capacity (met_head count) w) s k acts l sources in
          let same : record p { room = capacity - length p.unread } ≡ q = ap (λ (n : ℕ). record p { room = capacity - n }) (let count_is : length (drop s.head s.sent) ≡ w.tail - count = omega (arith, unread, fits.counts.writes) in count_is) in
          ahead l sources (subst (λ (x : Pipe). LeadsBy true capacity p x []) same
          (leads-learned capacity Writer p (subst IsSound (sym same) (sound capacity r _ s k acts l sources after)) (writer-idle-same w.calling.draw l.draws w.point e)))

      pub loads-closed : (b : Bool) → IsWriterNext capacity (loaded_closed b) w → Finds (loaded_closed b) s → Fits capacity r (writer_after capacity (loaded_closed b) w) s → WriterLeads (loaded_closed b)
      loads-closed b e finds after l sources =
          let p : Pipe = at_first l sources in
          ahead l sources (keeps (loaded_closed b) Action.LoadClosed l l sources sources e (λ x. absurd cc) (λ x. absurd cc)
          refl
          (ap (λ (x : Bool). write_after capacity (room_to capacity w) p.writer (Found.Flag x)) (sym finds) ∙ told l (Found.Flag b) Action.LoadClosed e (λ x. absurd cc))
          (ap (λ (x : Bool). Looked Writer (Seen.Closed x) ∷ []) (sym finds))
          (sound capacity r _ s k acts l sources after))

      pub stores-tail : (bytes : List ℕ) → IsWriterNext capacity (stored_tail bytes) w → Fits capacity r (writer_after capacity (stored_tail bytes) w) (words_after (stored_tail bytes) s) → WriterLeads (stored_tail bytes)
      stores-tail bytes next after l sources =
          let p : Pipe = at_first l sources in
          let n : ℕ = length bytes in
          let spare : List ℕ = replicate w.spare 0 in
          let front : take n (w.given ++ spare) ≡ bytes = ap (λ (x : List ℕ). take n (x ++ spare)) (sym next.1) ∙ take-append_seam bytes spare in
          let rest : drop n (w.given ++ spare) ≡ spare = ap (λ (x : List ℕ). drop n (x ++ spare)) (sym next.1) ∙ drop-append_seam bytes spare in
          let more : drop s.head s.sent ++ bytes ≡ drop s.head (s.sent ++ bytes) = sym (drop-append-le s.head s.sent bytes (omega (arith, fits.counts.reads, fits.counts.reader_head, fits.counts.reader_tail))) in
          let less : capacity - (w.tail - w.head) - n ≡ capacity - (w.tail + n - w.head) = omega (arith, fits.counts.writes, fits.counts.writer_head, fits.counts.reads, fits.counts.reader_head, fits.counts.reader_tail) in
          ahead l sources (keeps (stored_tail bytes) (Action.StoreTail (length bytes)) l l sources sources next.0 (λ x. absurd cc) (λ x. absurd cc)
          (ap (λ (x : List ℕ). record p { unread = drop s.head s.sent ++ x; room = capacity - (w.tail - w.head) - n; lent = drop n (w.given ++ spare) }) front
          ∙ ap (λ (x : List ℕ). record p { unread = drop s.head s.sent ++ bytes; room = capacity - (w.tail - w.head) - n; lent = x }) rest
          ∙ ap (λ (x : List ℕ). record p { unread = x; room = capacity - (w.tail - w.head) - n; lent = spare }) more
          ∙ ap (λ (x : ℕ). record p { unread = drop s.head (s.sent ++ bytes); room = x; lent = spare }) less)
          (told l Found.Nothing (Action.StoreTail n) next.0 (λ x. absurd cc))
          (ap (λ (x : List ℕ). Published x ∷ []) front)
          (sound capacity r _ _ k acts l sources after))

      pub stores-closed : IsWriterNext capacity stored_closed w → Fits capacity r (writer_after capacity stored_closed w) (words_after stored_closed s) → WriterLeads stored_closed
      stores-closed next after l sources =
          ahead l sources (elim next [
            | inl e ↦ keeps stored_closed (Action.StoreClosed false) l l sources sources e (λ x. absurd cc) (λ x. absurd cc)
                (ap (λ (v : WriterAt). record (pipe_at capacity r (record v { point = w.point; calling = w.calling; may_wait = w.may_wait }) (words_after stored_closed s) k acts l sources) { writer = (at_first l sources).writer }) (sym (shuts-not w.point w e)))
                (told l Found.Nothing (Action.StoreClosed false) e (λ x. absurd cc))
                refl
                (sound capacity r _ _ k acts l sources after)
            | inr e ↦ keeps stored_closed (Action.StoreClosed true) l l sources sources e (λ x. absurd cc) (λ x. absurd cc)
                (ap (λ (v : WriterAt). record (pipe_at capacity r (record v { point = w.point; calling = w.calling; may_wait = w.may_wait }) (words_after stored_closed s) k acts l sources) { writer = (at_first l sources).writer }) (sym (shuts w.point w e)))
                (told l Found.Nothing (Action.StoreClosed true) e (λ x. absurd cc))
                refl
                (sound capacity r _ _ k acts l sources after)
          ])

      finds-none : (side : Side) → IsToEmpty side w → Finds (loaded_slot side false) s → Empties (Action.Take side) (loaded_slot side false)
      finds-none Reader next finds after l sources =
          let p : Pipe = at_first l sources in
          let none : s.reader_slot ≡ None = none-of s.reader_slot finds in
          ahead l sources (keeps (loaded_slot Reader false) (Action.Take Reader) l l sources sources next.0 (λ x. absurd cc) (λ x. absurd cc)
          (ap (λ (x : Option ℕ). record p { writer_call = record p.writer_call { taken = x }; reader_waker = None }) none
          ∙ ap (λ (x : Option ℕ). record p { writer_call = record p.writer_call { taken = None }; reader_waker = x }) (sym none))
          (ap (λ (x : Bool). write_after capacity (room_to capacity w) p.writer (Found.Waker x)) (sym finds) ∙ told l (Found.Waker false) (Action.Take Reader) next.0 (λ x. next.1))
          refl
          (sound capacity r _ _ k acts l sources after))
      finds-none Writer next finds after l sources =
          let p : Pipe = at_first l sources in
          let none : s.writer_slot ≡ None = none-of s.writer_slot finds in
          ahead l sources (keeps (loaded_slot Writer false) (Action.Take Writer) l l sources sources next.0 (λ x. absurd cc) (λ x. absurd cc)
          (ap (λ (x : Option ℕ). record p { writer_call = record p.writer_call { taken = x }; writer_waker = None }) none
          ∙ ap (λ (x : Option ℕ). record p { writer_call = record p.writer_call { taken = None }; writer_waker = x }) (sym none))
          (ap (λ (x : Bool). write_after capacity (room_to capacity w) p.writer (Found.Waker x)) (sym finds) ∙ told l (Found.Waker false) (Action.Take Writer) next.0 (λ x. next.1))
          refl
          (sound capacity r _ _ k acts l sources after))

      -- before it registers, the writer finds its slot empty
      finds-own-empty : (side : Side) → MayWithdraw side w → Empties Action.Register (loaded_slot side false)
      finds-own-empty side may after l sources =
          let p : Pipe = at_first l sources in
          (l, sources, subst (λ (es : List Event). Leads capacity p p es) (sym (stays capacity (room_to capacity w) w.point false may.1)) (leads-none capacity p))

      pub finds-empty : (side : Side) → IsWriterNext capacity (loaded_slot side false) w → Finds (loaded_slot side false) s → Fits capacity r (writer_after capacity (loaded_slot side false) w) s → WriterLeads (loaded_slot side false)
      finds-empty side next finds = elim next [
        | inl to ↦ at-action (loaded_slot side false) (Action.Take side) to.0 (finds-none side to finds)
        | inr may ↦ at-action (loaded_slot side false) Action.Register may.1 (finds-own-empty side may)
      ]

      pub knows-empty : IsWriterNext capacity knew_empty w → Fits capacity r (writer_after capacity knew_empty w) s → WriterLeads knew_empty
      knows-empty next after l sources =
          let p : Pipe = at_first l sources in
          let none : s.writer_slot ≡ None = fits.shares.writer_rests next.2 in
          ahead l sources (keeps knew_empty (Action.Take Writer) l l sources sources next.0 (λ x. absurd cc) (λ x. absurd cc)
          (ap (λ (x : Option ℕ). record p { writer_call = record p.writer_call { taken = x }; writer_waker = None }) none
          ∙ ap (λ (x : Option ℕ). record p { writer_call = record p.writer_call { taken = None }; writer_waker = x }) (sym none))
          (ap (λ (x : Option ℕ). write_after capacity (room_to capacity w) p.writer (Found.Waker (is_some x))) none ∙ told l (Found.Waker false) (Action.Take Writer) next.0 (λ x. next.1))
          refl
          (sound capacity r _ _ k acts l sources after))

      pub finds-filled : (side : Side) → WriterLeads (loaded_slot side true)
      finds-filled side l sources = (l, sources, leads-none capacity (at_first l sources))

      takes-out : (side : Side) (old : Option ℕ) → IsToEmpty side w → Finds (swapped side old None) s → Empties (Action.Take side) (swapped side old None)
      takes-out Reader old next finds after l sources =
          let p : Pipe = at_first l sources in
          ahead l sources (keeps (swapped Reader old None) (Action.Take Reader) l l sources sources next.0 (λ x. absurd cc) (λ x. absurd cc)
          (ap (λ (x : Option ℕ). record p { writer_call = record p.writer_call { taken = x }; reader_waker = None }) (sym finds))
          (ap (λ (x : Option ℕ). write_after capacity (room_to capacity w) p.writer (Found.Waker (is_some x))) (sym finds) ∙ told l (Found.Waker (is_some old)) (Action.Take Reader) next.0 (λ x. next.1))
          refl
          (sound capacity r _ _ k acts l sources after))
      takes-out Writer old next finds after l sources =
          let p : Pipe = at_first l sources in
          ahead l sources (keeps (swapped Writer old None) (Action.Take Writer) l l sources sources next.0 (λ x. absurd cc) (λ x. absurd cc)
          (ap (λ (x : Option ℕ). record p { writer_call = record p.writer_call { taken = x }; writer_waker = None }) (sym finds))
          (ap (λ (x : Option ℕ). write_after capacity (room_to capacity w) p.writer (Found.Waker (is_some x))) (sym finds) ∙ told l (Found.Waker (is_some old)) (Action.Take Writer) next.0 (λ x. next.1))
          refl
          (sound capacity r _ _ k acts l sources after))

      -- before it registers, the writer takes its waker out, or finds none
      withdraws-own : (side : Side) (old : Option ℕ) → MayWithdraw side w → Finds (swapped side old None) s → Empties Action.Register (swapped side old None)
      withdraws-own Reader old may finds after l sources = absurd (let no : Reader ≡ Writer = may.0 in cc)
      withdraws-own Writer None may finds after l sources =
          let p : Pipe = at_first l sources in
          let q : Pipe = record p { writer_waker = None } in
          ahead l sources (subst (λ (es : List Event). Leads capacity p q es) (sym (stays capacity (room_to capacity w) w.point false may.1))
          (subst (λ (x : Option ℕ). Leads capacity p (record p { writer_waker = x }) []) (sym finds) (leads-none capacity p)))
      withdraws-own Writer (Some waker) may finds after l sources =
          let p : Pipe = at_first l sources in
          let q : Pipe = record p { writer_waker = None } in
          ahead l sources (subst (λ (es : List Event). LeadsBy true capacity p q es) (sym (stays capacity (room_to capacity w) w.point true may.1))
          (leads-withdrawn capacity Writer p (sound capacity r _ _ k acts l sources after) (action-same w.calling.draw l.draws w.point ∙ may.1)))

      pub takes : (side : Side) (old : Option ℕ) → IsWriterNext capacity (swapped side old None) w → Finds (swapped side old None) s → Fits capacity r (writer_after capacity (swapped side old None) w) (words_after (swapped side old None) s) → WriterLeads (swapped side old None)
      takes side old next finds = elim next [
        | inl to ↦ at-action (swapped side old None) (Action.Take side) to.0 (takes-out side old to finds)
        | inr may ↦ at-action (swapped side old None) Action.Register may.1 (withdraws-own side old may finds)
      ]

      pub registers-own : (side : Side) (old : Option ℕ) (waker : ℕ) → IsWriterNext capacity (swapped side old (Some waker)) w → Fits capacity r (writer_after capacity (swapped side old (Some waker)) w) (words_after (swapped side old (Some waker)) s) → WriterLeads (swapped side old (Some waker))
      registers-own Reader old waker next after l sources = absurd (let no : Reader ≡ Writer = next.0 in cc)
      registers-own Writer old waker next after l sources =
          let l' : Chance = record l { registers = true } in
          let p : Pipe = at_first l' sources in
          let granted : settled w.calling.granted true ≡ true = ap (λ (g : Option Bool). settled g true) next.3 in
          let luck : Luck = luck_of w.calling l' in
          ahead l' sources (keeps (swapped Writer old (Some waker)) Action.Register l l' sources sources next.1 (λ x. absurd cc) (λ x. absurd cc)
          (ap (λ (x : Option ℕ). record p { writer_waker = x }) (registers w.calling.handed luck waker next.2 s.writer_slot granted)
          ∙ ap (λ (x : Bool). record p { writer_waker = Some waker; writer_call = record { context = context_with w.calling.handed (record luck { register_granted = x }); taken = w.calling.taken } }) granted)
          (ap (λ (x : Bool). write_after capacity (room_to capacity w) p.writer (Found.Granted x)) (grants w.calling.handed luck waker next.2 granted) ∙ told l (Found.Granted true) Action.Register next.1 (λ x. absurd cc))
          (reports w.calling.handed luck waker next.2 Writer granted)
          (sound capacity r _ _ k acts l sources after))

      pub refuses-own : IsWriterNext capacity refused w → Fits capacity r (writer_after capacity refused w) s → WriterLeads refused
      refuses-own next after l sources =
          let l' : Chance = record l { registers = false } in
          let p : Pipe = at_first l' sources in
          let granted : settled w.calling.granted false ≡ false = ap (λ (g : Option Bool). settled g false) next.1 in
          let luck : Luck = luck_of w.calling l' in
          ahead l' sources (keeps refused Action.Register l l' sources sources next.0 (λ x. absurd cc) (λ x. absurd cc)
          (ap (λ (x : Option ℕ). record p { writer_waker = x }) (registers-none w.calling.handed luck granted s.writer_slot)
          ∙ ap (λ (x : Bool). record p { writer_call = record { context = context_with w.calling.handed (record luck { register_granted = x }); taken = w.calling.taken } }) granted)
          (ap (λ (x : Bool). write_after capacity (room_to capacity w) p.writer (Found.Granted x)) (refuses w.calling.handed luck granted) ∙ told l (Found.Granted false) Action.Register next.0 (λ x. absurd cc))
          (reports-none w.calling.handed luck granted Writer)
          (sound capacity r _ _ k acts l sources after))

      pub yields-own : (waker : ℕ) → IsWriterNext capacity (yielded waker) w → Fits capacity r (writer_after capacity (yielded waker) w) s → WriterLeads (yielded waker)
      yields-own waker next after l sources =
          let p : Pipe = at_first l sources in
          ahead l sources (keeps (yielded waker) Action.Yield l l sources sources next.0 (λ x. absurd cc) (λ x. absurd cc)
          refl
          (ap (λ (x : Bool). write_after capacity (room_to capacity w) p.writer (Found.Granted x)) (yields w.calling.handed (luck_of w.calling l) waker next.1 refl) ∙ told l (Found.Granted true) Action.Yield next.0 (λ x. absurd cc))
          (reports-yield w.calling.handed (luck_of w.calling l) waker next.1 refl)
          (sound capacity r _ _ k acts l sources after))

      pub wakes : (waker : ℕ) → IsWriterNext capacity (woke waker) w → Fits capacity r (writer_after capacity (woke waker) w) s → WriterLeads (woke waker)
      wakes waker next after l sources =
          ahead l sources (keeps (woke waker) Action.Wake l l sources sources next.0 (λ x. absurd cc) (λ x. absurd cc)
          refl
          (told l Found.Nothing Action.Wake next.0 (λ x. absurd cc))
          (reports-wake w.calling.taken (luck_of w.calling l) waker next.1)
          (sound capacity r _ _ k acts l sources after))

      pub draws : (b : Bool) → IsWriterNext capacity (drew b) w → WriterLeads (drew b)
      draws b next l sources =
          let l' : Chance = record l { draws = b } in
          let p : Pipe = at_first l' sources in
          let q : Pipe = pipe_at capacity r (writer_after capacity (drew b) w) s k acts l sources in
          let luck : Luck = luck_of w.calling l' in
          let same : p ≡ q =
          ap (λ (x : Option Bool). record p { writer = writer_point x b w.point; writer_call = record { context = context_with w.calling.handed (record luck { draw = number_of (settled x b) }); taken = w.calling.taken } }) next.1
          ∙ ap (λ (x : WritePoint). record q { writer = writer_drawn b x }) next.0 in
          (l', sources, subst (λ (x : Pipe). Leads capacity x q []) (sym same) (leads-none capacity q))
