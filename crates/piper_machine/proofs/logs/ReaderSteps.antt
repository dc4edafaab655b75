-- Each line of the reader is a step of the machine, or none.
use Rattle.std.proofs.Common.{◌≡◌, inl, inr, ℕ, ◌+◌, ◌-◌, min, List, ◌∷◌, ◌++◌, length, drop, Bool, true, false, Option, None, Some, ◌==◌, is_some, refl, sym, ap, subst, ◌∙◌, arith, length-drop, []}
use Rattle.std.proofs.lemmas.List.{drop-drop}
use Rattle.piper_machine.specs.Types.{Seen, Answer, Action, Found, ReadPoint, Side, Event, Luck, DestAct, SourceAct, Destination, Reader, Writer, MOST_A_ROUND, Go, Consumed, Looked}
use Rattle.piper_protocol.specs.Table.{Next, read_action, read_after}
use Rattle.piper_machine.specs.Log.{answer_event}
use Rattle.piper_machine.specs.Action.{found_by, logged_of, performed}
use Rattle.piper_machine.specs.Pipe.{Pipe}
use Rattle.piper_machine.specs.Sound.{IsSound}
use Rattle.piper_machine.specs.Step.{call_after, destination_after, reader_stepped as machine_stepped}
use Rattle.piper_machine.specs.logs.Reports.{reader_reports, reader_event}
use Rattle.piper_machine.specs.logs.Calling.{calling_after, may_wait_after}
use Rattle.piper_machine.specs.logs.Wide.{is_beyond}
use Rattle.piper_machine.specs.logs.Line.{met_tail, Line, loaded_tail, loaded_closed, stored_head, stored_closed, loaded_slot, swapped, knew_empty, took, failed, drew, refused, yielded, woke}
use Rattle.piper_machine.specs.logs.OneList.{Finds, Words, words_after}
use Rattle.piper_machine.specs.logs.Reading.{HasDrawn, IsReaderNext, IsToEmpty, MayWithdraw, ReaderAt, reader_after, reader_answered, reader_changed, reader_empties, shown, reader_stepped, reader_told}
use Rattle.piper_machine.specs.logs.Writing.{WriterAt}
use Rattle.piper_machine.proofs.logs.Joint.{Chance, Fits, context_with, luck_of, number_of, settled, pipe_at, reader_drawn, reader_point}
use Rattle.piper_machine.proofs.logs.Draws.{action-same, ends-at, may-go, next-same, own-same, reader_next, stays}
use Rattle.piper_machine.proofs.logs.Contexts.{none-of, registers, grants, reports, yields, reports-yield, reports-wake, registers-none, refuses, reports-none}
use Rattle.piper_machine.proofs.logs.Fitting.{sound}
use Rattle.piper_machine.proofs.logs.ReaderOpens.{idle-same, left-taken, found-taken, left-failed, found-failed}
use Rattle.piper_machine.proofs.logs.Leading.{ahead, Leads, LeadsBy, leads-learned, leads-none, leads-step, leads-withdrawn}

-- the pipe after a step that changed it so and leads there
abbrev drained : Pipe → Next ReadPoint → Pipe
drained p next = record p {
  reader = next.point;
  reader_call = call_after next.answer p.reader_call;
  destination = destination_after next.answer p.destination;
}

module _ (capacity : ℕ) (w : WriterAt) (l : Chance) (sources : List SourceAct) where
  answers : (r : ReaderAt) (s : Words) (k : Chance) (acts : List DestAct) (old point : ReadPoint) (answer : Option Answer) → ((a : Answer) → answer ≡ Some a → read_action point ≡ Action.Rest)
      → drained (record (pipe_at capacity r w s k acts l sources) { reader = old }) (reader_next r.calling.draw k.draws (record { point = point; answer = answer }))
      ≡ pipe_at capacity (reader_answered answer (record r { point = point })) w s k acts l sources
  answers r s k acts old point answer rests = grind arith

  module _ (r : ReaderAt) (s : Words) where
    abbrev at_first : Chance → List DestAct → Pipe
    at_first k acts = pipe_at capacity r w s k acts l sources

    abbrev changed_by : Line → ReaderAt
    changed_by line = record (reader_changed capacity line r) { calling = calling_after line r.calling; may_wait = may_wait_after Reader line r.may_wait }

    abbrev leads_to : Line → Next ReadPoint
    leads_to line = read_after capacity r.point (reader_told line r)

    goes : (line : Line) (action : Action) (k k' : Chance) (acts acts' : List DestAct) → read_action r.point ≡ action → (action ≡ Action.Rest → ⊥)
        → performed Reader action (at_first k' acts') ≡ record (pipe_at capacity (changed_by line) w (words_after line s) k acts l sources) { reader = (at_first k' acts').reader }
        → read_after capacity (at_first k' acts').reader (found_by Reader action (at_first k' acts')) ≡ reader_next (changed_by line).calling.draw k.draws (leads_to line)
        → logged_of Reader action (at_first k' acts') ≡ reader_event line r
        → IsSound (pipe_at capacity (reader_stepped capacity line r) w (words_after line s) k acts l sources)
        → Leads capacity (at_first k' acts') (pipe_at capacity (reader_stepped capacity line r) w (words_after line s) k acts l sources) (reader_event line r ++ answer_event Reader (leads_to line).answer)
    goes line action k k' acts acts' e moves same finds logs sound =
        let p : Pipe = at_first k' acts' in
        let here : read_action p.reader ≡ action = action-same r.calling.draw k'.draws r.point ∙ e in
        let q : Pipe = pipe_at capacity (reader_stepped capacity line r) w (words_after line s) k acts l sources in
        let pipe : q ≡ (machine_stepped action p).pipe =
        sym (ap (λ (m : Pipe). drained m (read_after capacity p.reader (found_by Reader action p))) same
        ∙ ap (λ (n : Next ReadPoint). drained (record (pipe_at capacity (changed_by line) w (words_after line s) k acts l sources) { reader = p.reader }) n) finds
        ∙ answers (changed_by line) (words_after line s) k acts p.reader (leads_to line).point (leads_to line).answer (ends-at capacity r.point (reader_told line r))) in
        let events : reader_event line r ++ answer_event Reader (leads_to line).answer ≡ (machine_stepped action p).events =
        ap (λ (es : List Event). es ++ answer_event Reader (leads_to line).answer) (sym logs)
        ∙ ap (λ (n : Next ReadPoint). logged_of Reader action p ++ answer_event Reader n.answer) (sym finds) in
        leads-step capacity (Go Reader) p q _ sound (λ before. record {
          accepted = may-go p.reader (λ rests. moves (sym here ∙ rests));
          made = record {
            lent = tt;
            pipe = pipe ∙ ap (λ (a : Action). (machine_stepped a p).pipe) (sym here);
            events = ap (λ (es : List Event). before ++ es) (events ∙ ap (λ (a : Action). (machine_stepped a p).events) (sym here));
          };
        })

    -- where it leads, if no draw is in the way
    told : (k : Chance) (f : Found) (action : Action) → read_action r.point ≡ action → (action ≡ Action.Take Reader → HasDrawn r.point r.calling.draw) → read_after capacity (reader_point r.calling.draw k.draws r.point) f ≡ reader_next r.calling.draw k.draws (read_after capacity r.point f)
    told k f action e drawn = next-same capacity r.calling.draw k.draws r.point f (λ t. drawn (sym e ∙ t))

    -- each line is a step of the machine, or none
    abbrev pub ReaderLeads : Line → Type 0
    ReaderLeads line = (k : Chance) (acts : List DestAct) → (k' : Chance) × (acts' : List DestAct)
        × LeadsBy (is_beyond line (read_action r.point)) capacity (at_first k' acts') (pipe_at capacity (reader_after capacity line r) w (words_after line s) k acts l sources) (reader_reports capacity line r)

    -- the same of a line by which a slot was found empty, or emptied, where the table has this next
    abbrev Empties : Action → Line → Type 0
    Empties action line = Fits capacity (reader_empties capacity action line r) w (words_after line s) → (k : Chance) (acts : List DestAct) → (k' : Chance) × (acts' : List DestAct)
        × LeadsBy (is_beyond line action) capacity (at_first k' acts') (pipe_at capacity (reader_empties capacity action line r) w (words_after line s) k acts l sources) (reader_reports capacity line r)

    at-action : (line : Line) (action : Action) → read_action r.point ≡ action → Empties action line → Empties (read_action r.point) line
    at-action line action e empties = subst (λ (a : Action). Empties a line) (sym e) empties

    module _ (fits : Fits capacity r w s) where
      unread : length (drop s.head s.sent) ≡ length s.sent - s.head
      unread = length-drop s.head s.sent

      pub loads-tail : (count : ℕ) → IsReaderNext capacity (loaded_tail count) r → Finds (loaded_tail count) s → Fits capacity (reader_after capacity (loaded_tail count) r) w s → ReaderLeads (loaded_tail count)
      loads-tail count e finds after k acts =
          let p : Pipe = at_first k acts in
          let count_is : length (drop s.head s.sent) ≡ count - r.head = omega (arith, unread, fits.counts.reads) in
          ahead k acts (goes (loaded_tail count) Action.LoadIndex k k acts acts e (λ x. absurd cc)
          (ap (λ (n : ℕ). record p { known = n }) count_is)
          (ap (λ (n : ℕ). read_after capacity p.reader (Found.IndexLoaded (n == 0))) count_is ∙ told k (Found.IndexLoaded (count - r.head == 0)) Action.LoadIndex e (λ x. absurd cc))
          (ap (λ (n : ℕ). Looked Reader (Seen.Tail n) ∷ []) count_is)
          (sound capacity _ w s k acts l sources after))

      pub learns-tail : (count : ℕ) → IsReaderNext capacity (met_tail count) r → Finds (met_tail count) s → Fits capacity (reader_after capacity (met_tail count) r) w s → ReaderLeads (met_tail count)
      learns-tail count e finds after k acts =
          let p : Pipe = at_first k acts in
          let q : Pipe = pipe_at capacity (reader_after capacity (met_tail count) r) w s k acts l sources in
          let same : record p { known = length p.unread } ≡ q = ap (λ (n : ℕ). record p { known = n }) (let count_is : length (drop s.head s.sent) ≡ count - r.head = omega (arith, unread, fits.counts.reads) in count_is) in
          ahead k acts (subst (λ (x : Pipe). LeadsBy true capacity p x []) same
          (leads-learned capacity Reader p (subst IsSound (sym same) (sound capacity _ w s k acts l sources after)) (idle-same r.calling.draw k.draws r.point e)))

      pub loads-closed : (b : Bool) → IsReaderNext capacity (loaded_closed b) r → Finds (loaded_closed b) s → Fits capacity (reader_after capacity (loaded_closed b) r) w s → ReaderLeads (loaded_closed b)
      loads-closed b e finds after k acts =
          let p : Pipe = at_first k acts in
          ahead k acts (goes (loaded_closed b) Action.LoadClosed k k acts acts e (λ x. absurd cc)
          refl
          (ap (λ (x : Bool). read_after capacity p.reader (Found.Flag x)) (sym finds) ∙ told k (Found.Flag b) Action.LoadClosed e (λ x. absurd cc))
          (ap (λ (x : Bool). Looked Reader (Seen.Closed x) ∷ []) (sym finds))
          (sound capacity _ w s k acts l sources after))

      pub stores-head : (bytes : List ℕ) → IsReaderNext capacity (stored_head bytes) r → Finds (stored_head bytes) s → Fits capacity (reader_after capacity (stored_head bytes) r) w (words_after (stored_head bytes) s) → ReaderLeads (stored_head bytes)
      stores-head bytes next finds after k acts =
          let p : Pipe = at_first k acts in
          let n : ℕ = length bytes in
          let known : r.tail - r.head - n ≡ r.tail - (r.head + n) = omega arith in
          ahead k acts (goes (stored_head bytes) (Action.StoreHead (length bytes)) k k acts acts next.0 (λ x. absurd cc)
          (ap (λ (x : List ℕ). record p { unread = x; known = r.tail - r.head - n; start = Rattle.piper_protocol.specs.Index.offset_of capacity (r.start + n) }) (drop-drop n s.head s.sent)
          ∙ ap (λ (x : ℕ). record p { unread = drop (s.head + n) s.sent; known = x; start = Rattle.piper_protocol.specs.Index.offset_of capacity (r.start + n) }) known)
          (told k Found.Nothing (Action.StoreHead n) next.0 (λ x. absurd cc))
          (ap (λ (x : List ℕ). Consumed x ∷ []) (sym finds))
          (sound capacity _ w _ k acts l sources after))

      pub stores-closed : IsReaderNext capacity stored_closed r → Fits capacity (reader_after capacity stored_closed r) w (words_after stored_closed s) → ReaderLeads stored_closed
      stores-closed e after k acts =
          ahead k acts (goes stored_closed (Action.StoreClosed false) k k acts acts e (λ x. absurd cc)
          refl
          (told k Found.Nothing (Action.StoreClosed false) e (λ x. absurd cc))
          refl
          (sound capacity _ w _ k acts l sources after))

      finds-none : (side : Side) → IsToEmpty side r → Finds (loaded_slot side false) s → Empties (Action.Take side) (loaded_slot side false)
      finds-none Reader next finds after k acts =
          let p : Pipe = at_first k acts in
          let none : s.reader_slot ≡ None = none-of s.reader_slot finds in
          ahead k acts (goes (loaded_slot Reader false) (Action.Take Reader) k k acts acts next.0 (λ x. absurd cc)
          (ap (λ (x : Option ℕ). record p { reader_call = record p.reader_call { taken = x }; reader_waker = None }) none
          ∙ ap (λ (x : Option ℕ). record p { reader_call = record p.reader_call { taken = None }; reader_waker = x }) (sym none))
          (told k Found.Nothing (Action.Take Reader) next.0 (λ x. next.1) ∙ ap (reader_next r.calling.draw k.draws) (own-same capacity r.point Found.Nothing (Found.Waker false) next.0))
          refl
          (sound capacity _ w _ k acts l sources after))
      finds-none Writer next finds after k acts =
          let p : Pipe = at_first k acts in
          let none : s.writer_slot ≡ None = none-of s.writer_slot finds in
          ahead k acts (goes (loaded_slot Writer false) (Action.Take Writer) k k acts acts next.0 (λ x. absurd cc)
          (ap (λ (x : Option ℕ). record p { reader_call = record p.reader_call { taken = x }; writer_waker = None }) none
          ∙ ap (λ (x : Option ℕ). record p { reader_call = record p.reader_call { taken = None }; writer_waker = x }) (sym none))
          (ap (λ (x : Bool). read_after capacity p.reader (Found.Waker x)) (sym finds) ∙ told k (Found.Waker false) (Action.Take Writer) next.0 (λ x. next.1))
          refl
          (sound capacity _ w _ k acts l sources after))

      -- before it registers, the reader finds its slot empty
      finds-own-empty : (side : Side) → MayWithdraw side r → Empties Action.Register (loaded_slot side false)
      finds-own-empty side may after k acts =
          let p : Pipe = at_first k acts in
          (k, acts, subst (λ (es : List Event). Leads capacity p p es) (sym (stays capacity r.point false may.1)) (leads-none capacity p))

      pub finds-empty : (side : Side) → IsReaderNext capacity (loaded_slot side false) r → Finds (loaded_slot side false) s → Fits capacity (reader_after capacity (loaded_slot side false) r) w s → ReaderLeads (loaded_slot side false)
      finds-empty side next finds = elim next [
        | inl to ↦ at-action (loaded_slot side false) (Action.Take side) to.0 (finds-none side to finds)
        | inr may ↦ at-action (loaded_slot side false) Action.Register may.1 (finds-own-empty side may)
      ]

      pub knows-empty : IsReaderNext capacity knew_empty r → Fits capacity (reader_after capacity knew_empty r) w s → ReaderLeads knew_empty
      knows-empty next after k acts =
          let p : Pipe = at_first k acts in
          let none : s.reader_slot ≡ None = fits.shares.reader_rests next.2 in
          ahead k acts (goes knew_empty (Action.Take Reader) k k acts acts next.0 (λ x. absurd cc)
          (ap (λ (x : Option ℕ). record p { reader_call = record p.reader_call { taken = x }; reader_waker = None }) none
          ∙ ap (λ (x : Option ℕ). record p { reader_call = record p.reader_call { taken = None }; reader_waker = x }) (sym none))
          (told k Found.Nothing (Action.Take Reader) next.0 (λ x. next.1) ∙ ap (reader_next r.calling.draw k.draws) (own-same capacity r.point Found.Nothing (Found.Waker false) next.0))
          refl
          (sound capacity _ w _ k acts l sources after))

      pub finds-filled : (side : Side) → ReaderLeads (loaded_slot side true)
      finds-filled side k acts = (k, acts, leads-none capacity (at_first k acts))

      takes-out : (side : Side) (old : Option ℕ) → IsToEmpty side r → Finds (swapped side old None) s → Empties (Action.Take side) (swapped side old None)
      takes-out Reader old next finds after k acts =
          let p : Pipe = at_first k acts in
          ahead k acts (goes (swapped Reader old None) (Action.Take Reader) k k acts acts next.0 (λ x. absurd cc)
          (ap (λ (x : Option ℕ). record p { reader_call = record p.reader_call { taken = x }; reader_waker = None }) (sym finds))
          (told k Found.Nothing (Action.Take Reader) next.0 (λ x. next.1) ∙ ap (reader_next r.calling.draw k.draws) (own-same capacity r.point Found.Nothing (Found.Waker (is_some old)) next.0))
          refl
          (sound capacity _ w _ k acts l sources after))
      takes-out Writer old next finds after k acts =
          let p : Pipe = at_first k acts in
          ahead k acts (goes (swapped Writer old None) (Action.Take Writer) k k acts acts next.0 (λ x. absurd cc)
          (ap (λ (x : Option ℕ). record p { reader_call = record p.reader_call { taken = x }; writer_waker = None }) (sym finds))
          (ap (λ (x : Option ℕ). read_after capacity p.reader (Found.Waker (is_some x))) (sym finds) ∙ told k (Found.Waker (is_some old)) (Action.Take Writer) next.0 (λ x. next.1))
          refl
          (sound capacity _ w _ k acts l sources after))

      -- before it registers, the reader takes its waker out, or finds none
      withdraws-own : (side : Side) (old : Option ℕ) → MayWithdraw side r → Finds (swapped side old None) s → Empties Action.Register (swapped side old None)
      withdraws-own Writer old may finds after k acts = absurd (let no : Writer ≡ Reader = may.0 in cc)
      withdraws-own Reader None may finds after k acts =
          let p : Pipe = at_first k acts in
          let q : Pipe = record p { reader_waker = None } in
          ahead k acts (subst (λ (es : List Event). Leads capacity p q es) (sym (stays capacity r.point false may.1))
          (subst (λ (x : Option ℕ). Leads capacity p (record p { reader_waker = x }) []) (sym finds) (leads-none capacity p)))
      withdraws-own Reader (Some waker) may finds after k acts =
          let p : Pipe = at_first k acts in
          let q : Pipe = record p { reader_waker = None } in
          ahead k acts (subst (λ (es : List Event). LeadsBy true capacity p q es) (sym (stays capacity r.point true may.1))
          (leads-withdrawn capacity Reader p (sound capacity _ w _ k acts l sources after) (action-same r.calling.draw k.draws r.point ∙ may.1)))

      pub takes : (side : Side) (old : Option ℕ) → IsReaderNext capacity (swapped side old None) r → Finds (swapped side old None) s → Fits capacity (reader_after capacity (swapped side old None) r) w (words_after (swapped side old None) s) → ReaderLeads (swapped side old None)
      takes side old next finds = elim next [
        | inl to ↦ at-action (swapped side old None) (Action.Take side) to.0 (takes-out side old to finds)
        | inr may ↦ at-action (swapped side old None) Action.Register may.1 (withdraws-own side old may finds)
      ]

      pub registers-own : (side : Side) (old : Option ℕ) (waker : ℕ) → IsReaderNext capacity (swapped side old (Some waker)) r → Fits capacity (reader_after capacity (swapped side old (Some waker)) r) w (words_after (swapped side old (Some waker)) s) → ReaderLeads (swapped side old (Some waker))
      registers-own Writer old waker next after k acts = absurd (let no : Writer ≡ Reader = next.0 in cc)
      registers-own Reader old waker next after k acts =
          let k' : Chance = record k { registers = true } in
          let p : Pipe = at_first k' acts in
          let granted : settled r.calling.granted true ≡ true = ap (λ (g : Option Bool). settled g true) next.3 in
          let luck : Luck = luck_of r.calling k' in
          ahead k' acts (goes (swapped Reader old (Some waker)) Action.Register k k' acts acts next.1 (λ x. absurd cc)
          (ap (λ (x : Option ℕ). record p { reader_waker = x }) (registers r.calling.handed luck waker next.2 s.reader_slot granted)
          ∙ ap (λ (x : Bool). record p { reader_waker = Some waker; reader_call = record { context = context_with r.calling.handed (record luck { register_granted = x }); taken = r.calling.taken } }) granted)
          (ap (λ (x : Bool). read_after capacity p.reader (Found.Granted x)) (grants r.calling.handed luck waker next.2 granted) ∙ told k (Found.Granted true) Action.Register next.1 (λ x. absurd cc))
          (reports r.calling.handed luck waker next.2 Reader granted)
          (sound capacity _ w _ k acts l sources after))

      pub refuses-own : IsReaderNext capacity refused r → Fits capacity (reader_after capacity refused r) w s → ReaderLeads refused
      refuses-own next after k acts =
          let k' : Chance = record k { registers = false } in
          let p : Pipe = at_first k' acts in
          let granted : settled r.calling.granted false ≡ false = ap (λ (g : Option Bool). settled g false) next.1 in
          let luck : Luck = luck_of r.calling k' in
          ahead k' acts (goes refused Action.Register k k' acts acts next.0 (λ x. absurd cc)
          (ap (λ (x : Option ℕ). record p { reader_waker = x }) (registers-none r.calling.handed luck granted s.reader_slot)
          ∙ ap (λ (x : Bool). record p { reader_call = record { context = context_with r.calling.handed (record luck { register_granted = x }); taken = r.calling.taken } }) granted)
          (ap (λ (x : Bool). read_after capacity p.reader (Found.Granted x)) (refuses r.calling.handed luck granted) ∙ told k (Found.Granted false) Action.Register next.0 (λ x. absurd cc))
          (reports-none r.calling.handed luck granted Reader)
          (sound capacity _ w _ k acts l sources after))

      pub yields-own : (waker : ℕ) → IsReaderNext capacity (yielded waker) r → Fits capacity (reader_after capacity (yielded waker) r) w s → ReaderLeads (yielded waker)
      yields-own waker next after k acts =
          let p : Pipe = at_first k acts in
          ahead k acts (goes (yielded waker) Action.Yield k k acts acts next.0 (λ x. absurd cc)
          refl
          (ap (λ (x : Bool). read_after capacity p.reader (Found.Granted x)) (yields r.calling.handed (luck_of r.calling k) waker next.1 refl) ∙ told k (Found.Granted true) Action.Yield next.0 (λ x. absurd cc))
          (reports-yield r.calling.handed (luck_of r.calling k) waker next.1 refl)
          (sound capacity _ w _ k acts l sources after))

      pub wakes : (waker : ℕ) → IsReaderNext capacity (woke waker) r → Fits capacity (reader_after capacity (woke waker) r) w s → ReaderLeads (woke waker)
      wakes waker next after k acts =
          ahead k acts (goes (woke waker) Action.Wake k k acts acts next.0 (λ x. absurd cc)
          refl
          (told k Found.Nothing Action.Wake next.0 (λ x. absurd cc))
          (reports-wake r.calling.taken (luck_of r.calling k) waker next.1)
          (sound capacity _ w _ k acts l sources after))

      pub takes-bytes : (bytes : List ℕ) → IsReaderNext capacity (took bytes) r → Fits capacity (reader_after capacity (took bytes) r) w s → ReaderLeads (took bytes)
      takes-bytes bytes next after k acts =
          let n : ℕ = length bytes in
          let round : ℕ = min (shown capacity r) MOST_A_ROUND in
          let acts' : List DestAct = DestAct.Take n ∷ acts in
          let p : Pipe = at_first k acts' in
          ahead k acts' (goes (took bytes) Action.CallDestination k k acts acts' next.0 (λ x. absurd cc)
          (ap (λ (x : Destination). record p { destination = x }) (left-taken round n acts r.size next.1))
          (ap (λ (x : Found). read_after capacity p.reader x) (found-taken round n acts r.size next.1) ∙ told k (Found.Moved n) Action.CallDestination next.0 (λ x. absurd cc))
          refl
          (sound capacity _ w _ k acts l sources after))

      pub fails : IsReaderNext capacity failed r → Fits capacity (reader_after capacity failed r) w s → ReaderLeads failed
      fails next after k acts =
          let round : ℕ = min (shown capacity r) MOST_A_ROUND in
          let acts' : List DestAct = DestAct.Fail ∷ acts in
          let p : Pipe = at_first k acts' in
          ahead k acts' (goes failed Action.CallDestination k k acts acts' next.0 (λ x. absurd cc)
          (ap (λ (x : Destination). record p { destination = x }) (left-failed round acts r.size next.1))
          (ap (λ (x : Found). read_after capacity p.reader x) (found-failed round acts r.size next.1) ∙ told k Found.Failed Action.CallDestination next.0 (λ x. absurd cc))
          refl
          (sound capacity _ w _ k acts l sources after))

      pub draws : (b : Bool) → IsReaderNext capacity (drew b) r → ReaderLeads (drew b)
      draws b next k acts =
          let k' : Chance = record k { draws = b } in
          let p : Pipe = at_first k' acts in
          let q : Pipe = pipe_at capacity (reader_after capacity (drew b) r) w s k acts l sources in
          let luck : Luck = luck_of r.calling k' in
          let same : p ≡ q =
          ap (λ (x : Option Bool). record p { reader = reader_point x b r.point; reader_call = record { context = context_with r.calling.handed (record luck { draw = number_of (settled x b) }); taken = r.calling.taken } }) next.1
          ∙ ap (λ (x : ReadPoint). record q { reader = reader_drawn b x }) next.0 in
          (k', acts, subst (λ (x : Pipe). Leads capacity x q []) (sym same) (leads-none capacity q))
