-- A call of the source is a step of the machine.
use Rattle.std.proofs.Common.{◌≡◌, ℕ, ◌+◌, ◌-◌, ◌≤◌, List, ◌∷◌, ◌++◌, length, take, drop, replicate, Bool, true, false, ◌==◌, Ok, Result, refl, sym, ap, subst, ◌∙◌, arith, []}
use Rattle.std.proofs.Math.Seq.{drop-append_seam}
use Rattle.piper_machine.specs.Types.{Action, Failed, Form, Found, WritePoint, DestAct, SourceAct, Writer, MOST_A_ROUND}
use Rattle.piper_protocol.specs.Table.{write_action, write_after, writer_moved}
use Rattle.piper_machine.specs.Log.{answer_event}
use Rattle.piper_machine.specs.Lend.{Lendable}
use Rattle.piper_machine.specs.Pipe.{Pipe}
use Rattle.piper_machine.specs.Round.{found_of, given, left_of_source, moved_by}
use Rattle.piper_machine.specs.Source.{bytes_of}
use Rattle.piper_machine.specs.logs.Line.{gave, failed}
use Rattle.piper_machine.specs.logs.OneList.{Words}
use Rattle.piper_machine.specs.logs.Reading.{ReaderAt}
use Rattle.piper_machine.specs.logs.Writing.{Source, own, IsWriterNext, MayGive, WriterAt, room_to, source_after, writer_after, writer_answered, lent_for, most_lent}
use Rattle.piper_machine.proofs.logs.Fitting.{length-lent, sound}
use Rattle.piper_machine.proofs.logs.Joint.{Gives, MayLend, Chance, Fits, lent_at, pipe_at, source_at}
use Rattle.piper_machine.proofs.logs.Leading.{ahead, Leads}
use Rattle.piper_machine.proofs.logs.WriterDraws.{action-same}
use Rattle.piper_machine.proofs.logs.WriterOpens.{gives-so, lends-so, bytes-are, given-is, gives-none, gives-within, is-source, left-is, lends-none, may-lend, may-offer, offers}
use Rattle.piper_machine.proofs.logs.WriterSteps.{WriterLeads, comes_to, goes, leads_to, told}

-- a call of the source
module _ (capacity : ℕ) (r : ReaderAt) (k : Chance) (acts : List DestAct) (w0 : WriterAt) (s : Words) (form : Form) (sum : ℕ) where
  abbrev calls : WriterAt
  calls = record w0 { point = WritePoint.CallSource form sum }

  abbrev before_call : Chance → List SourceAct → Pipe
  before_call l sources = pipe_at capacity r calls s k acts l sources

  module _ (fits : Fits capacity r calls s) where
    -- it gives none, and is lent none
    ends-round : (f : Found) (l : Chance) (sources : List SourceAct)
        → let v : WriterAt = record calls { source = own; given = []; spare = 0 } in
        let left : List SourceAct = left_of_source 0 (before_call l sources).source in
        (pipe_at capacity r (comes_to capacity r k acts calls s v f) s k acts l left).lent ≡ []
        → found_of (given 0 (before_call l sources).source) ≡ f → moved_by (given 0 (before_call l sources).source) ≡ 0
        → ((b : ℕ) (bs : List ℕ) (rest : List SourceAct) → (before_call l sources).source ≡ SourceAct.Bytes (b ∷ bs) ∷ rest → Lendable MOST_A_ROUND (before_call l sources) 0)
        → Fits capacity r (comes_to capacity r k acts calls s v f) s
        → Leads capacity (before_call l sources) (pipe_at capacity r (comes_to capacity r k acts calls s v f) s k acts l left) ([] ++ answer_event Writer (leads_to capacity r k acts calls s f).answer)
    ends-round f l sources qlent finds moved lendable after =
        let p : Pipe = before_call l sources in
        let here : write_action p.writer ≡ Action.CallSource = action-same calls.calling.draw l.draws calls.point in
        goes capacity r k acts calls s (record calls { source = own; given = []; spare = 0 }) s f [] [] Action.CallSource l l (left_of_source 0 p.source) sources refl (λ x. absurd cc)
        (offers p.writer _ p.lent here ∙ qlent)
        (may-offer p.writer p.source _ p (λ b bs rest e. subst (λ (x : List ℕ). Lendable MOST_A_ROUND p (length x)) (sym qlent) (lendable b bs rest e)))
        (ap (λ (n : ℕ). record p { lent = take n (bytes_of p.source) ++ drop n []; source = left_of_source n p.source }) moved)
        (ap (λ (x : Found). write_after capacity (room_to capacity calls) p.writer x) finds ∙ told capacity r k acts calls s l f Action.CallSource refl (λ x. absurd cc))
        refl
        (sound capacity r _ s k acts l _ after)

    gives-nothing : (lent : ℕ) → MayLend capacity MOST_A_ROUND calls lent → Gives lent calls.source [] → Fits capacity r (writer_after capacity (gave []) calls) s → WriterLeads capacity r k acts calls s (gave [])
    gives-nothing lent lendable may after l sources =
        let none = gives-none lent calls.source may in
        ahead l [] (ends-round (Found.Moved 0) l [] refl (ap found_of none) (ap moved_by none)
        (λ b bs rest e. subst (Lendable MOST_A_ROUND (before_call l [])) (lends-none lent calls.source b bs rest may e) (may-lend capacity r calls s k acts l [] fits MOST_A_ROUND lent lendable))
        after)

    fails-now : calls.source ≡ own → Fits capacity r (writer_after capacity failed calls) s → WriterLeads capacity r k acts calls s failed
    fails-now e after l sources =
        let fail : List SourceAct = SourceAct.Fail ∷ [] in
        let is : (before_call l fail).source ≡ fail = ap (λ (x : Source). source_at x fail) e in
        ahead l fail (ends-round Found.Failed l fail refl (ap (λ (x : List SourceAct). found_of (given 0 x)) is) (ap (λ (x : List SourceAct). moved_by (given 0 x)) is)
        (λ b bs rest other. absurd (let no : fail ≡ SourceAct.Bytes (b ∷ bs) ∷ rest = sym is ∙ other in cc))
        after)

    gives-some : (bytes : List ℕ) → (length bytes == 0) ≡ false → MayLend capacity MOST_A_ROUND calls (lent_for (most_lent capacity calls) calls.source (length bytes)) → Gives (lent_for (most_lent capacity calls) calls.source (length bytes)) calls.source bytes → Fits capacity r (writer_after capacity (gave bytes) calls) s → WriterLeads capacity r k acts calls s (gave bytes)
    gives-some bytes some lendable may after l sources =
        let n : ℕ = length bytes in
        let lent : ℕ = lent_for (most_lent capacity calls) calls.source n in
        let spare : List ℕ = replicate (lent - n) 0 in
        let v : WriterAt = record calls { source = source_after n calls.source; given = bytes; spare = lent - n } in
        let sources' : List SourceAct = SourceAct.Bytes bytes ∷ sources in
        let p : Pipe = before_call l sources' in
        let q : Pipe = pipe_at capacity r (writer_after capacity (gave bytes) calls) s k acts l sources in
        let qlent : q.lent ≡ bytes ++ spare = ap (λ (t : Bool). lent_at (writer_answered true (writer_moved t n form sum).answer (record v { point = (writer_moved t n form sum).point }))) some in
        let within : n ≤ lent = gives-within lent calls.source bytes may in
        let long : length (bytes ++ spare) ≡ lent = length-lent v ∙ (let e : n + (lent - n) ≡ lent = omega arith in e) in
        let here : write_action p.writer ≡ Action.CallSource = action-same calls.calling.draw l.draws calls.point in
        let gives : given (length (bytes ++ spare)) p.source ≡ Ok n = ap (λ (x : ℕ). given x p.source) long ∙ given-is lent sources bytes calls.source may in
        ahead l sources' (goes capacity r k acts calls s v s (Found.Moved n) [] (bytes ++ spare) Action.CallSource l l sources sources' refl (λ x. absurd cc)
        (offers p.writer _ p.lent here ∙ qlent)
        (may-offer p.writer p.source _ p (λ b bs rest e. subst (Lendable MOST_A_ROUND p) (sym (ap length qlent ∙ long)) (may-lend capacity r calls s k acts l sources' fits MOST_A_ROUND lent lendable)))
        (ap (λ (m : ℕ). record p { lent = take m (bytes_of p.source) ++ drop m (bytes ++ spare); source = left_of_source m p.source }) (ap moved_by gives)
        ∙ ap (λ (x : List ℕ). record p { lent = x ++ drop n (bytes ++ spare); source = left_of_source n p.source }) (bytes-are lent sources bytes calls.source may)
        ∙ ap (λ (x : List ℕ). record p { lent = bytes ++ x; source = left_of_source n p.source }) (drop-append_seam bytes spare)
        ∙ ap (λ (x : List SourceAct). record p { lent = bytes ++ spare; source = x }) (left-is lent sources bytes calls.source))
        (ap (λ (x : Result ℕ Failed). write_after capacity (room_to capacity calls) p.writer (found_of x)) gives
        ∙ told capacity r k acts calls s l (Found.Moved n) Action.CallSource refl (λ x. absurd cc))
        refl
        (sound capacity r _ s k acts l sources after))

    gives-any : (t : Bool) (bytes : List ℕ) → (length bytes == 0) ≡ t → MayGive (most_lent capacity calls) calls.source bytes → Fits capacity r (writer_after capacity (gave bytes) calls) s → WriterLeads capacity r k acts calls s (gave bytes)
    gives-any false bytes e may after = gives-some bytes e (lends-so capacity calls bytes calls.source may) (gives-so capacity calls bytes calls.source may) after
    gives-any true [] e may after = gives-nothing (lent_for (most_lent capacity calls) calls.source 0) (lends-so capacity calls [] calls.source may) (gives-so capacity calls [] calls.source may) after
    gives-any true (b ∷ bs) e may after = absurd (grind arith)

module _ (capacity : ℕ) (r : ReaderAt) (k : Chance) (acts : List DestAct) (w : WriterAt) (s : Words) where
  pub gives : (bytes : List ℕ) → IsWriterNext capacity (gave bytes) w → Fits capacity r w s → Fits capacity r (writer_after capacity (gave bytes) w) s → WriterLeads capacity r k acts w s (gave bytes)
  gives bytes next fits after =
      let at = is-source w.point next.0 in
      let there : (x : WritePoint) → x ≡ WritePoint.CallSource at.0 at.1 → Fits capacity r (record w { point = x }) s → Fits capacity r (writer_after capacity (gave bytes) (record w { point = x })) s → WriterLeads capacity r k acts (record w { point = x }) s (gave bytes) =
      λ x e. subst (λ (y : WritePoint). Fits capacity r (record w { point = y }) s → Fits capacity r (writer_after capacity (gave bytes) (record w { point = y })) s → WriterLeads capacity r k acts (record w { point = y }) s (gave bytes)) (sym e)
      (λ fit then. gives-any capacity r k acts w s at.0 at.1 fit (length bytes == 0) bytes refl next.1 then) in
      there w.point at.2 fits after

  pub fails : IsWriterNext capacity failed w → Fits capacity r w s → Fits capacity r (writer_after capacity failed w) s → WriterLeads capacity r k acts w s failed
  fails next fits after =
      let at = is-source w.point next.0 in
      let there : (x : WritePoint) → x ≡ WritePoint.CallSource at.0 at.1 → Fits capacity r (record w { point = x }) s → Fits capacity r (writer_after capacity failed (record w { point = x })) s → WriterLeads capacity r k acts (record w { point = x }) s failed =
      λ x e. subst (λ (y : WritePoint). Fits capacity r (record w { point = y }) s → Fits capacity r (writer_after capacity failed (record w { point = y })) s → WriterLeads capacity r k acts (record w { point = y }) s failed) (sym e)
      (λ fit then. fails-now capacity r k acts w s at.0 at.1 fit next.1 then) in
      there w.point at.2 fits after
