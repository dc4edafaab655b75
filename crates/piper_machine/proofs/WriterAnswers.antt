-- What the log says of the writer's open call at each point, and that its steps keep this and give
-- right answers.
use Rattle.std.proofs.Common.{◌≡◌, ℕ, ◌+◌, ◌-◌, ◌≤◌, min, List, ◌∷◌, ◌++◌, take, drop, length, Bool, true, false, Option, None, Some, ◌==◌, is_some, refl, sym, ap, subst, ◌∙◌, arith, append_assoc, length-take-le, take-append-drop, take_all, IsSomeAnd, []}
use Rattle.std.proofs.lemmas.Grind.{common_steps}
use Rattle.std.proofs.lemmas.List.{take-append-le}
use Rattle.std.proofs.lemmas.Bool.Decides.{nat_tests}
use Rattle.piper_machine.specs.Types.{Action, Call, Answer, Event, Seen, SourceAct, Form, Purpose, AfterWrite, WritePoint, Writer, Looked, Try, Polling, Nothing as nothing, Granted as granted}
use Rattle.piper_machine.specs.Open.{is_granted, is_yield_granted}
use Rattle.piper_protocol.specs.Table.{Next, count_answer, end_or_pending, failed_answer, look_answer, own_taken, query_answer, reader_taken, tail_store, write_after, write_done, writer_is_open, writer_is_true, writer_looked, writer_looked_again, writer_moved, writer_registered, writer_rounds, yield_answer}
use Rattle.piper_machine.specs.Log.{answer_event}
use Rattle.piper_machine.specs.Pipe.{Pipe}
use Rattle.piper_machine.specs.Round.{given, found_of, moved_by, unspent, left_of_source}
use Rattle.piper_machine.specs.Source.{bytes_of}
use Rattle.piper_machine.specs.Scripted.{bytes_given, ends_in_failure}
use Rattle.piper_machine.specs.Action.{registration_of, wake_of, yield_of}
use Rattle.piper_machine.specs.Step.{went, source_after, filled_out, lent_after, offering}
use Rattle.piper_machine.specs.Noted.{Noted, noted_from}
use Rattle.piper_machine.specs.Outcome.{first_look, number_found, IsAnswer, MayHaveMoved, found_closed}
use Rattle.piper_machine.specs.Answered.{AreRightFrom}
use Rattle.piper_machine.proofs.Acts.{bytes_given-cons, ends_in_failure-cons, given-unspent, failure-unspent}
use Rattle.piper_machine.proofs.Showing.{noted-append, right-append, registers-leaves, wake-leaves, yield-leaves, answers, Polls}

-- a fill of this form that was handed these bytes, and whether its source fails after them
abbrev pub IsFill : Form → Call → List ℕ → Bool → Type 0
IsFill Try (Call.TryFill bytes) handed fails = (handed ≡ bytes) × (fails ≡ false)
IsFill (Polling is_drawn) (Call.PollFillBytes waker luck bytes) handed fails = (handed ≡ bytes) × (fails ≡ false)
IsFill (Polling is_drawn) (Call.PollFill waker luck acts) handed fails = (handed ≡ bytes_given acts) × (fails ≡ ends_in_failure acts)
IsFill form c handed fails = ⊥

-- the first look of a fill that goes on
abbrev pub found_open : Option Seen
found_open = Some (Seen.Closed false)

-- the source of the fill has given so many bytes, of which these last ones are not published yet
pub record Fills (first : Option Seen) (form : Form) (held : List SourceAct) (last : List ℕ) (sum : ℕ) (t : Noted) : Type 0 where
  pub fill : Call
  pub is : t.call ≡ Some fill
  pub fills : IsFill form fill (t.moved ++ (last ++ bytes_given held)) (ends_in_failure held)
  pub count : length t.moved + length last ≡ sum
  pub found : first_look t.looks ≡ first

abbrev pub WriterLooks : Option Seen → Purpose → List SourceAct → Noted → Type 0
WriterLooks first Purpose.Poll held t = Polls t
WriterLooks first (Purpose.Copy form) held t = Fills first form held [] 0 t

abbrev pub WriterAfter : AfterWrite → List SourceAct → Noted → Type 0
WriterAfter AfterWrite.Answer held t = t.call ≡ Some (Call.Produced (length t.moved))
WriterAfter AfterWrite.Drop held t = t.call ≡ Some (Call.Drop Writer)
WriterAfter AfterWrite.WakeWriter held t = t.call ≡ Some Call.Close
WriterAfter (AfterWrite.Round form sum) held t = Fills found_open form held [] sum t

abbrev pub WriterStores : ℕ → AfterWrite → List SourceAct → List ℕ → Noted → Type 0
WriterStores n AfterWrite.Answer held lent t = (t.call ≡ Some (Call.Produced n)) × (t.moved ≡ [])
WriterStores n (AfterWrite.Round form sum) held lent t = Fills found_open form held (take n lent) sum t
WriterStores n next held lent t = ⊥

abbrev pub WriterCloses : AfterWrite → Noted → Type 0
WriterCloses AfterWrite.Drop t = t.call ≡ Some (Call.Drop Writer)
WriterCloses AfterWrite.WakeWriter t = t.call ≡ Some Call.Close
WriterCloses next t = ⊥

abbrev pub WriterAt : ℕ → WritePoint → List SourceAct → List ℕ → Noted → Type 0
WriterAt capacity WritePoint.Idle held lent t = Unit {0}
WriterAt capacity WritePoint.Dropped held lent t = Unit {0}
WriterAt capacity (WritePoint.QueryHead query) held lent t = (t.call ≡ Some (Call.Query Writer query)) × (t.looks ≡ [])
WriterAt capacity (WritePoint.QueryTail query count) held lent t = (count ≤ capacity) × (t.call ≡ Some (Call.Query Writer query)) × (t.looks ≡ Seen.Head count ∷ [])
WriterAt capacity WritePoint.QueryClosed held lent t = (t.call ≡ Some (Call.IsClosed Writer)) × (t.looks ≡ [])
WriterAt capacity (WritePoint.LookClosed l) held lent t = WriterLooks None l held t
WriterAt capacity (WritePoint.LookHead l) held lent t = WriterLooks found_open l held t
WriterAt capacity (WritePoint.LookRegister l) held lent t = WriterLooks found_open l held t
WriterAt capacity (WritePoint.LookHeadAgain l) held lent t = WriterLooks found_open l held t
WriterAt capacity (WritePoint.LookClosedAgain l) held lent t = WriterLooks found_open l held t
WriterAt capacity (WritePoint.LookTake l) held lent t = WriterLooks found_open l held t
WriterAt capacity WritePoint.Yield held lent t = Fills found_open (Polling true) held [] 0 t
WriterAt capacity (WritePoint.CallSource form sum) held lent t = Fills found_open form held [] sum t
WriterAt capacity (WritePoint.RoundClosed n form sum) held lent t = Fills found_open form held (take n lent) sum t
WriterAt capacity (WritePoint.StoreTail n next) held lent t = WriterStores n next held lent t
WriterAt capacity (WritePoint.TakeReader next) held lent t = WriterAfter next held t
WriterAt capacity (WritePoint.WakeReader next) held lent t = WriterAfter next held t
WriterAt capacity (WritePoint.StoreClosed next) held lent t = WriterCloses next t
WriterAt capacity WritePoint.TakeWriter held lent t = t.call ≡ Some Call.Close
WriterAt capacity WritePoint.WakeWriter held lent t = t.call ≡ Some Call.Close

-- a step that leads there gives a right answer, or goes on where this holds
abbrev Leads : ℕ → List SourceAct → (Option Answer → List ℕ) → Next WritePoint → Noted → Type 0
Leads capacity held lent_then next t = AreRightFrom capacity Writer t (answer_event Writer next.answer) × WriterAt capacity next.point (source_after next.answer held) (lent_then next.answer) (noted_from Writer t (answer_event Writer next.answer))

-- with what the step logs before its answer
abbrev Steps : ℕ → List SourceAct → (Option Answer → List ℕ) → Next WritePoint → Noted → List Event → Type 0
Steps capacity held lent_then next t es =
    let events = es ++ answer_event Writer next.answer in
    AreRightFrom capacity Writer t events × WriterAt capacity next.point (source_after next.answer held) (lent_then next.answer) (noted_from Writer t events)

steps : (capacity : ℕ) (held : List SourceAct) (lent_then : Option Answer → List ℕ) (next : Next WritePoint) (t u : Noted) (es : List Event) → AreRightFrom capacity Writer t es → noted_from Writer t es ≡ u → Leads capacity held lent_then next u → Steps capacity held lent_then next t es
steps capacity held lent_then next t u es right noted leads =
    let fs = answer_event Writer next.answer in
    let after = noted-append Writer t es fs ∙ ap (λ (v : Noted). noted_from Writer v fs) noted in (
      right-append capacity Writer t es fs right (subst (λ (v : Noted). AreRightFrom capacity Writer v fs) (sym noted) leads.0),
      subst (λ (v : Noted). WriterAt capacity next.point (source_after next.answer held) (lent_then next.answer) v) (sym after) leads.1,
    )

-- the first of some looks stays the first
first-stays : (looks : List Seen) (look first : Seen) → first_look looks ≡ Some first → first_look (look ∷ looks) ≡ Some first
first-stays looks look first is = grind arith

some_first : (look : Seen) (looks : List Seen) → first_look (look ∷ looks) ≡ None → ⊥
some_first look [] none = absurd (cc)
some_first look (before ∷ looks) none = some_first before looks none

first-made : (looks : List Seen) (look : Seen) → first_look looks ≡ None → first_look (look ∷ looks) ≡ Some look
first-made [] look none = refl
first-made (before ∷ looks) look none = absurd (some_first before looks none)

module _ (capacity : ℕ) where
  -- the answers of a fill

  fill-counts : (form : Form) (c : Call) (moved last left : List ℕ) (fails : Bool) (sum : ℕ) (looks : List Seen) → IsFill form c (moved ++ (last ++ left)) fails → length moved + length last ≡ sum → (found_closed looks ≡ false → length last ≡ 0) → first_look looks ≡ found_open → IsAnswer capacity c looks moved (count_answer form sum)
  fill-counts form c moved last left fails sum looks fills count none found = grind (arith, common_steps)

  fill-fails : (form : Form) (c : Call) (moved : List ℕ) (looks : List Seen) → IsFill form c (moved ++ []) true → IsAnswer capacity c looks moved failed_answer
  fill-fails form c moved looks fills = grind (arith, common_steps)

  -- where each step leads

  module _ (t : Noted) (held : List SourceAct) (lent_then : Option Answer → List ℕ) where
    open-leads : (is_closed none : Bool) (l : Purpose) → WriterLooks (Some (Seen.Closed is_closed)) l held t → Leads capacity held lent_then (writer_is_open is_closed none l) t
    open-leads is_closed none l looks = grind arith

    looks-leads : (none : Bool) (l : Purpose) → WriterLooks found_open l held t → WriterAt capacity (writer_looked none l) held (lent_then None) t
    looks-leads none l looks = grind arith

    again-leads : (none : Bool) (l : Purpose) → WriterLooks found_open l held t → WriterAt capacity (writer_looked_again none l) held (lent_then None) t
    again-leads none l looks = grind arith

    registers-leads : (is_granted : Bool) (l : Purpose) → WriterLooks found_open l held t → Leads capacity held lent_then (writer_registered is_granted l) t
    registers-leads is_granted l looks = grind (arith, common_steps)

    ends-leads : (is_closed : Bool) (l : Purpose) → WriterLooks found_open l held t → AreRightFrom capacity Writer t (answer_event Writer (Some (look_answer l (end_or_pending is_closed))))
    ends-leads is_closed l looks = grind (arith, common_steps)

    true-leads : (l : Purpose) → WriterLooks found_open l held t → Leads capacity held lent_then (writer_is_true l) t
    true-leads l looks = grind arith

    yields-leads : (is_granted : Bool) → Fills found_open (Polling true) held [] 0 t → AreRightFrom capacity Writer t (answer_event Writer (Some (yield_answer is_granted)))
    yields-leads is_granted looks = grind (arith, common_steps)

    done-leads : (next : AfterWrite) → WriterAfter next held t → Leads capacity held lent_then (write_done next) t
    done-leads next noted = grind arith

    take-leads : (next : AfterWrite) (is_found : Bool) → WriterAfter next held t → Leads capacity held lent_then (reader_taken next is_found) t
    take-leads next is_found noted = grind arith

    own-leads : (is_found : Bool) → t.call ≡ Some Call.Close → Leads capacity held lent_then (own_taken is_found) t
    own-leads is_found noted = grind arith

    rounds-leads : (is_closed : Bool) (n : ℕ) (form : Form) (sum : ℕ) (looks : List Seen) → t.looks ≡ Seen.Closed is_closed ∷ looks → Fills found_open form held (take n (lent_then None)) sum t → Leads capacity held lent_then (writer_rounds is_closed n form sum) t
    rounds-leads is_closed n form sum looks is given = grind (arith, common_steps)

  -- what the log says of a look does not depend on what it found, but for the first one
  looked : (l : Purpose) (held : List SourceAct) (t : Noted) (look : Seen) → WriterLooks found_open l held t → WriterLooks found_open l held (record t { looks = look ∷ t.looks })
  looked l held t look looks = grind arith

  first-looked : (l : Purpose) (held : List SourceAct) (t : Noted) (look : Seen) → WriterLooks None l held t → WriterLooks (Some look) l held (record t { looks = look ∷ t.looks })
  first-looked Purpose.Poll held t look looks = record { poll = looks.poll; is = looks.is; polls = looks.polls }
  first-looked (Purpose.Copy form) held t look looks = record { fill = looks.fill; is = looks.is; fills = looks.fills; count = looks.count; found = first-made t.looks look looks.found }

  -- one call of the source

  ends-call : (form : Form) (sum : ℕ) (held : List SourceAct) (t : Noted) → Fills found_open form held [] sum t → AreRightFrom capacity Writer t (answer_event Writer (Some (count_answer form sum)))
  ends-call form sum held t given = answers capacity t Writer given.fill _ given.is (fill-counts form given.fill t.moved [] (bytes_given held) (ends_in_failure held) sum t.looks given.fills given.count (λ is_open. refl) given.found)

  -- some bytes of an act
  round-leads : (none : Bool) (n : ℕ) (form : Form) (sum : ℕ) (bytes : List ℕ) (acts : List SourceAct) (lent : List ℕ) (t : Noted) → (n == 0) ≡ none → n ≤ length bytes → Fills found_open form (SourceAct.Bytes bytes ∷ acts) [] sum t
      → Leads capacity (unspent (drop n bytes) acts) (λ answer. filled_out true answer (take n bytes ++ drop n lent)) (writer_moved none n form sum) t
  round-leads true n form sum bytes acts lent t test within given = (ends-call form sum (SourceAct.Bytes bytes ∷ acts) t given, tt)
  round-leads false n form sum bytes acts lent t test within given =
      let some : length bytes ≡ 0 → ⊥ = λ none. absurd (let zero : n ≡ 0 = omega arith in let is : (n == 0) ≡ true = grind (arith, nat_tests) in cc) in
      let long : length (take n bytes) ≡ n = length-take-le n bytes within in
      let front : take n (take n bytes ++ drop n lent) ≡ take n bytes = take-front n (take n bytes) (drop n lent) long in
      let parts : bytes_given (SourceAct.Bytes bytes ∷ acts) ≡ take n bytes ++ bytes_given (unspent (drop n bytes) acts) =
      bytes_given-cons bytes acts some
      ∙ ap (λ (xs : List ℕ). xs ++ bytes_given acts) (sym (take-append-drop n bytes))
      ∙ append_assoc (take n bytes) (drop n bytes) (bytes_given acts)
      ∙ ap (λ (xs : List ℕ). take n bytes ++ xs) (sym (given-unspent (drop n bytes) acts)) in
      let fails : ends_in_failure (SourceAct.Bytes bytes ∷ acts) ≡ ends_in_failure (unspent (drop n bytes) acts) = ends_in_failure-cons bytes acts some ∙ sym (failure-unspent (drop n bytes) acts) in
      let fills = subst (λ (xs : List ℕ). IsFill form given.fill (t.moved ++ xs) (ends_in_failure (SourceAct.Bytes bytes ∷ acts))) (parts ∙ ap (λ (xs : List ℕ). xs ++ bytes_given (unspent (drop n bytes) acts)) (sym front)) given.fills in
      let count = given.count in
      let same : length (take n (take n bytes ++ drop n lent)) ≡ n = ap (λ (xs : List ℕ). length xs) front ∙ long in (
        tt,
        record {
          fill = given.fill;
          is = given.is;
          fills = subst (λ (b : Bool). IsFill form given.fill (t.moved ++ (take n (take n bytes ++ drop n lent) ++ bytes_given (unspent (drop n bytes) acts))) b) fails fills;
          count = omega arith;
          found = given.found;
        },
      )
    where
      take-front : (k : ℕ) (xs ys : List ℕ) → length xs ≡ k → take k (xs ++ ys) ≡ xs
      take-front k xs ys is = take-append-le k xs ys (omega arith) ∙ take_all k xs (omega arith)

  source-leads : (held : List SourceAct) (form : Form) (sum : ℕ) (lent : List ℕ) (t : Noted) (room : ℕ) → Fills found_open form held [] sum t
      → let n = moved_by (given (length lent) held) in
      Leads capacity (left_of_source n held) (λ answer. filled_out true answer (take n (bytes_of held) ++ drop n lent)) (write_after capacity room (WritePoint.CallSource form sum) (found_of (given (length lent) held))) t
  source-leads [] form sum lent t room given = (ends-call form sum [] t given, tt)
  source-leads (SourceAct.Fail ∷ acts) form sum lent t room given = (answers capacity t Writer given.fill _ given.is (fill-fails form given.fill t.moved t.looks given.fills), tt)
  source-leads (SourceAct.Bytes bytes ∷ acts) form sum lent t room given =
      let n = min (length lent) (length bytes) in
      round-leads (n == 0) n form sum bytes acts lent t refl (omega arith) given

  -- a store of tail
  stores : (n : ℕ) (next : AfterWrite) (held : List SourceAct) (lent : List ℕ) (t : Noted) → n ≤ length lent → WriterStores n next held lent t
      → let u = record t { moved = t.moved ++ take n lent } in IsSomeAnd t.call (λ (c : Call). MayHaveMoved c u.moved) × WriterAfter next held u
  stores n next held lent t within noted = grind (arith, common_steps)

-- the step of each point
pub writer-point : (point : WritePoint) (offered : List ℕ) (p : Pipe) (t : Noted) → length p.unread ≤ p.capacity → tail_store point ≤ length p.lent → WriterAt p.capacity point p.source p.lent t
    → let new = went Writer (offering offered (record p { writer = point })) in AreRightFrom p.capacity Writer t new.events × WriterAt p.capacity new.pipe.writer new.pipe.source new.pipe.lent (noted_from Writer t new.events)
writer-point WritePoint.Idle offered p t fits within noted = (tt, tt)
writer-point WritePoint.Dropped offered p t fits within noted = (tt, tt)
writer-point (WritePoint.QueryHead query) offered p t fits within noted = ((tt, tt), (fits, noted.0, ap (λ (looks : List Seen). Seen.Head (length p.unread) ∷ looks) noted.1))
writer-point (WritePoint.QueryTail query count) offered p t fits within noted =
    let u = record t { looks = Seen.Tail (length p.unread) ∷ t.looks } in
    let looks = ap (λ (before : List Seen). Seen.Tail (length p.unread) ∷ before) noted.2 in
    ((tt, answers p.capacity u Writer (Call.Query Writer query) (query_answer query p.capacity count) noted.1 (record { number = count; is_found = ap (λ (all : List Seen). number_found Writer all) looks; within = noted.0; answers = refl })), tt)
writer-point WritePoint.QueryClosed offered p t fits within noted =
    let u = record t { looks = Seen.Closed p.is_closed ∷ t.looks } in
    ((tt, answers p.capacity u Writer (Call.IsClosed Writer) _ noted.0 (ap (λ (before : List Seen). Seen.Closed p.is_closed ∷ before) noted.1)), tt)
writer-point (WritePoint.LookClosed l) offered p t fits within noted =
    let u = record t { looks = Seen.Closed p.is_closed ∷ t.looks } in
    steps p.capacity p.source (λ answer. lent_after Action.LoadClosed (WritePoint.LookClosed l) answer p.lent) (writer_is_open p.is_closed (p.room == 0) l) t u (Looked Writer (Seen.Closed p.is_closed) ∷ []) (tt, tt) refl (open-leads p.capacity u p.source (λ answer. lent_after Action.LoadClosed (WritePoint.LookClosed l) answer p.lent) p.is_closed (p.room == 0) l (first-looked p.capacity l p.source t (Seen.Closed p.is_closed) noted))
writer-point (WritePoint.LookHead l) offered p t fits within noted = ((tt, tt), looks-leads p.capacity _ p.source (λ answer. p.lent) (p.capacity - length p.unread == 0) l (looked p.capacity l p.source t _ noted))
writer-point (WritePoint.LookRegister l) offered p t fits within noted =
    let quiet = registers-leaves p.capacity t Writer Writer p.writer_call.context in
    steps p.capacity p.source (λ answer. lent_after Action.Register (WritePoint.LookRegister l) answer p.lent) (writer_registered (is_granted p.writer_call.context) l) t t (registration_of Writer p.writer_call.context) quiet.0 quiet.1 (registers-leads p.capacity t p.source (λ answer. lent_after Action.Register (WritePoint.LookRegister l) answer p.lent) (is_granted p.writer_call.context) l noted)
writer-point (WritePoint.LookHeadAgain l) offered p t fits within noted = ((tt, tt), again-leads p.capacity _ p.source (λ answer. p.lent) (p.capacity - length p.unread == 0) l (looked p.capacity l p.source t _ noted))
writer-point (WritePoint.LookClosedAgain l) offered p t fits within noted =
    let u = record t { looks = Seen.Closed p.is_closed ∷ t.looks } in
    ((tt, ends-leads p.capacity u p.source (λ answer. p.lent) p.is_closed l (looked p.capacity l p.source t _ noted)), tt)
writer-point (WritePoint.LookTake l) offered p t fits within noted = steps p.capacity p.source (λ answer. p.lent) (writer_is_true l) t t [] tt refl (true-leads p.capacity t p.source (λ answer. p.lent) l noted)
writer-point WritePoint.Yield offered p t fits within noted =
    let quiet = yield-leaves p.capacity t Writer p.writer_call.context in
    steps p.capacity p.source (λ answer. lent_after Action.Yield WritePoint.Yield answer p.lent) (write_after p.capacity p.room WritePoint.Yield (granted (is_yield_granted p.writer_call.context))) t t (yield_of p.writer_call.context) quiet.0 quiet.1 (yields-leads p.capacity t p.source (λ answer. p.lent) (is_yield_granted p.writer_call.context) noted, tt)
writer-point (WritePoint.CallSource form sum) offered p t fits within noted =
    let n = moved_by (given (length offered) p.source) in
    steps p.capacity (left_of_source n p.source) (λ answer. filled_out true answer (take n (bytes_of p.source) ++ drop n offered)) (write_after p.capacity p.room (WritePoint.CallSource form sum) (found_of (given (length offered) p.source))) t t [] tt refl
    (source-leads p.capacity p.source form sum offered t p.room noted)
writer-point (WritePoint.RoundClosed n form sum) offered p t fits within noted =
    let u = record t { looks = Seen.Closed p.is_closed ∷ t.looks } in
    let given : Fills found_open form p.source (take n p.lent) sum u = record { fill = noted.fill; is = noted.is; fills = noted.fills; count = noted.count; found = first-stays t.looks (Seen.Closed p.is_closed) (Seen.Closed false) noted.found } in
    steps p.capacity p.source (λ answer. filled_out true answer p.lent) (writer_rounds p.is_closed n form sum) t u (Looked Writer (Seen.Closed p.is_closed) ∷ []) (tt, tt) refl (rounds-leads p.capacity u p.source (λ answer. filled_out true answer p.lent) p.is_closed n form sum t.looks refl given)
writer-point (WritePoint.StoreTail n next) offered p t fits within noted =
    let stored = stores p.capacity n next p.source p.lent t within noted in
    ((stored.0, tt), stored.1)
writer-point (WritePoint.TakeReader next) offered p t fits within noted = steps p.capacity p.source (λ answer. p.lent) (reader_taken next (is_some p.reader_waker)) t t [] tt refl (take-leads p.capacity t p.source (λ answer. p.lent) next (is_some p.reader_waker) noted)
writer-point (WritePoint.WakeReader next) offered p t fits within noted =
    let quiet = wake-leaves p.capacity t Writer p.writer_call.taken in
    steps p.capacity p.source (λ answer. p.lent) (write_done next) t t (wake_of p.writer_call.taken) quiet.0 quiet.1 (done-leads p.capacity t p.source (λ answer. p.lent) next noted)
writer-point (WritePoint.StoreClosed AfterWrite.WakeWriter) offered p t fits within noted = ((tt, tt), noted)
writer-point (WritePoint.StoreClosed AfterWrite.Drop) offered p t fits within noted = ((tt, tt), noted)
writer-point (WritePoint.StoreClosed AfterWrite.Answer) offered p t fits within noted = absurd noted
writer-point (WritePoint.StoreClosed (AfterWrite.Round form sum)) offered p t fits within noted = absurd noted
writer-point WritePoint.TakeWriter offered p t fits within noted = steps p.capacity p.source (λ answer. p.lent) (own_taken (is_some p.writer_waker)) t t [] tt refl (own-leads p.capacity t p.source (λ answer. p.lent) (is_some p.writer_waker) noted)
writer-point WritePoint.WakeWriter offered p t fits within noted =
    let quiet = wake-leaves p.capacity t Writer p.writer_call.taken in
    steps p.capacity p.source (λ answer. p.lent) (write_after p.capacity p.room WritePoint.WakeWriter nothing) t t (wake_of p.writer_call.taken) quiet.0 quiet.1 (answers p.capacity t Writer Call.Close Answer.Done noted tt, tt)
