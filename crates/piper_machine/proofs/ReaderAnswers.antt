-- What the log says of the reader's open call at each point, and that its steps keep this and give
-- right answers.
use Rattle.std.proofs.Common.{◌≡◌, ℕ, ◌+◌, ◌≤◌, List, ◌∷◌, ◌++◌, take, length, Bool, true, Some, ◌==◌, is_some, refl, sym, ap, subst, ◌∙◌, arith, length-take-le, IsSomeAnd, []}
use Rattle.std.proofs.lemmas.Grind.{common_steps}
use Rattle.piper_machine.specs.Types.{Call, Event, Seen, Form, Purpose, AfterRead, ReadPoint, Destination, Reader, Looked, Try, Polling, Granted as granted, Slice, Acts}
use Rattle.piper_machine.specs.Open.{is_granted, is_yield_granted}
use Rattle.piper_protocol.specs.Table.{Next, head_store, read_after, reader_is_true, reader_looked_again, reader_looks_for, reader_registered, writer_taken, yield_answer}
use Rattle.piper_machine.specs.Log.{answer_event}
use Rattle.piper_machine.specs.Pipe.{Pipe}
use Rattle.piper_machine.specs.Action.{registration_of, yield_of}
use Rattle.piper_machine.specs.Step.{went, destination_after}
use Rattle.piper_machine.specs.Noted.{Noted, noted_from}
use Rattle.piper_machine.specs.Outcome.{places_of, may_fail, MayHaveMoved}
use Rattle.piper_machine.specs.Answered.{AreRightFrom}
use Rattle.piper_machine.proofs.Showing.{noted-append, right-append, registers-leaves, yield-leaves, Polls}

-- a drain of this form, whose destination has so much left where so many bytes were taken
abbrev pub IsDrain : Form → Call → Destination → ℕ → Type 0
IsDrain Try (Call.TryDrain size) (Slice left) sum = left + sum ≡ size
IsDrain (Polling is_drawn) (Call.PollDrainBytes waker luck size) (Slice left) sum = left + sum ≡ size
IsDrain (Polling is_drawn) (Call.PollDrain waker luck acts) (Acts left) sum = (places_of left + sum ≤ places_of acts) × (may_fail left ≡ may_fail acts)
IsDrain form c destination sum = ⊥

-- the drain has taken so many bytes, of which the last n are not consumed yet
pub record Drains (form : Form) (destination : Destination) (n sum : ℕ) (t : Noted) : Type 0 where
  pub drain : Call
  pub is : t.call ≡ Some drain
  pub drains : IsDrain form drain destination sum
  pub count : length t.moved + n ≡ sum

abbrev pub ReaderLooks : Purpose → Destination → Noted → Type 0
ReaderLooks Purpose.Poll destination t = Polls t
ReaderLooks (Purpose.Copy form) destination t = Drains form destination 0 0 t

abbrev pub ReaderAfter : AfterRead → Destination → Noted → Type 0
ReaderAfter AfterRead.Answer destination t = t.call ≡ Some (Call.Consume (length t.moved))
ReaderAfter AfterRead.Drop destination t = t.call ≡ Some (Call.Drop Reader)
ReaderAfter (AfterRead.Round form sum) destination t = Drains form destination 0 sum t

abbrev pub ReaderStores : ℕ → AfterRead → Destination → Noted → Type 0
ReaderStores n AfterRead.Answer destination t = (t.call ≡ Some (Call.Consume n)) × (t.moved ≡ [])
ReaderStores n AfterRead.Drop destination t = ⊥
ReaderStores n (AfterRead.Round form sum) destination t = Drains form destination n sum t

abbrev pub ReaderAt : ReadPoint → Destination → Noted → Type 0
ReaderAt ReadPoint.Idle destination t = Unit {0}
ReaderAt ReadPoint.Dropped destination t = Unit {0}
ReaderAt (ReadPoint.QueryHead query) destination t = (t.call ≡ Some (Call.Query Reader query)) × (t.looks ≡ [])
ReaderAt (ReadPoint.QueryTail query) destination t = (before : ℕ) × (t.call ≡ Some (Call.Query Reader query)) × (t.looks ≡ Seen.Head before ∷ [])
ReaderAt ReadPoint.QueryClosed destination t = (t.call ≡ Some (Call.IsClosed Reader)) × (t.looks ≡ [])
ReaderAt (ReadPoint.LookTail l) destination t = ReaderLooks l destination t
ReaderAt (ReadPoint.LookRegister l) destination t = ReaderLooks l destination t
ReaderAt (ReadPoint.LookClosed l) destination t = ReaderLooks l destination t
ReaderAt (ReadPoint.LookTailAgain l was_closed) destination t = ReaderLooks l destination t
ReaderAt (ReadPoint.LookTake l) destination t = ReaderLooks l destination t
ReaderAt ReadPoint.Yield destination t = Drains (Polling true) destination 0 0 t
ReaderAt (ReadPoint.CallDestination form sum) destination t = Drains form destination 0 sum t
ReaderAt (ReadPoint.StoreHead n next) destination t = ReaderStores n next destination t
ReaderAt (ReadPoint.TakeWriter next) destination t = ReaderAfter next destination t
ReaderAt (ReadPoint.WakeWriter next) destination t = ReaderAfter next destination t
ReaderAt ReadPoint.StoreClosed destination t = t.call ≡ Some (Call.Drop Reader)

-- a step that leads there gives a right answer, or goes on where this holds
abbrev Leads : ℕ → Destination → Next ReadPoint → Noted → Type 0
Leads capacity destination next t = AreRightFrom capacity Reader t (answer_event Reader next.answer) × ReaderAt next.point (destination_after next.answer destination) (noted_from Reader t (answer_event Reader next.answer))

-- with what the step logs before its answer
abbrev Steps : ℕ → Destination → Next ReadPoint → Noted → List Event → Type 0
Steps capacity destination next t es =
    let events = es ++ answer_event Reader next.answer in
    AreRightFrom capacity Reader t events × ReaderAt next.point (destination_after next.answer destination) (noted_from Reader t events)

steps : (capacity : ℕ) (destination : Destination) (next : Next ReadPoint) (t u : Noted) (es : List Event) → AreRightFrom capacity Reader t es → noted_from Reader t es ≡ u → Leads capacity destination next u → Steps capacity destination next t es
steps capacity destination next t u es right noted leads =
    let fs = answer_event Reader next.answer in
    let after = noted-append Reader t es fs ∙ ap (λ (v : Noted). noted_from Reader v fs) noted in (
      right-append capacity Reader t es fs right (subst (λ (v : Noted). AreRightFrom capacity Reader v fs) (sym noted) leads.0),
      subst (λ (v : Noted). ReaderAt next.point (destination_after next.answer destination) v) (sym after) leads.1,
    )

module _ (capacity : ℕ) where
  -- where each step leads

  module _ (t : Noted) (destination : Destination) where
    pub opens-leads : (none : Bool) (l : Purpose) → ReaderLooks l destination t → ReaderAt (reader_looks_for none l) destination t
    opens-leads none l looks = grind arith

    registers-leads : (is_granted : Bool) (l : Purpose) → ReaderLooks l destination t → Leads capacity destination (reader_registered is_granted l) t
    registers-leads is_granted l looks = grind (arith, common_steps)

    again-leads : (none was_closed : Bool) (l : Purpose) → ReaderLooks l destination t → Leads capacity destination (reader_looked_again none l was_closed) t
    again-leads none was_closed l looks = grind (arith, common_steps)

    true-leads : (l : Purpose) → ReaderLooks l destination t → Leads capacity destination (reader_is_true l) t
    true-leads l looks = grind arith

    yields-leads : (is_granted : Bool) → Drains (Polling true) destination 0 0 t → AreRightFrom capacity Reader t (answer_event Reader (Some (yield_answer is_granted)))
    yields-leads is_granted looks = grind (arith, common_steps)

    take-leads : (next : AfterRead) (is_found : Bool) → ReaderAfter next destination t → Leads capacity destination (writer_taken next is_found) t
    take-leads next is_found after = grind arith

  -- what the log says of a look does not depend on what it found
  looked : (l : Purpose) (destination : Destination) (t : Noted) (look : Seen) → ReaderLooks l destination t → ReaderLooks l destination (record t { looks = look ∷ t.looks })
  looked l destination t look looks = grind arith

  -- a store of head
  stores : (n : ℕ) (next : AfterRead) (destination : Destination) (t : Noted) (bytes : List ℕ) → length bytes ≡ n → ReaderStores n next destination t
      → let u = record t { moved = t.moved ++ bytes } in IsSomeAnd t.call (λ (c : Call). MayHaveMoved c u.moved) × ReaderAfter next destination u
  stores n next destination t bytes long held = grind (arith, common_steps)

-- the step of each point
pub reader-point : (point : ReadPoint) (p : Pipe) (t : Noted) → length p.unread ≤ p.capacity → head_store point ≤ length p.unread → ReaderAt point p.destination t
    → let new = went Reader (record p { reader = point }) in AreRightFrom p.capacity Reader t new.events × ReaderAt new.pipe.reader new.pipe.destination (noted_from Reader t new.events)
reader-point ReadPoint.Idle p t fits within held = (tt, tt)
reader-point ReadPoint.Dropped p t fits within held = (tt, tt)
reader-point (ReadPoint.QueryHead query) p t fits within held = ((tt, tt), (length p.unread, held.0, ap (λ (looks : List Seen). Seen.Head (length p.unread) ∷ looks) held.1))
reader-point (ReadPoint.QueryTail query) p t fits within held = grind arith
reader-point ReadPoint.QueryClosed p t fits within held = grind arith
reader-point (ReadPoint.LookTail l) p t fits within held = grind arith
reader-point (ReadPoint.LookRegister l) p t fits within held =
    let quiet = registers-leaves p.capacity t Reader Reader p.reader_call.context in
    steps p.capacity p.destination (reader_registered (is_granted p.reader_call.context) l) t t (registration_of Reader p.reader_call.context) quiet.0 quiet.1 (registers-leads p.capacity t p.destination (is_granted p.reader_call.context) l held)
reader-point (ReadPoint.LookClosed l) p t fits within held = grind arith
reader-point (ReadPoint.LookTailAgain l was_closed) p t fits within held =
    let u = record t { looks = Seen.Tail (length p.unread) ∷ t.looks } in
    steps p.capacity p.destination (reader_looked_again (length p.unread == 0) l was_closed) t u (Looked Reader (Seen.Tail (length p.unread)) ∷ []) (tt, tt) refl (again-leads p.capacity u p.destination (length p.unread == 0) was_closed l (looked p.capacity l p.destination t _ held))
reader-point (ReadPoint.LookTake l) p t fits within held = steps p.capacity p.destination (reader_is_true l) t t [] tt refl (true-leads p.capacity t p.destination l held)
reader-point ReadPoint.Yield p t fits within held =
    let quiet = yield-leaves p.capacity t Reader p.reader_call.context in
    steps p.capacity p.destination (read_after p.capacity ReadPoint.Yield (granted (is_yield_granted p.reader_call.context))) t t (yield_of p.reader_call.context) quiet.0 quiet.1 (yields-leads p.capacity t p.destination (is_yield_granted p.reader_call.context) held, tt)
reader-point (ReadPoint.CallDestination form sum) p t fits within held = grind arith
reader-point (ReadPoint.StoreHead n next) p t fits within held =
    let stored = stores p.capacity n next p.destination t (take n p.unread) (length-take-le n p.unread within) held in
    ((stored.0, tt), stored.1)
reader-point (ReadPoint.TakeWriter next) p t fits within held = steps p.capacity p.destination (writer_taken next (is_some p.writer_waker)) t t [] tt refl (take-leads p.capacity t p.destination next (is_some p.writer_waker) held)
reader-point (ReadPoint.WakeWriter next) p t fits within held = grind arith
reader-point ReadPoint.StoreClosed p t fits within held = ((tt, tt), held)
