-- Where a reader is inside its call, by the log of its handle, and where a step leads.
use Rattle.std.proofs.Common.{◌≡◌, ℕ, ◌-◌, ◌≤◌, min, List, Bool, true, false, Option, None, Some, is_some, sym, subst, arith}
use Rattle.std.specs.Bool.{⊤}
use Rattle.piper_machine.specs.Types.{Action, AfterRead, Answer, Found, Purpose, ReadPoint, Reader}
use Rattle.piper_protocol.specs.declared.table.Form.{Form}
use Rattle.piper_protocol.specs.declared.table.Point.{Point}
use Rattle.piper_protocol.specs.Lines as handle
use Rattle.piper_protocol.specs.Table.{Next, goes_on, read_action, read_after, read_row, reader_is_true, reader_moved}
use Rattle.piper_protocol.specs.Told.{has_drawn, may_empty, rests}
use Rattle.piper_machine.specs.logs.Calling.{Calling, calling_after, may_wait_after}
use Rattle.piper_machine.specs.logs.Line.{Line}
use Rattle.piper_machine.specs.logs.OfHandles.{of_length}
use Rattle.piper_machine.specs.logs.Reading.{HasDrawn, IsReaderNext, ReaderAt, reader_after, reader_answered, reader_changed, reader_stepped, reader_told}
use Rattle.piper_machine.proofs.logs.Draws.{ends-at}
use Rattle.piper_machine.proofs.logs.HandleCalls.{Calls, Counted, Known, OfCopy, Stage, is_dead, known_of, looks, moves, opens, registers, stays, takes, wakes, yields}

abbrev pub is_round : AfterRead → Bool
is_round (AfterRead.Round form sum) = true
is_round next = false

abbrev pub stage : ReadPoint → Stage
stage (ReadPoint.LookTail l) = opens l
stage (ReadPoint.LookRegister l) = registers l
stage (ReadPoint.LookClosed l) = looks l
stage (ReadPoint.LookTailAgain l was_closed) = looks l
stage (ReadPoint.LookTake l) = takes l
stage ReadPoint.Yield = yields
stage (ReadPoint.CallDestination form sum) = moves true
stage (ReadPoint.StoreHead n next) = moves (is_round next)
stage (ReadPoint.TakeWriter next) = moves (is_round next)
stage (ReadPoint.WakeWriter next) = wakes (is_round next)
stage point = stays

-- the table leads to these stages

module _ (k : Known) (c : Calling) (Own : Type 0) where
  pub emptied : (l : Purpose) → (c.handed ≡ Some k.waker) × OfCopy l Own → Calls (stage (reader_is_true l).point) k c Own
  emptied l h = grind arith

  pub moved : (none : Bool) (n sum : ℕ) (form : Form) → Own → Calls (stage (reader_moved none n form sum).point) k c Own
  moved none n sum form h = grind arith

-- a copy has drawn that empties its own slot
pub has-drawn : (l : Purpose) (draw : Option Bool) (before : List handle.Line) → (handle.comes_to before).point ≡ Point.Reader (ReadPoint.LookTake l) → may_empty Reader Reader before ≡ true → is_some draw ≡ has_drawn before → HasDrawn (ReadPoint.LookTake l) draw
has-drawn l draw before e may d = grind arith

-- the bytes of the store that is next

abbrev pub Stores : ℕ → List ℕ → ReadPoint → ℕ → List ℕ → Type 0
Stores capacity given (ReadPoint.StoreHead n next) start own = (n ≤ capacity - start) × (own ≡ of_length n given)
Stores capacity given point start own = ⊤

abbrev pub is_store : ReadPoint → Bool
is_store (ReadPoint.StoreHead n next) = true
is_store point = false

pub stores-none : (capacity : ℕ) (given : List ℕ) (point : ReadPoint) (start : ℕ) (own : List ℕ) → is_store point ≡ false → Stores capacity given point start own
stores-none capacity given point start own e = grind arith

abbrev pub row : ReadPoint → Found → Next ReadPoint
row point f = read_row (goes_on ReadPoint.Idle) point f

pub row-stores : (point : ReadPoint) (f : Found) → (read_action point ≡ Action.CallDestination → ⊥) → is_store (row point f).point ≡ false
row-stores point f other = grind arith

pub moved-stores : (capacity : ℕ) (given : List ℕ) (none : Bool) (n sum start : ℕ) (form : Form) → n ≤ capacity - start → Stores capacity given (reader_moved none n form sum).point start (of_length n given)
moved-stores capacity given none n sum start form within = grind arith

pub takes-within : (n m shown most : ℕ) → m ≡ n → n ≤ shown → n ≤ most → m ≤ min shown most
takes-within n m shown most e shows within = omega arith

-- the reader is where these lines say, if the next store moves these bytes
pub record IsAt (capacity : ℕ) (lines : List handle.Line) (given : List ℕ) (r : ReaderAt) : Type 0 where
  pub counted : Counted capacity Reader lines r.head r.tail r.start r.may_wait
  pub stores : Stores capacity given r.point r.start r.given
  pub calls : Calls (stage r.point) (known_of lines) r.calling (r.size ≡ None)

abbrev pub Arrives : ℕ → List handle.Line → List ℕ → ReadPoint → ReaderAt → Type 0
Arrives capacity lines given point r = (Point.Reader point ≡ Point.Reader r.point) × IsAt capacity lines given r

abbrev pub at : ReadPoint → ReaderAt → ReaderAt
at point r = record r { point = point }

abbrev pub side_next : Next ReadPoint → Next Point
side_next next = record { point = Point.Reader next.point; answer = next.answer }

module _ (capacity : ℕ) where
  pub answered : (lines : List handle.Line) (given : List ℕ) (r : ReaderAt) (point : ReadPoint) (calling : Calling) (answer : Option Answer) → ((a : Answer) → answer ≡ Some a → read_action point ≡ Action.Rest)
      → Counted capacity Reader lines r.head r.tail r.start r.may_wait → Stores capacity given point r.start r.given → Calls (stage point) (known_of lines) calling (r.size ≡ None)
      → Arrives capacity lines given point (reader_answered answer (record r { point = point; calling = calling }))
  answered lines given r point calling answer rests counted stores calls = grind arith

  module _ (lines : List handle.Line) (given : List ℕ) (line : Line) where
    -- a step of the table
    pub leads : (r : ReaderAt) (next : Next ReadPoint) → read_after capacity r.point (reader_told line r) ≡ next
        → Counted capacity Reader lines (reader_changed capacity line r).head (reader_changed capacity line r).tail (reader_changed capacity line r).start (may_wait_after Reader line r.may_wait)
        → Stores capacity given next.point (reader_changed capacity line r).start (reader_changed capacity line r).given
        → Calls (stage next.point) (known_of lines) (calling_after line r.calling) ((reader_changed capacity line r).size ≡ None)
        → Arrives capacity lines given next.point (reader_stepped capacity line r)
    leads r next e counted stores calls =
        let changed : ReaderAt = record (reader_changed capacity line r) { may_wait = may_wait_after Reader line r.may_wait } in
        let ended = λ (a : Answer). subst (λ (n : Next ReadPoint). n.answer ≡ Some a → read_action n.point ≡ Action.Rest) e (ends-at capacity r.point (reader_told line r) a) in
        subst (λ (n : Next ReadPoint). Arrives capacity lines given next.point (reader_answered n.answer (record changed { point = n.point; calling = calling_after line r.calling }))) (sym e)
        (answered lines given changed next.point (calling_after line r.calling) next.answer ended counted stores calls)

    -- one that is not the call of a destination
    pub steps : (point : ReadPoint) (f : Found) (r : ReaderAt) → (read_action point ≡ Action.CallDestination → ⊥) → read_after capacity point (reader_told line (at point r)) ≡ row point f
        → Counted capacity Reader lines (reader_changed capacity line (at point r)).head (reader_changed capacity line (at point r)).tail (reader_changed capacity line (at point r)).start (may_wait_after Reader line r.may_wait)
        → Calls (stage (row point f).point) (known_of lines) (calling_after line r.calling) ((reader_changed capacity line (at point r)).size ≡ None)
        → Arrives capacity lines given (row point f).point (reader_stepped capacity line (at point r))
    steps point f r other e counted calls =
        leads (at point r) (row point f) e counted (stores-none capacity given (row point f).point (reader_changed capacity line (at point r)).start (reader_changed capacity line (at point r)).given (row-stores point f other)) calls

    abbrev pub Follows : Next ReadPoint → ReaderAt → Type 0
    Follows next r = IsReaderNext capacity line r × (is_dead (side_next next) ≡ false → Arrives capacity lines given next.point (reader_after capacity line r))
