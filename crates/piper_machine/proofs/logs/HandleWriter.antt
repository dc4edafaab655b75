-- Where a writer is inside its call, by the log of its handle, and where a step leads.
use Rattle.std.proofs.Common.{◌≡◌, ℕ, ◌-◌, ◌≤◌, min, List, Bool, true, false, Option, Some, is_some, sym, subst, arith, nat_le, if◌then◌else◌}
use Rattle.std.specs.Bool.{⊤}
use Rattle.piper_machine.specs.Types.{Action, AfterWrite, Answer, Found, Purpose, WritePoint, Writer}
use Rattle.piper_protocol.specs.declared.table.Form.{Form}
use Rattle.piper_protocol.specs.declared.table.Point.{Point}
use Rattle.piper_protocol.specs.Lines as handle
use Rattle.piper_protocol.specs.Table.{Next, ends_fill, goes_on, write_action, write_after, write_row, writer_is_true, writer_moved}
use Rattle.piper_protocol.specs.Told.{has_drawn, may_empty, shut_in}
use Rattle.piper_machine.specs.logs.Calling.{Calling, calling_after, may_wait_after}
use Rattle.piper_machine.specs.logs.Line.{Line}
use Rattle.piper_machine.specs.logs.OfHandles.{of_length}
use Rattle.piper_machine.specs.logs.Writing.{HasDrawn, IsWriterNext, WriterAt, own, room_to, unless, writer_after, writer_answered, writer_changed, writer_stepped, writer_told}
use Rattle.piper_machine.proofs.logs.WriterDraws.{ends-at}
use Rattle.piper_machine.proofs.logs.HandleCalls.{Calls, Counted, Known, OfCopy, Stage, is_dead, known_of, looks, moves, opens, registers, stays, takes, wakes, yields}

abbrev pub is_round : AfterWrite → Bool
is_round (AfterWrite.Round form sum) = true
is_round next = false

abbrev pub stage : WritePoint → Stage
stage (WritePoint.LookClosed l) = opens l
stage (WritePoint.LookHead l) = opens l
stage (WritePoint.LookRegister l) = registers l
stage (WritePoint.LookHeadAgain l) = looks l
stage (WritePoint.LookClosedAgain l) = looks l
stage (WritePoint.LookTake l) = takes l
stage WritePoint.Yield = yields
stage (WritePoint.CallSource form sum) = moves true
stage (WritePoint.RoundClosed n form sum) = moves true
stage (WritePoint.StoreTail n next) = moves (is_round next)
stage (WritePoint.TakeReader next) = moves (is_round next)
stage (WritePoint.WakeReader next) = wakes (is_round next)
stage (WritePoint.StoreClosed next) = moves (is_round next)
stage WritePoint.WakeWriter = wakes false
stage point = stays

-- the table leads to these stages

module _ (k : Known) (c : Calling) (Own : Type 0) where
  pub emptied : (l : Purpose) → (c.handed ≡ Some k.waker) × OfCopy l Own → Calls (stage (writer_is_true l).point) k c Own
  emptied l h = grind arith

  pub moved : (none : Bool) (n sum : ℕ) (form : Form) → Own → Calls (stage (writer_moved none n form sum).point) k c Own
  moved none n sum form h = grind arith

-- a copy has drawn that empties its own slot
pub has-drawn : (l : Purpose) (draw : Option Bool) (before : List handle.Line) → (handle.comes_to before).point ≡ Point.Writer (WritePoint.LookTake l) → may_empty Writer Writer before ≡ true → is_some draw ≡ has_drawn before → HasDrawn (WritePoint.LookTake l) draw
has-drawn l draw before e may d = grind arith

-- the bytes of the store that is next

abbrev pub Stores : ℕ → List ℕ → WritePoint → ℕ → List ℕ → Type 0
Stores capacity given (WritePoint.StoreTail n next) end bytes = (n ≤ capacity - end) × (bytes ≡ of_length n given)
Stores capacity given (WritePoint.RoundClosed n form sum) end bytes = (n ≤ capacity - end) × (bytes ≡ of_length n given)
Stores capacity given point end bytes = ⊤

abbrev pub is_store : WritePoint → Bool
is_store (WritePoint.StoreTail n next) = true
is_store (WritePoint.RoundClosed n form sum) = true
is_store point = false

pub stores-none : (capacity : ℕ) (given : List ℕ) (point : WritePoint) (end : ℕ) (bytes : List ℕ) → is_store point ≡ false → Stores capacity given point end bytes
stores-none capacity given point end bytes e = grind arith

-- a round goes on to its store
abbrev pub is_given : WritePoint → Bool
is_given (WritePoint.CallSource form sum) = true
is_given (WritePoint.RoundClosed n form sum) = true
is_given point = false

abbrev pub row : WritePoint → Found → Next WritePoint
row point f = write_row (goes_on WritePoint.Idle) point f

pub row-stores : (point : WritePoint) (f : Found) → is_given point ≡ false → is_store (row point f).point ≡ false
row-stores point f other = grind arith

pub moved-stores : (capacity : ℕ) (given : List ℕ) (none : Bool) (n sum end : ℕ) (form : Form) → n ≤ capacity - end → Stores capacity given (writer_moved none n form sum).point end (of_length n given)
moved-stores capacity given none n sum end form within = grind arith

pub lent-so : (is_shut : Bool) (n piece most : ℕ) → nat_le n (min most (if is_shut then 0 else piece)) ≡ true → n ≤ min most (unless is_shut piece)
lent-so is_shut n piece most e = grind arith

-- the writer is where these lines say, if the next store moves these bytes
pub record IsAt (capacity : ℕ) (lines : List handle.Line) (given : List ℕ) (w : WriterAt) : Type 0 where
  pub counted : Counted capacity Writer lines w.tail w.head w.end w.may_wait
  pub shut : w.is_shut ≡ shut_in lines
  pub stores : Stores capacity given w.point w.end w.given
  pub calls : Calls (stage w.point) (known_of lines) w.calling (w.source ≡ own)

abbrev pub Arrives : ℕ → List handle.Line → List ℕ → WritePoint → WriterAt → Type 0
Arrives capacity lines given point w = (Point.Writer point ≡ Point.Writer w.point) × IsAt capacity lines given w

abbrev pub at : WritePoint → WriterAt → WriterAt
at point w = record w { point = point }

abbrev pub side_next : Next WritePoint → Next Point
side_next next = record { point = Point.Writer next.point; answer = next.answer }

module _ (capacity : ℕ) where
  pub answered : (lines : List handle.Line) (given : List ℕ) (w : WriterAt) (point : WritePoint) (calling : Calling) (is_fill : Bool) (answer : Option Answer) → ((a : Answer) → answer ≡ Some a → write_action point ≡ Action.Rest)
      → Counted capacity Writer lines w.tail w.head w.end w.may_wait → w.is_shut ≡ shut_in lines → Stores capacity given point w.end w.given → Calls (stage point) (known_of lines) calling (w.source ≡ own)
      → Arrives capacity lines given point (writer_answered is_fill answer (record w { point = point; calling = calling }))
  answered lines given w point calling is_fill answer ended counted shut stores calls = grind arith

  module _ (lines : List handle.Line) (given : List ℕ) (line : Line) where
    -- a step of the table
    pub leads : (w : WriterAt) (next : Next WritePoint) → write_after capacity (room_to capacity w) w.point (writer_told capacity line w) ≡ next
        → Counted capacity Writer lines (writer_changed capacity line w).tail (writer_changed capacity line w).head (writer_changed capacity line w).end (may_wait_after Writer line w.may_wait)
        → (writer_changed capacity line w).is_shut ≡ shut_in lines
        → Stores capacity given next.point (writer_changed capacity line w).end (writer_changed capacity line w).given
        → Calls (stage next.point) (known_of lines) (calling_after line w.calling) ((writer_changed capacity line w).source ≡ own)
        → Arrives capacity lines given next.point (writer_stepped capacity line w)
    leads w next e counted shut stores calls =
        let changed : WriterAt = record (writer_changed capacity line w) { may_wait = may_wait_after Writer line w.may_wait } in
        let ended = λ (a : Answer). subst (λ (n : Next WritePoint). n.answer ≡ Some a → write_action n.point ≡ Action.Rest) e (ends-at capacity (room_to capacity w) w.point (writer_told capacity line w) a) in
        subst (λ (n : Next WritePoint). Arrives capacity lines given next.point (writer_answered (ends_fill w.point) n.answer (record changed { point = n.point; calling = calling_after line w.calling }))) (sym e)
        (answered lines given changed next.point (calling_after line w.calling) (ends_fill w.point) next.answer ended counted shut stores calls)

    -- one outside the rounds of a copy
    pub steps : (point : WritePoint) (f : Found) (w : WriterAt) → is_given point ≡ false → write_after capacity (room_to capacity w) point (writer_told capacity line (at point w)) ≡ row point f
        → Counted capacity Writer lines (writer_changed capacity line (at point w)).tail (writer_changed capacity line (at point w)).head (writer_changed capacity line (at point w)).end (may_wait_after Writer line w.may_wait)
        → (writer_changed capacity line (at point w)).is_shut ≡ shut_in lines
        → Calls (stage (row point f).point) (known_of lines) (calling_after line w.calling) ((writer_changed capacity line (at point w)).source ≡ own)
        → Arrives capacity lines given (row point f).point (writer_stepped capacity line (at point w))
    steps point f w other e counted shut calls =
        leads (at point w) (row point f) e counted shut (stores-none capacity given (row point f).point (writer_changed capacity line (at point w)).end (writer_changed capacity line (at point w)).given (row-stores point f other)) calls

    abbrev pub Follows : Next WritePoint → WriterAt → Type 0
    Follows next w = IsWriterNext capacity line w × (is_dead (side_next next) ≡ false → Arrives capacity lines given next.point (writer_after capacity line w))
