-- One step of a run: a call is opened,
-- a side makes its next step, or a byte is put into what is lent.
use Rattle.std.specs.Prelude.{ℕ, List, [], ◌∷◌, ◌++◌, length, slice_set, Bool, true, Option, None, Some, ◌==◌, ⊤}
use Rattle.piper_machine.specs.Types.{AfterRead, AfterWrite, ReadPoint, Side, OpenCall, Call, Query, Context, Step, Answer, Event, Action, Form, SourceAct, Destination, WritePoint, Found, Reader, Writer, Begin, Go, Put, Lent, Began, Try, Polling, MOST_A_ROUND, Slice, Acts}
use Rattle.piper_protocol.specs.declared.table.Purpose.TheVariants.{Poll, Copy}
use Rattle.piper_machine.specs.Open.{no_call, called_with}
use Rattle.piper_machine.specs.Log.{answer_event}
use Rattle.piper_machine.specs.Pipe.{Pipe}
use Rattle.piper_machine.specs.Call.{side_of, kind_of, waker_of}
use Rattle.piper_machine.specs.Look.{context}
use Rattle.piper_machine.specs.Lend.{Lendable, lending}
use Rattle.piper_protocol.specs.Table.{read_action, read_after, reader_looks_for, write_action, write_after, ends_fill}
use Rattle.piper_machine.specs.Action.{performed, found_by, logged_of}

-- the pipe after a step, what the call returns if it was its last, and what is logged
pub record Stepped : Type 0 where
  pub pipe : Pipe
  pub answer : Option Answer
  pub events : List Event

-- a call that has returned holds nothing
abbrev pub call_after : Option Answer → OpenCall → OpenCall
call_after None c = c
call_after (Some answer) c = no_call

abbrev pub source_after : Option Answer → List SourceAct → List SourceAct
source_after None acts = acts
source_after (Some answer) acts = []

abbrev pub destination_after : Option Answer → Destination → Destination
destination_after None destination = destination
destination_after (Some answer) destination = Slice 0

-- a fill that has returned leaves nothing lent
abbrev pub filled_out : Bool → Option Answer → List ℕ → List ℕ
filled_out true (Some answer) lent = []
filled_out fills answer lent = lent

-- the same of how many places are lent
abbrev pub lent_count_after : Bool → Option Answer → ℕ → ℕ
lent_count_after true (Some answer) count = 0
lent_count_after fills answer count = count

abbrev pub lent_after : Action → WritePoint → Option Answer → List ℕ → List ℕ
lent_after Action.LoadClosed point answer lent = filled_out (ends_fill point) answer lent
lent_after Action.Register point answer lent = filled_out (ends_fill point) answer lent
lent_after Action.Yield point answer lent = filled_out (ends_fill point) answer lent
lent_after Action.CallSource point answer lent = filled_out (ends_fill point) answer lent
lent_after action point answer lent = lent

-- the reader makes a step of this kind
abbrev pub reader_stepped : Action → Pipe → Stepped
reader_stepped action p =
    let after = performed Reader action p in
    let next = read_after p.capacity p.reader (found_by Reader action p) in
    record {
      pipe =
          record after {
            reader = next.point;
            reader_call = call_after next.answer after.reader_call;
            destination = destination_after next.answer after.destination;
          };
      answer = next.answer;
      events = logged_of Reader action p ++ answer_event Reader next.answer;
    }

-- the writer makes a step of this kind
abbrev pub writer_stepped : Action → Pipe → Stepped
writer_stepped action p =
    let after = performed Writer action p in
    let next = write_after p.capacity p.room p.writer (found_by Writer action p) in
    record {
      pipe =
          record after {
            writer = next.point;
            writer_call = call_after next.answer after.writer_call;
            source = source_after next.answer after.source;
            lent = lent_after action p.writer next.answer after.lent;
          };
      answer = next.answer;
      events = logged_of Writer action p ++ answer_event Writer next.answer;
    }

-- where a call of the source leads that found this
abbrev pub round_answer : Found → Pipe → Option Answer
round_answer found p = (write_after p.capacity p.room p.writer found).answer

abbrev pub round_left : Found → Pipe → Pipe
round_left found p =
    let next = write_after p.capacity p.room p.writer found in
    record p {
      writer = next.point;
      writer_call = call_after next.answer p.writer_call;
      source = source_after next.answer p.source;
      lent = filled_out (ends_fill p.writer) next.answer p.lent;
    }

-- where a call of the destination leads that found this
abbrev pub drain_answer : Found → Pipe → Option Answer
drain_answer found p = (read_after p.capacity p.reader found).answer

abbrev pub drain_left : Found → Pipe → Pipe
drain_left found p =
    let next = read_after p.capacity p.reader found in
    record p {
      reader = next.point;
      reader_call = call_after next.answer p.reader_call;
      destination = destination_after next.answer p.destination;
    }

-- the kind of the step that the call table puts next
abbrev pub action_of : Side → Pipe → Action
action_of Reader p = read_action p.reader
action_of Writer p = write_action p.writer

-- that step
abbrev pub went : Side → Pipe → Stepped
went Reader p = reader_stepped (read_action p.reader) p
went Writer p = writer_stepped (write_action p.writer) p

-- the calls that both sides have, as they are opened

abbrev pub query_opened : Side → Query → Pipe → Pipe
query_opened Reader query p = record p { reader = ReadPoint.QueryHead query }
query_opened Writer query p = record p { writer = WritePoint.QueryHead query }

abbrev pub is_closed_opened : Side → Pipe → Pipe
is_closed_opened Reader p = record p { reader = ReadPoint.QueryClosed }
is_closed_opened Writer p = record p { writer = WritePoint.QueryClosed }

abbrev pub poll_opened : Side → Context → Pipe → Pipe
poll_opened Reader cx p =
    record p { reader = reader_looks_for (p.known == 0) Poll; reader_call = called_with (Some cx) }
poll_opened Writer cx p =
    record p { writer = WritePoint.LookClosed Poll; writer_call = called_with (Some cx) }

abbrev pub drop_opened : Side → Pipe → Pipe
drop_opened Reader p = record p { reader = ReadPoint.StoreClosed }
drop_opened Writer p = record p { writer = WritePoint.StoreClosed AfterWrite.Drop }

-- the form of a copying call; where its draw is 0 it yields
abbrev pub form_of : Option Context → Form
form_of None = Try
form_of (Some cx) = Polling (cx.luck.draw == 0)

abbrev pub drain_opened : Option Context → Destination → Pipe → Pipe
drain_opened cx destination p = record p {
  reader = reader_looks_for (p.known == 0) (Copy (form_of cx));
  reader_call = called_with cx;
  destination = destination;
}

abbrev pub fill_opened : Option Context → List SourceAct → Pipe → Pipe
fill_opened cx acts p = record p {
  writer = WritePoint.LookClosed (Copy (form_of cx));
  writer_call = called_with cx;
  source = acts;
}

-- the pipe as a call is opened, with these bytes in what a call of write_buf lends
abbrev pub opened : List ℕ → Call → Pipe → Pipe
opened lent (Call.Query side query) p = query_opened side query p
opened lent (Call.IsClosed side) p = is_closed_opened side p
opened lent (Call.Poll side waker luck) p = poll_opened side (context waker luck) p
opened lent (Call.TryDrain size) p = drain_opened None (Slice size) p
opened lent (Call.PollDrainBytes waker luck size) p =
    drain_opened (Some (context waker luck)) (Slice size) p
opened lent (Call.PollDrain waker luck acts) p =
    drain_opened (Some (context waker luck)) (Acts acts) p
opened lent (Call.Consume n) p = record p { reader = ReadPoint.StoreHead n AfterRead.Answer }
opened lent (Call.TryFill bytes) p = fill_opened None (SourceAct.Bytes bytes ∷ []) p
opened lent (Call.PollFillBytes waker luck bytes) p =
    fill_opened (Some (context waker luck)) (SourceAct.Bytes bytes ∷ []) p
opened lent (Call.PollFill waker luck acts) p = fill_opened (Some (context waker luck)) acts p
opened lent (Call.WriteBuf most) p = lending lent p
opened lent (Call.Produced n) p = record p { writer = WritePoint.StoreTail n AfterWrite.Answer }
opened lent Call.Close p = record p { writer = WritePoint.StoreClosed AfterWrite.WakeWriter }
opened lent (Call.Drop side) p = drop_opened side p

-- a call without a step returns as it is opened
abbrev pub answer_at_once : List ℕ → Call → Option Answer
answer_at_once lent (Call.WriteBuf most) = Some (Lent (length lent))
answer_at_once lent c = None

abbrev pub began : List ℕ → Call → Pipe → Stepped
began lent c p =
    let answer = answer_at_once lent c in
    record {
      pipe = opened lent c p;
      answer = answer;
      events =
          Began (side_of c) (kind_of c) (waker_of c) ∷ answer_event (side_of c) answer;
    }

-- a call of the source is lent places first
abbrev pub lent_at : WritePoint → List ℕ → List ℕ → List ℕ
lent_at (WritePoint.CallSource form sum) lent before = lent
lent_at point lent before = before

abbrev pub offering : List ℕ → Pipe → Pipe
offering lent p = record p { lent = lent_at p.writer lent p.lent }

abbrev pub stepped : List ℕ → Step → Pipe → Stepped
stepped lent (Begin c) p = began lent c p
stepped lent (Go Reader) p = went Reader p
stepped lent (Go Writer) p = went Writer (offering lent p)
stepped lent (Put offset byte) p =
    record { pipe = lending (slice_set p.lent offset byte) p; answer = None; events = [] }

-- these bytes may be lent to the source: where it gives none, the fill ends and leaves nothing lent
abbrev pub MayOffer : WritePoint → List SourceAct → List ℕ → Pipe → Type 0
MayOffer (WritePoint.CallSource form sum) (SourceAct.Bytes (byte ∷ bytes) ∷ acts) lent p =
    Lendable MOST_A_ROUND p (length lent)
MayOffer point acts lent p = ⊤

-- these bytes may be lent by the step
abbrev pub MayLend : List ℕ → Step → Pipe → Type 0
MayLend lent (Begin (Call.WriteBuf most)) p = Lendable most p (length lent)
MayLend lent (Go Writer) p = MayOffer p.writer p.source lent p
MayLend lent s p = ⊤
