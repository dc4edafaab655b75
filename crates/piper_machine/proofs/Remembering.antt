-- Each step keeps both sides remembered: its own side goes on from point to point, and the other is
-- touched by it.
use Rattle.std.proofs.Common.{◌≡◌, ℕ, List, ◌++◌, Option, None, refl, sym, subst, arith, []}
use Rattle.piper_machine.specs.Types.{Call, Step, Event, StepRefusal, Action, WritePoint, Reader, Writer, Begin, Go, Put}
use Rattle.piper_protocol.specs.Table.{read_action, write_action}
use Rattle.piper_machine.specs.Pipe.{Pipe, fresh}
use Rattle.piper_machine.specs.Sound.{IsSound}
use Rattle.piper_machine.specs.Action.{performed}
use Rattle.piper_machine.specs.Step.{stepped, went, offering}
use Rattle.piper_machine.specs.Refusal.{writer_state, cannot_begin, or_else, refusal_of}
use Rattle.piper_machine.specs.Run.{Made}
use Rattle.piper_machine.specs.Wait.{Wait, no_wait, wait_from, wait_of}
use Rattle.piper_machine.specs.Remembered.{AreRemembered}
use Rattle.piper_machine.proofs.Watching.{Errand, read_errand, write_errand, wait-append}
use Rattle.piper_machine.proofs.ReaderWaits.{ReadWaits, reader-touched, reader-goes, reader-touches}
use Rattle.piper_machine.proofs.WriterWaits.{WriteWaits, writer-touched, writer-goes, writer-touches}

-- what every step keeps, over what the log says of each side's last polling call
pub record Keeps (p : Pipe) (reads writes : Wait) : Type 0 where
  pub reader : ReadWaits p (write_errand p.writer p.writer_call) reads
  pub writer : WriteWaits p (read_errand p.reader p.reader_call) writes

-- a side's step leaves where the other is, and what its call holds

pub reader_leaves : (action : Action) (p : Pipe) → let q = performed Reader action p in (q.writer ≡ p.writer) × (q.writer_call ≡ p.writer_call)
reader_leaves action p = grind arith

pub writer_leaves : (action : Action) (p : Pipe) → let q = performed Writer action p in (q.reader ≡ p.reader) × (q.reader_call ≡ p.reader_call)
writer_leaves action p = grind arith

-- a call is opened outside any other call of its side

pub writer-idle : (point : WritePoint) (more : Option StepRefusal) → or_else (cannot_begin (writer_state point)) more ≡ None → point ≡ WritePoint.Idle
writer-idle point more accepted = grind arith

begin-keeps : (lent : List ℕ) (c : Call) (p : Pipe) (reads writes : Wait) → refusal_of (Begin c) p ≡ None → Keeps p reads writes
    → let new = stepped lent (Begin c) p in Keeps new.pipe (wait_from Reader reads new.events) (wait_from Writer writes new.events)
begin-keeps lent (Call.Query Reader query) p reads writes accepted kept = grind arith
begin-keeps lent (Call.IsClosed Reader) p reads writes accepted kept = grind arith
begin-keeps lent (Call.Consume n) p reads writes accepted kept = grind arith
begin-keeps lent (Call.Drop Reader) p reads writes accepted kept = grind arith
begin-keeps lent (Call.Poll Reader waker luck) p reads writes accepted kept = grind arith
begin-keeps lent (Call.PollDrainBytes waker luck size) p reads writes accepted kept = grind arith
begin-keeps lent (Call.PollDrain waker luck acts) p reads writes accepted kept = grind arith
begin-keeps lent (Call.TryDrain size) p reads writes accepted kept = grind arith
begin-keeps lent (Call.Query Writer query) p reads writes accepted kept = grind arith
begin-keeps lent (Call.IsClosed Writer) p reads writes accepted kept = grind arith
begin-keeps lent (Call.WriteBuf most) p reads writes accepted kept = grind arith
begin-keeps lent (Call.Produced n) p reads writes accepted kept = grind arith
begin-keeps lent Call.Close p reads writes accepted kept = grind arith
begin-keeps lent (Call.Drop Writer) p reads writes accepted kept = grind arith
begin-keeps lent (Call.Poll Writer waker luck) p reads writes accepted kept = grind arith
begin-keeps lent (Call.PollFillBytes waker luck bytes) p reads writes accepted kept = grind arith
begin-keeps lent (Call.PollFill waker luck acts) p reads writes accepted kept = grind arith
begin-keeps lent (Call.TryFill bytes) p reads writes accepted kept = grind arith

write_errand-same : (p q : Pipe) → q.writer ≡ p.writer → q.writer_call ≡ p.writer_call → write_errand p.writer p.writer_call ≡ write_errand q.writer q.writer_call
write_errand-same p q point call = rw (point, call) refl

read_errand-same : (p q : Pipe) → q.reader ≡ p.reader → q.reader_call ≡ p.reader_call → read_errand p.reader p.reader_call ≡ read_errand q.reader q.reader_call
read_errand-same p q point call = rw (point, call) refl

step-keeps : (lent : List ℕ) (s : Step) (p : Pipe) (reads writes : Wait) → IsSound p → refusal_of s p ≡ None → Keeps p reads writes
    → let new = stepped lent s p in Keeps new.pipe (wait_from Reader reads new.events) (wait_from Writer writes new.events)
step-keeps lent (Begin c) p reads writes sound accepted kept = begin-keeps lent c p reads writes accepted kept
step-keeps lent (Go Reader) p reads writes sound accepted kept =
    let same = reader_leaves (read_action p.reader) p in
    record {
      reader = subst (λ (e : Errand). ReadWaits (went Reader p).pipe e (wait_from Reader reads (went Reader p).events)) (write_errand-same p (went Reader p).pipe same.0 same.1) (reader-goes p.reader p (write_errand p.writer p.writer_call) reads kept.reader);
      writer = writer-touched p _ _ _ writes _ same.0 same.1 (reader-touches p.reader p writes) kept.writer;
    }
step-keeps lent (Go Writer) p reads writes sound accepted kept =
    let to = went Writer (offering lent p) in
    let same = writer_leaves (write_action p.writer) (offering lent p) in
    record {
      writer = subst (λ (e : Errand). WriteWaits to.pipe e (wait_from Writer writes to.events)) (read_errand-same p to.pipe same.0 same.1) (writer-goes lent p.writer p (read_errand p.reader p.reader_call) writes sound kept.writer);
      reader = reader-touched p _ _ _ reads _ same.0 same.1 (writer-touches lent p.writer p reads) kept.reader;
    }
step-keeps lent (Put offset byte) p reads writes sound accepted kept = grind arith

-- what every list of steps keeps
pub record Remembers (p : Pipe) (events : List Event) : Type 0 where
  pub keeps : Keeps p (wait_of Reader events) (wait_of Writer events)
  pub remembered : AreRemembered p events

remembers : (p : Pipe) (events : List Event) → Keeps p (wait_of Reader events) (wait_of Writer events) → Remembers p events
remembers p events keeps = grind arith

pub remembers_none : (capacity : ℕ) → Remembers (fresh capacity) []
remembers_none capacity = remembers (fresh capacity) [] (record { reader = record { waiting = λ pending. absurd (cc); look = tt }; writer = record { waiting = λ pending. absurd (cc); look = tt } })

pub remembers_more : (p q : Pipe) (s : Step) (before after : List Event) → IsSound p → Remembers p before → Made p s q before after → Remembers q after
remembers_more p q s before after sound kept made =
    let new = stepped q.lent s p in
    let next = step-keeps q.lent s p (wait_of Reader before) (wait_of Writer before) sound made.accepted kept.keeps in
    let logged = before ++ new.events in
    let on_log : Keeps new.pipe (wait_of Reader logged) (wait_of Writer logged) = rw (wait-append Reader no_wait before new.events, wait-append Writer no_wait before new.events) next in
    let on_pipe : Keeps q (wait_of Reader logged) (wait_of Writer logged) = subst (λ (x : Pipe). Keeps x (wait_of Reader logged) (wait_of Writer logged)) (sym made.made.pipe) on_log in
    remembers q after (subst (λ (es : List Event). Keeps q (wait_of Reader es) (wait_of Writer es)) (sym made.made.events) on_pipe)
