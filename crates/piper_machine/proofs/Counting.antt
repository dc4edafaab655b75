-- What each side knows, and how many steps its call has made, and calls of its destination or
-- source: what one step does to them.
use Rattle.std.proofs.Common.{◌≡◌, ℕ, ◌+◌, ◌≤◌, List, ◌++◌, Option, None, sym, subst, ◌∙◌, arith}
use Rattle.std.proofs.lemmas.Grind.{common_steps}
use Rattle.piper_machine.specs.Types.{Side, Call, Step, Answer, Event, ReadPoint, WritePoint, Action, Reader, Writer, Begin, Go, Put}
use Rattle.piper_machine.specs.Log.{answer_event}
use Rattle.piper_protocol.specs.Table.{read_action, write_action}
use Rattle.piper_machine.specs.Pipe.{Pipe}
use Rattle.piper_machine.specs.Action.{performed, logged_of}
use Rattle.piper_machine.specs.Step.{went, stepped, offering, MayLend}
use Rattle.piper_machine.specs.Refusal.{refusal_of}
use Rattle.piper_machine.specs.Alone.{read_steps, write_steps}
use Rattle.piper_machine.specs.Known.{Knowledge, knowledge_from}
use Rattle.piper_machine.specs.Counts.{Tally, most_of, tallied}
use Rattle.piper_machine.specs.Called.{called}
use Rattle.piper_machine.proofs.Knowing.{knowledge-append, answer-shows, learns, learned, learned-enough}
use Rattle.piper_machine.proofs.ReaderCounts.{read_calls, read_least, ReaderSees}
use Rattle.piper_machine.proofs.WriterCounts.{write_calls, write_least, WriterSees, writer-fits, writer-goes, writer_next}

-- The steps and calls made so far, with those that are left, are within what the look finds, or can
-- still find.
pub record IsWithin (f steps_made calls_made steps_left calls_left : ℕ) (c : Option Call) : Type 0 where
  pub steps : steps_made + steps_left ≤ most_of f c
  pub calls : calls_made + calls_left ≤ f + 1

pub record ReaderCounts (point : ReadPoint) (known : ℕ) (k : Knowledge) (t : Tally) (calls : ℕ) : Type 0 where
  pub sees : ReaderSees point known k
  pub enough : known ≤ k.known
  pub within : (f : ℕ) → read_least k.found point ≤ f → IsWithin f t.made calls (read_steps f known point) (read_calls f known point) t.call

pub record WriterCounts (point : WritePoint) (room : ℕ) (k : Knowledge) (t : Tally) (calls : ℕ) : Type 0 where
  pub sees : WriterSees point room k
  pub enough : room ≤ k.known
  pub within : (f : ℕ) → write_least k.found point ≤ f → IsWithin f t.made calls (write_steps f room point) (write_calls f room point) t.call

abbrev pub Counts : Side → Pipe → Knowledge → Tally → ℕ → Type 0
Counts Reader p k t calls = ReaderCounts p.reader p.known k t calls
Counts Writer p k t calls = WriterCounts p.writer p.room k t calls

pub counts-found : (side : Side) (p : Pipe) (k : Knowledge) (t : Tally) (calls : ℕ) → Counts side p k t calls → (t.made ≤ most_of k.found t.call) × (calls ≤ k.found + 1)
counts-found side p k t calls held = grind arith

pub writer_leaves-reader : (action : Action) (p : Pipe) → ((n : ℕ) → action ≡ Action.StoreHead n → ⊥) → let q = performed Writer action p in (q.reader ≡ p.reader) × (q.known ≡ p.known) × (q.capacity ≡ p.capacity)
writer_leaves-reader action p never = grind arith

pub reader_never-tail : (point : ReadPoint) (n : ℕ) → read_action point ≡ Action.StoreTail n → ⊥
reader_never-tail point n e = grind arith

pub writer_never-head : (point : WritePoint) (n : ℕ) → write_action point ≡ Action.StoreHead n → ⊥
writer_never-head point n e = grind arith

-- what a step reports to a side, with the answer after it
pub noted : (c : ℕ) (side actor : Side) (k j : Knowledge) (es : List Event) (answer : Option Answer) → knowledge_from c side k es ≡ j → knowledge_from c side k (es ++ answer_event actor answer) ≡ j
noted c side actor k j es answer same = knowledge-append c side k es (answer_event actor answer) ∙ answer-shows c side actor _ answer ∙ same

reader-counts : (p : Pipe) (k : Knowledge) (t : Tally) (calls : ℕ) → refusal_of (Go Reader) p ≡ None → Counts Reader p k t calls
    → let new = went Reader p in Counts Reader new.pipe (knowledge_from p.capacity Reader k new.events) (tallied Reader t (Go Reader)) (called Reader p (Go Reader) calls)
reader-counts p k t calls accepted held = grind (arith, common_steps)

writer-counts : (lent : List ℕ) (p : Pipe) (k : Knowledge) (t : Tally) (calls : ℕ) → MayLend lent (Go Writer) p → refusal_of (Go Writer) p ≡ None → Counts Writer p k t calls
    → let new = went Writer (offering lent p) in Counts Writer new.pipe (knowledge_from p.capacity Writer k new.events) (tallied Writer t (Go Writer)) (called Writer p (Go Writer) calls)
writer-counts lent p k t calls may accepted held =
    let action = write_action p.writer in
    let q = offering lent p in
    let goes = writer-goes p.writer lent p k held.sees may accepted in
    let j = learned Writer action q k in
    let next : WriterCounts (writer_next p.writer q).point (performed Writer action q).room j (tallied Writer t (Go Writer)) (called Writer p (Go Writer) calls) = record {
      sees = goes.sees;
      enough = learned-enough Writer action q k held.enough;
      within = λ f least.
          let nearer = goes.nearer f least in
          let within = held.within f nearer.from in
          record { steps = omega (arith, nearer.steps, within.steps); calls = omega (arith, nearer.calls, within.calls) };
    } in
    subst (λ (i : Knowledge). Counts Writer (went Writer q).pipe i (tallied Writer t (Go Writer)) (called Writer p (Go Writer) calls))
    (sym (noted p.capacity Writer Writer k j (logged_of Writer action q) (went Writer q).answer (learns Writer action q k (writer-fits p.writer p.room k held.sees)))) next

pub counts-step : (side : Side) (s : Step) (lent : List ℕ) (p : Pipe) (k : Knowledge) (t : Tally) (calls : ℕ) → MayLend lent s p → refusal_of s p ≡ None → Counts side p k t calls
    → let new = stepped lent s p in Counts side new.pipe (knowledge_from p.capacity side k new.events) (tallied side t s) (called side p s calls)
counts-step side (Begin c) lent p k t calls may accepted held = grind arith
counts-step Reader (Go Reader) lent p k t calls may accepted held = reader-counts p k t calls accepted held
counts-step Writer (Go Writer) lent p k t calls may accepted held = writer-counts lent p k t calls may accepted held
counts-step Writer (Go Reader) lent p k t calls may accepted held = grind arith
counts-step Reader (Go Writer) lent p k t calls may accepted held = grind arith
counts-step Reader (Put offset byte) lent p k t calls may accepted held = held
counts-step Writer (Put offset byte) lent p k t calls may accepted held = held
