-- Each step keeps what the log says of both sides' calls, and what they move and answer is right.
use Rattle.std.proofs.Common.{◌≡◌, ℕ, List, ◌∷◌, ◌++◌, None, Some, ◌==◌, refl, sym, ap, subst, ◌∙◌, arith, []}
use Rattle.piper_machine.specs.Types.{Purpose, Side, Call, Step, Event, ReadPoint, WritePoint, Reader, Writer, Begin, Go, Put, Began, Try, Polling, Slice, Acts}
use Rattle.piper_machine.specs.Call.{kind_of, waker_of}
use Rattle.piper_machine.specs.Log.{answer_event}
use Rattle.piper_protocol.specs.Table.{read_action, write_action}
use Rattle.piper_machine.specs.Pipe.{Pipe, fresh}
use Rattle.piper_machine.specs.Refusal.{refusal_of}
use Rattle.piper_machine.specs.Sound.{IsSound}
use Rattle.piper_machine.specs.Action.{performed, logged_of}
use Rattle.piper_machine.specs.Step.{Stepped, stepped, went, opened, offering, MayLend}
use Rattle.piper_machine.specs.Run.{Made}
use Rattle.piper_machine.specs.Noted.{Noted, unnoted, calls_of, noted_from}
use Rattle.piper_machine.specs.Answered.{AreRightFrom, AreAnswered}
use Rattle.piper_machine.proofs.Whole.{given-slice, failure-slice}
use Rattle.piper_machine.proofs.Counting.{reader_never-tail, writer_never-head}
use Rattle.piper_machine.proofs.Remembering.{writer-idle}
use Rattle.piper_machine.proofs.Conserving.{capacity-kept}
use Rattle.piper_machine.proofs.Runs.{SoundRuns}
use Rattle.piper_machine.proofs.Showing.{noted-append, right-append, leaves-append, writer-logs, reader-logs, writer_answer-leaves, reader_answer-leaves, coming-kept, coming-answered}
use Rattle.piper_machine.proofs.ReaderAnswers.{ReaderAt, opens-leads, reader-point}
use Rattle.piper_machine.proofs.WriterAnswers.{WriterAt, writer-point}

-- what the log says of a side at its point
abbrev pub IsValid : ℕ → Side → Pipe → Noted → Type 0
IsValid capacity Reader p t = ReaderAt p.reader p.destination t
IsValid capacity Writer p t = WriterAt capacity p.writer p.source p.lent t

-- with the calls that are opened by the steps to come
pub record IsNoted (capacity : ℕ) (side : Side) (p : Pipe) (steps : List Step) (t : Noted) : Type 0 where
  pub coming : t.coming ≡ calls_of side steps
  pub valid : IsValid capacity side p t

abbrev Keeps : ℕ → Side → List Step → Stepped → Noted → Type 0
Keeps capacity side steps new t = AreRightFrom capacity side t new.events × IsNoted capacity side new.pipe steps (noted_from side t new.events)

-- a call as it is opened
abbrev opening : Side → Call → List Step → Noted
opening side c steps = record { coming = calls_of side steps; call = Some c; looks = []; moved = [] }

module _ (capacity : ℕ) (c : Call) (steps : List Step) (t : Noted) (p : Pipe) where
  reader-begins : t.coming ≡ c ∷ calls_of Reader steps → ReaderAt p.reader p.destination (opening Reader c steps)
      → Keeps capacity Reader steps (record { pipe = p; answer = None; events = Began Reader (kind_of c) (waker_of c) ∷ [] }) t
  reader-begins coming valid = grind arith

  writer-begins : t.coming ≡ c ∷ calls_of Writer steps → WriterAt capacity p.writer p.source p.lent (opening Writer c steps)
      → Keeps capacity Writer steps (record { pipe = p; answer = None; events = Began Writer (kind_of c) (waker_of c) ∷ [] }) t
  writer-begins coming valid = grind arith

-- a call is opened

begin-reader : (lent : List ℕ) (c : Call) (p : Pipe) (steps : List Step) (t : Noted) → IsNoted p.capacity Reader p (Begin c ∷ steps) t → Keeps p.capacity Reader steps (stepped lent (Begin c) p) t
begin-reader lent (Call.Query Reader query) p steps t h = reader-begins p.capacity (Call.Query Reader query) steps t (opened lent (Call.Query Reader query) p) h.coming (refl, refl)
begin-reader lent (Call.IsClosed Reader) p steps t h = reader-begins p.capacity (Call.IsClosed Reader) steps t (opened lent (Call.IsClosed Reader) p) h.coming (refl, refl)
begin-reader lent (Call.Poll Reader waker luck) p steps t h =
    let c = Call.Poll Reader waker luck in
    reader-begins p.capacity c steps t (opened lent c p) h.coming (opens-leads p.capacity (opening Reader c steps) p.destination (p.known == 0) Purpose.Poll (record { poll = c; is = refl; polls = tt }))
begin-reader lent (Call.TryDrain size) p steps t h =
    let c = Call.TryDrain size in
    reader-begins p.capacity c steps t (opened lent c p) h.coming (opens-leads p.capacity (opening Reader c steps) (Slice size) (p.known == 0) (Purpose.Copy Try) (record { drain = c; is = refl; drains = omega arith; count = refl }))
begin-reader lent (Call.PollDrainBytes waker luck size) p steps t h =
    let c = Call.PollDrainBytes waker luck size in
    reader-begins p.capacity c steps t (opened lent c p) h.coming (opens-leads p.capacity (opening Reader c steps) (Slice size) (p.known == 0) (Purpose.Copy (Polling (luck.draw == 0))) (record { drain = c; is = refl; drains = omega arith; count = refl }))
begin-reader lent (Call.PollDrain waker luck acts) p steps t h =
    let c = Call.PollDrain waker luck acts in
    reader-begins p.capacity c steps t (opened lent c p) h.coming (opens-leads p.capacity (opening Reader c steps) (Acts acts) (p.known == 0) (Purpose.Copy (Polling (luck.draw == 0))) (record { drain = c; is = refl; drains = (omega arith, refl); count = refl }))
begin-reader lent (Call.Consume n) p steps t h = reader-begins p.capacity (Call.Consume n) steps t (opened lent (Call.Consume n) p) h.coming (refl, refl)
begin-reader lent (Call.Drop Reader) p steps t h = reader-begins p.capacity (Call.Drop Reader) steps t (opened lent (Call.Drop Reader) p) h.coming refl
begin-reader lent (Call.WriteBuf most) p steps t h = ((tt, (tt, tt)), record { coming = h.coming; valid = h.valid })
begin-reader lent c p steps t h = ((tt, tt), record { coming = h.coming; valid = h.valid })

begin-writer : (lent : List ℕ) (c : Call) (p : Pipe) (steps : List Step) (t : Noted) → MayLend lent (Begin c) p → refusal_of (Begin c) p ≡ None → IsNoted p.capacity Writer p (Begin c ∷ steps) t → Keeps p.capacity Writer steps (stepped lent (Begin c) p) t
begin-writer lent (Call.Query Writer query) p steps t may accepted h = writer-begins p.capacity (Call.Query Writer query) steps t (opened lent (Call.Query Writer query) p) h.coming (refl, refl)
begin-writer lent (Call.IsClosed Writer) p steps t may accepted h = writer-begins p.capacity (Call.IsClosed Writer) steps t (opened lent (Call.IsClosed Writer) p) h.coming (refl, refl)
begin-writer lent (Call.Poll Writer waker luck) p steps t may accepted h =
    let c = Call.Poll Writer waker luck in
    writer-begins p.capacity c steps t (opened lent c p) h.coming (record { poll = c; is = refl; polls = tt })
begin-writer lent (Call.TryFill bytes) p steps t may accepted h =
    let c = Call.TryFill bytes in
    writer-begins p.capacity c steps t (opened lent c p) h.coming (record { fill = c; is = refl; fills = (given-slice bytes, failure-slice bytes); count = refl; found = refl })
begin-writer lent (Call.PollFillBytes waker luck bytes) p steps t may accepted h =
    let c = Call.PollFillBytes waker luck bytes in
    writer-begins p.capacity c steps t (opened lent c p) h.coming (record { fill = c; is = refl; fills = (given-slice bytes, failure-slice bytes); count = refl; found = refl })
begin-writer lent (Call.PollFill waker luck acts) p steps t may accepted h =
    let c = Call.PollFill waker luck acts in
    writer-begins p.capacity c steps t (opened lent c p) h.coming (record { fill = c; is = refl; fills = (refl, refl); count = refl; found = refl })
begin-writer lent (Call.WriteBuf most) p steps t may accepted h = grind arith
begin-writer lent (Call.Produced n) p steps t may accepted h = writer-begins p.capacity (Call.Produced n) steps t (opened lent (Call.Produced n) p) h.coming (refl, refl)
begin-writer lent Call.Close p steps t may accepted h = writer-begins p.capacity Call.Close steps t (opened lent Call.Close p) h.coming refl
begin-writer lent (Call.Drop Writer) p steps t may accepted h = writer-begins p.capacity (Call.Drop Writer) steps t (opened lent (Call.Drop Writer) p) h.coming refl
begin-writer lent c p steps t may accepted h = ((tt, tt), record { coming = h.coming; valid = h.valid })

-- a side's step leaves what the other side has in hand

reader-leaves_fill : (point : ReadPoint) (p : Pipe) → let q = performed Reader (read_action point) p in (q.writer ≡ p.writer) × (q.source ≡ p.source) × (q.lent ≡ p.lent)
reader-leaves_fill point p = grind arith

writer-leaves_drain : (point : WritePoint) (p : Pipe) → let q = performed Writer (write_action point) p in (q.reader ≡ p.reader) × (q.destination ≡ p.destination)
writer-leaves_drain point p = grind arith

step-noted : (side : Side) (lent : List ℕ) (s : Step) (p : Pipe) (steps : List Step) (t : Noted) → IsSound p → MayLend lent s p → refusal_of s p ≡ None → IsNoted p.capacity side p (s ∷ steps) t → Keeps p.capacity side steps (stepped lent s p) t
step-noted Reader lent (Begin c) p steps t sound may accepted h = begin-reader lent c p steps t h
step-noted Writer lent (Begin c) p steps t sound may accepted h = begin-writer lent c p steps t may accepted h
step-noted Reader lent (Put offset byte) p steps t sound may accepted h = (tt, record { coming = h.coming; valid = h.valid })
step-noted Writer lent (Put offset byte) p steps t sound may accepted h = let idle = writer-idle p.writer _ accepted in (tt, record { coming = h.coming; valid = rw idle tt })
step-noted Reader lent (Go Reader) p steps t sound may accepted h =
    let action = read_action p.reader in
    let to = went Reader p in
    let stored = sound.head_store in
    let known = sound.known in
    let made = reader-point p.reader p t sound.unread (omega arith) h.valid in
    let noted = ap (λ (u : Noted). u.coming) (noted-append Reader t (logged_of Reader action p) (answer_event Reader to.answer)) ∙ coming-answered Reader _ to.answer in
    (made.0, record { coming = noted ∙ coming-kept Reader action p t ∙ h.coming; valid = made.1 })
step-noted Writer lent (Go Writer) p steps t sound may accepted h =
    let action = write_action p.writer in
    let q = offering lent p in
    let to = went Writer q in
    let made = writer-point p.writer lent p t sound.unread sound.tail_store h.valid in
    let noted = ap (λ (u : Noted). u.coming) (noted-append Writer t (logged_of Writer action q) (answer_event Writer to.answer)) ∙ coming-answered Writer _ to.answer in
    (made.0, record { coming = noted ∙ coming-kept Writer action q t ∙ h.coming; valid = made.1 })
step-noted Reader lent (Go Writer) p steps t sound may accepted h =
    let action = write_action p.writer in
    let q = offering lent p in
    let to = went Writer q in
    let leaves = leaves-append p.capacity Reader t (logged_of Writer action q) (answer_event Writer to.answer) (writer-logs p.capacity t action q (writer_never-head p.writer)) (writer_answer-leaves p.capacity t to.answer) in
    let same = writer-leaves_drain p.writer q in
    (leaves.0, record { coming = ap (λ (u : Noted). u.coming) leaves.1 ∙ h.coming; valid = rw (same.0, same.1, leaves.1) h.valid })
step-noted Writer lent (Go Reader) p steps t sound may accepted h =
    let action = read_action p.reader in
    let to = went Reader p in
    let leaves = leaves-append p.capacity Writer t (logged_of Reader action p) (answer_event Reader to.answer) (reader-logs p.capacity t action p (reader_never-tail p.reader)) (reader_answer-leaves p.capacity t to.answer) in
    let same = reader-leaves_fill p.reader p in
    (leaves.0, record { coming = ap (λ (u : Noted). u.coming) leaves.1 ∙ h.coming; valid = rw (same.0, same.1, same.2, leaves.1) h.valid })

-- of a list of steps that has come so far, and what is still to come
record Answers (capacity : ℕ) (steps coming : List Step) (p : Pipe) (events : List Event) : Type 0 where
  right : AreAnswered capacity steps events
  noted : (side : Side) → IsNoted capacity side p coming (noted_from side (unnoted (calls_of side steps)) events)

answers_none : (capacity : ℕ) (steps : List Step) → Answers capacity steps steps (fresh capacity) []
answers_none capacity steps = record { right = λ side. tt; noted = none }
  where
    none : (side : Side) → IsNoted capacity side (fresh capacity) steps (unnoted (calls_of side steps))
    none Reader = record { coming = refl; valid = tt }
    none Writer = record { coming = refl; valid = tt }

answers_more : (steps coming : List Step) (s : Step) (capacity : ℕ) (p q : Pipe) (before after : List Event) → IsSound p → p.capacity ≡ capacity → Answers capacity steps (s ∷ coming) p before → Made p s q before after → Answers capacity steps coming q after
answers_more steps coming s capacity p q before after sound same given made =
    let kept = subst (λ (c : ℕ). Answers c steps (s ∷ coming) p before) (sym same) given in
    let new = stepped q.lent s p in
    let start : Side → Noted = λ side. unnoted (calls_of side steps) in
    let more : (side : Side) → Keeps p.capacity side coming new (noted_from side (start side) before) = λ side. step-noted side q.lent s p coming (noted_from side (start side) before) sound made.made.lent made.accepted (kept.noted side) in
    let next : Answers p.capacity steps coming new.pipe (before ++ new.events) = record {
      right = λ side. right-append p.capacity side (start side) before new.events (kept.right side) (more side).0;
      noted = λ side. subst (λ (u : Noted). IsNoted p.capacity side new.pipe coming u) (sym (noted-append side (start side) before new.events)) (more side).1;
    } in
    let here = subst (λ es. Answers p.capacity steps coming q es) (sym made.made.events) (subst (λ (x : Pipe). Answers p.capacity steps coming x (before ++ new.events)) (sym made.made.pipe) next) in
    subst (λ (c : ℕ). Answers c steps coming q after) same here

answers_runs : (steps coming : List Step) (capacity : ℕ) (p q : Pipe) (before after : List Event) → p.capacity ≡ capacity → Answers capacity steps coming p before → SoundRuns p before coming q after → Answers capacity steps [] q after
answers_runs steps [] capacity p q before after same given run = grind arith
answers_runs steps (s ∷ coming) capacity p q before after same given run =
    let next = answers_more steps coming s capacity p run.0 before run.1 run.2 same given run.3 in
    answers_runs steps coming capacity run.0 q run.1 after (capacity-kept p run.0 s before run.1 run.2 run.3 ∙ same) next run.4

pub answered-run : (capacity : ℕ) (steps : List Step) (p : Pipe) (events : List Event) → SoundRuns (fresh capacity) [] steps p events → AreAnswered capacity steps events
answered-run capacity steps p events run = (answers_runs steps steps capacity (fresh capacity) p [] events refl (answers_none capacity steps) run).right
