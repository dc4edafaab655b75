-- Steps of one side alone, from any point up to the answer, give what remains of the call.
use Rattle.std.proofs.Common.{◌≡◌, ℕ, zero, suc, ◌<◌, ◌≤◌, List, ◌∷◌, ◌++◌, length, Bool, true, false, Option, None, Some, replicate, refl, sym, ap, ◌∙◌, subst, append_assoc, append-nil, arith, []}
use Rattle.std.proofs.lemmas.Grind.{common_steps}
use Rattle.piper_machine.specs.Types.{Side, SideState, Answer, Event, SourceAct, ReadPoint, WritePoint, Reader, Writer, Busy, Go, Answered}
use Rattle.piper_machine.specs.Log.{answer_event}
use Rattle.piper_protocol.specs.Table.{read_action, write_action}
use Rattle.piper_machine.specs.Pipe.{Pipe}
use Rattle.piper_machine.specs.Refusal.{reader_state, writer_state, state_of, cannot_go}
use Rattle.piper_machine.specs.Action.{logged_of}
use Rattle.piper_machine.specs.Step.{Stepped, stepped, went, action_of, MayLend, MayOffer}
use Rattle.piper_machine.specs.Run.{Runs}
use Rattle.piper_machine.specs.Alone.{Ended, heard, reader_alone, writer_alone, alone_of, is_draining, is_filling, is_copying, wakes_of}
use Rattle.piper_machine.specs.BySteps.{named_by, names_of}
use Rattle.piper_machine.proofs.Alone.{Nearer, reads_left, writes_left, reader_rest, read_step, write_step, reader-rest, reader-nearer, writer-nearer, writer-went, writer_rest, writer-rest}
use Rattle.piper_machine.proofs.Copies.{WriterValid, fill_step, fill-rest}
use Rattle.piper_machine.proofs.Falling.{reads-some, writes-some}
use Rattle.piper_machine.proofs.Validity.{IsSettled, ReaderValid, reader-settled, reader-valid, closes_round, writer-settled, writer-valid}

abbrev pub named : List ℕ → Pipe → Pipe
named names p = record p { woken = names }

abbrev pub rest_of : Side → Option Answer → Pipe → Ended
rest_of side None p = alone_of side p
rest_of side (Some answer) p = record { answer = answer; pipe = p }

abbrev pub IsValid : Side → Pipe → Type 0
IsValid Reader p = ReaderValid p.reader p
IsValid Writer p = WriterValid p.writer p × (closes_round p.writer ≡ false)

-- the most steps that remain
abbrev pub left_of : Side → Pipe → ℕ
left_of Reader p = reads_left p.reader p
left_of Writer p = writes_left p.writer p

-- a step of a side, and the step of which it hears the wakers: they differ in the names alone
pub record IsHeard (side : Side) (p : Pipe) (names : List ℕ) (made : Stepped) (answer : Option Answer) : Type 0 where
  pub after : Pipe
  pub logged : List Event
  pub pipe : made.pipe ≡ named names after
  pub events : made.events ≡ logged ++ answer_event side answer
  pub woken : after.woken ≡ p.woken ++ names_of logged
  pub rest : alone_of side p ≡ rest_of side answer after
  pub valid : IsValid side after
  pub settled : IsSettled answer (state_of side after)
  pub some : 1 ≤ left_of side p
  pub falls : answer ≡ None → left_of side after < left_of side p

-- the reader

pub record ReadHears (point : ReadPoint) (p : Pipe) (names : List ℕ) : Type 0 where
  pub pipe : (stepped [] (Go Reader) (record p { reader = point; woken = names })).pipe ≡ named names (read_step point p).pipe
  pub answer : (stepped [] (Go Reader) (record p { reader = point; woken = names })).answer ≡ (read_step point p).answer
  pub events : (stepped [] (Go Reader) (record p { reader = point; woken = names })).events ≡ logged_of Reader (read_action point) p ++ answer_event Reader (read_step point p).answer
  pub woken : (read_step point p).pipe.woken ≡ p.woken ++ names_of (logged_of Reader (read_action point) p)

reader-hears : (point : ReadPoint) (p : Pipe) (names : List ℕ) → ReadHears point p names
reader-hears point p names = grind (arith, common_steps)

read-rest : (point : ReadPoint) (p : Pipe) (drains : Bool) → is_draining point ≡ drains → reader_state point ≡ Busy → ReaderValid point p → let s = read_step point p in reader_alone point p ≡ reader_rest s.answer s.pipe
read-rest point p drains is busy valid = grind (arith, common_steps)

read-falls : (point : ReadPoint) (p : Pipe) (drains : Bool) → is_draining point ≡ drains → reader_state point ≡ Busy → ReaderValid point p → let s = read_step point p in s.answer ≡ None → reads_left s.pipe.reader s.pipe < reads_left point p
read-falls point p drains is busy valid goes = grind arith

reader-rest_of : (answer : Option Answer) (p : Pipe) → reader_rest answer p ≡ rest_of Reader answer p
reader-rest_of answer p = grind arith

reader_step : (p : Pipe) (names : List ℕ) → state_of Reader p ≡ Busy → IsValid Reader p → let made = stepped [] (Go Reader) (named names p) in IsHeard Reader p names made made.answer
reader_step p names busy valid =
    let s = read_step p.reader p in
    let hears = reader-hears p.reader p names in
    let made = stepped [] (Go Reader) (named names p) in
    subst (λ (answer : Option Answer). IsHeard Reader p names made answer) (sym hears.answer) (record {
      after = s.pipe;
      logged = logged_of Reader (read_action p.reader) p;
      pipe = hears.pipe;
      events = hears.events;
      woken = hears.woken;
      rest = read-rest p.reader p (is_draining p.reader) refl busy valid ∙ reader-rest_of s.answer s.pipe;
      valid = reader-valid p.reader p busy valid;
      settled = reader-settled p.reader p busy;
      some = reads-some p.reader p busy;
      falls = read-falls p.reader p (is_draining p.reader) refl busy valid;
    })

-- the writer

pub record WriteHears (point : WritePoint) (lent : List ℕ) (p : Pipe) (names : List ℕ) : Type 0 where
  pub pipe : (stepped lent (Go Writer) (record p { writer = point; woken = names })).pipe ≡ named names (fill_step point lent p).pipe
  pub answer : (stepped lent (Go Writer) (record p { writer = point; woken = names })).answer ≡ (fill_step point lent p).answer
  pub events : (stepped lent (Go Writer) (record p { writer = point; woken = names })).events ≡ logged_of Writer (write_action point) p ++ answer_event Writer (fill_step point lent p).answer
  pub woken : (fill_step point lent p).pipe.woken ≡ p.woken ++ names_of (logged_of Writer (write_action point) p)

writer-hears : (point : WritePoint) (lent : List ℕ) (p : Pipe) (names : List ℕ) → WriteHears point lent p names
writer-hears point lent p names = grind (arith, common_steps)

write-rest : (point : WritePoint) (lent : List ℕ) (p : Pipe) (fills : Bool) → is_filling point ≡ fills → writer_state point ≡ Busy → WriterValid point p → MayOffer point p.source lent (record p { writer = point })
    → let s = fill_step point lent p in writer_alone point p ≡ writer_rest s.answer s.pipe
write-rest point lent p true is busy valid may = fill-rest point lent p is valid may
write-rest point lent p false is busy valid may = grind arith

write-falls : (point : WritePoint) (lent : List ℕ) (p : Pipe) (fills : Bool) → is_filling point ≡ fills → writer_state point ≡ Busy → WriterValid point p → MayOffer point p.source lent (record p { writer = point })
    → let s = fill_step point lent p in s.answer ≡ None → writes_left s.pipe.writer s.pipe < writes_left point p
write-falls point lent p fills is busy valid may = grind arith

writer-rest_of : (answer : Option Answer) (p : Pipe) → writer_rest answer p ≡ rest_of Writer answer p
writer-rest_of answer p = grind arith

may-unnamed : (point : WritePoint) (lent names : List ℕ) (p : Pipe) → MayOffer point p.source lent (record p { writer = point; woken = names }) → MayOffer point p.source lent (record p { writer = point })
may-unnamed (WritePoint.CallSource form sum) lent names p may = offers p.source may
  where
    offers : (acts : List SourceAct) → MayOffer (WritePoint.CallSource form sum) acts lent (record p { writer = WritePoint.CallSource form sum; woken = names }) → MayOffer (WritePoint.CallSource form sum) acts lent (record p { writer = WritePoint.CallSource form sum })
    offers [] may = tt
    offers (SourceAct.Fail ∷ acts) may = tt
    offers (SourceAct.Bytes [] ∷ acts) may = tt
    offers (SourceAct.Bytes (byte ∷ bytes) ∷ acts) may = record { at_most = may.at_most; at_least = may.at_least; some = may.some; shut = may.shut }
may-unnamed point lent names p may = tt

writer_step : (lent : List ℕ) (p : Pipe) (names : List ℕ) → state_of Writer p ≡ Busy → IsValid Writer p → MayOffer p.writer p.source lent (named names p) → let made = stepped lent (Go Writer) (named names p) in IsHeard Writer p names made made.answer
writer_step lent p names busy valid may =
    let s = fill_step p.writer lent p in
    let hears = writer-hears p.writer lent p names in
    let made = stepped lent (Go Writer) (named names p) in
    let may_offer = may-unnamed p.writer lent names p may in
    subst (λ (answer : Option Answer). IsHeard Writer p names made answer) (sym hears.answer) (record {
      after = s.pipe;
      logged = logged_of Writer (write_action p.writer) p;
      pipe = hears.pipe;
      events = hears.events;
      woken = hears.woken;
      rest = write-rest p.writer lent p (is_filling p.writer) refl busy valid.0 may_offer ∙ writer-rest_of s.answer s.pipe;
      valid = writer-valid p.writer lent p busy valid.1 valid.0 may_offer;
      settled = writer-settled p.writer lent p busy valid.1;
      some = writes-some p.writer p busy;
      falls = write-falls p.writer lent p (is_filling p.writer) refl busy valid.0 may_offer;
    })

-- either side

pub one_step : (side : Side) (lent : List ℕ) (p : Pipe) (names : List ℕ) → state_of side p ≡ Busy → IsValid side p → MayLend lent (Go side) (named names p) → let made = stepped lent (Go side) (named names p) in IsHeard side p names made made.answer
one_step Reader lent p names busy valid may = reader_step p names busy valid
one_step Writer lent p names busy valid may = writer_step lent p names busy valid may

pub state-named : (side : Side) (names : List ℕ) (p : Pipe) → state_of side (named names p) ≡ state_of side p
state-named side names p = grind arith

-- steps that have returned
pub record IsFinished (k : ℕ) (side : Side) (p : Pipe) (names : List ℕ) (before : List Event) (q : Pipe) (after : List Event) : Type 0 where
  pub log : List Event
  pub events : after ≡ before ++ (log ++ Answered side (alone_of side p).answer ∷ [])
  pub woken : (alone_of side p).pipe.woken ≡ p.woken ++ names_of log
  pub pipe : q ≡ named names (alone_of side p).pipe
  pub steps : k ≤ left_of side p

names_of-joined : (es fs : List Event) → names_of (es ++ fs) ≡ names_of es ++ names_of fs
names_of-joined [] fs = refl
names_of-joined (e ∷ es) fs = ap (λ (xs : List ℕ). named_by e ++ xs) (names_of-joined es fs) ∙ sym (append_assoc (named_by e) (names_of es) (names_of fs))

-- a side that has returned makes no step
pub no_more : (k : ℕ) (side : Side) (p q : Pipe) (before after : List Event) → (cannot_go (state_of side p) ≡ None → ⊥) → Runs p before (replicate k (Go side)) q after → (k ≡ 0) × (q ≡ p) × (after ≡ before)
no_more k side p q before after rests run = grind arith

finish_on : (k : ℕ) (side : Side) (p : Pipe) (names : List ℕ) (before mid_log after : List Event) (mid q : Pipe) (made : Stepped) (answer : Option Answer)
    → IsHeard side p names made answer → mid ≡ made.pipe → mid_log ≡ before ++ made.events → Runs mid mid_log (replicate k (Go side)) q after
    → ((u : Pipe) → state_of side u ≡ Busy → IsValid side u → Runs (named names u) mid_log (replicate k (Go side)) q after → IsFinished k side u names mid_log q after)
    → IsFinished (suc k) side p names before q after
finish_on k side p names before mid_log after mid q made None heard mid_is log_is run later =
    let u = heard.after in
    let rest = later u heard.settled heard.valid (subst (λ (r : Pipe). Runs r mid_log (replicate k (Go side)) q after) (mid_is ∙ heard.pipe) run) in
    let few = rest.steps in
    let falls = heard.falls refl in
    let noted : mid_log ≡ before ++ heard.logged = log_is ∙ ap (λ (es : List Event). before ++ es) (heard.events ∙ append-nil heard.logged) in
    let answered = Answered side (alone_of side u).answer ∷ [] in
    record {
      log = heard.logged ++ rest.log;
      events =
          rest.events
          ∙ ap (λ (es : List Event). es ++ (rest.log ++ answered)) noted
          ∙ append_assoc before heard.logged (rest.log ++ answered)
          ∙ ap (λ (es : List Event). before ++ es) (sym (append_assoc heard.logged rest.log answered))
          ∙ ap (λ (e : Ended). before ++ ((heard.logged ++ rest.log) ++ Answered side e.answer ∷ [])) (sym heard.rest);
      woken =
          ap (λ (e : Ended). e.pipe.woken) heard.rest
          ∙ rest.woken
          ∙ ap (λ (xs : List ℕ). xs ++ names_of rest.log) heard.woken
          ∙ append_assoc p.woken (names_of heard.logged) (names_of rest.log)
          ∙ ap (λ (xs : List ℕ). p.woken ++ xs) (sym (names_of-joined heard.logged rest.log));
      pipe = rest.pipe ∙ ap (λ (e : Ended). named names e.pipe) (sym heard.rest);
      steps = omega arith;
    }
finish_on k side p names before mid_log after mid q made (Some answer) heard mid_is log_is run later =
    let u = heard.after in
    let over = no_more k side (named names u) q mid_log after (subst (λ (s : SideState). cannot_go s ≡ None → ⊥) (sym (state-named side names u)) heard.settled) (subst (λ (r : Pipe). Runs r mid_log (replicate k (Go side)) q after) (mid_is ∙ heard.pipe) run) in
    let last = over.0 in
    let some = heard.some in
    record {
      log = heard.logged;
      events = over.2 ∙ log_is ∙ ap (λ (es : List Event). before ++ es) heard.events ∙ ap (λ (e : Ended). before ++ (heard.logged ++ Answered side e.answer ∷ [])) (sym heard.rest);
      woken = ap (λ (e : Ended). e.pipe.woken) heard.rest ∙ heard.woken;
      pipe = over.1 ∙ ap (λ (e : Ended). named names e.pipe) (sym heard.rest);
      steps = omega arith;
    }

pub finish : (k : ℕ) (side : Side) (p : Pipe) (names : List ℕ) (before after : List Event) (q : Pipe) → state_of side p ≡ Busy → IsValid side p → Runs (named names p) before (replicate k (Go side)) q after
    → (state_of side q ≡ Busy → ⊥) → IsFinished k side p names before q after
finish zero side p names before after q busy valid run ends = absurd (ends (ap (state_of side) run.0 ∙ state-named side names p ∙ busy))
finish (suc k) side p names before after q busy valid run ends =
    let mid = run.0 in
    let made = run.2.made in
    let step = stepped mid.lent (Go side) (named names p) in
    finish_on k side p names before run.1 after mid q step step.answer (one_step side mid.lent p names busy valid made.lent) made.pipe made.events run.3
    (λ u busy_after valid_after rest. finish k side u names run.1 after q busy_after valid_after rest ends)

-- a step of a call that copies nothing, whose waker is heard: it leaves the rest of the call, and
-- without an answer it brings it nearer
pub record IsDriven (side : Side) (p : Pipe) (answer : Option Answer) (q : Pipe) : Type 0 where
  pub rest : alone_of side p ≡ rest_of side answer q
  pub on : answer ≡ None → (state_of side q ≡ Busy) × (is_copying side q ≡ false) × Nearer (left_of side p) (left_of side q) (wakes_of side p) (wakes_of side q) (length p.woken) (length q.woken)

pub drives : (side : Side) (p h q : Pipe) (answer : Option Answer) → state_of side p ≡ Busy → is_copying side p ≡ false → h ≡ heard side (action_of side p) p → answer ≡ (stepped q.lent (Go side) h).answer → q ≡ (stepped q.lent (Go side) h).pipe → IsDriven side p answer q
drives Reader p h q answer busy plain hears answers after =
    let s = read_step p.reader p in
    let same : answer ≡ s.answer = answers ∙ ap (λ (v : Pipe). (went Reader v).answer) hears in
    let is : q ≡ s.pipe = after ∙ ap (λ (v : Pipe). (went Reader v).pipe) hears in
    rw (same, is) (record { rest = reader-rest p.reader p busy plain ∙ reader-rest_of s.answer s.pipe; on = reader-nearer p.reader p busy plain })
drives Writer p h q answer busy plain hears answers after =
    let s = write_step p.writer p in
    let went = writer-went p h q answer plain hears answers after in
    rw (went.0, went.1) (record { rest = writer-rest p.writer p busy plain ∙ writer-rest_of s.answer s.pipe; on = writer-nearer p.writer p busy plain })
