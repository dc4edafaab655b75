-- A fill run whole: its source stays with the caller, and each step is that of a call which holds
-- this source.
use Rattle.std.proofs.Common.{◌≡◌, ℕ, ◌<◌, min, List, take, length, true, false, Option, None, Some, sym, ap, subst, ◌∙◌, arith, Result, Ok, Err}
use Rattle.piper_machine.specs.Types.{Action, OpenCall, Answer, Failed, SourceAct, WritePoint, Found, Writer, Go, Busy, MOST_A_ROUND}
use Rattle.piper_protocol.specs.Table.{write_action}
use Rattle.piper_machine.specs.Pipe.{Pipe}
use Rattle.piper_machine.specs.Lend.{Lendable, lending}
use Rattle.piper_machine.specs.Move.{with_waker}
use Rattle.piper_machine.specs.Source.{bytes_of, is_failing}
use Rattle.piper_machine.specs.Round.{given, found_of, left_of_source}
use Rattle.piper_machine.specs.Refusal.{writer_state}
use Rattle.piper_machine.specs.Action.{source_called}
use Rattle.piper_machine.specs.Step.{stepped, source_after, round_left, round_answer, MayOffer}
use Rattle.piper_machine.specs.Alone.{heard, is_filling, writer_alone}
use Rattle.piper_machine.proofs.Alone.{writer_rest, writes_left}
use Rattle.piper_machine.proofs.Copies.{WriterValid, fill_step, fill-rest}
use Rattle.piper_machine.proofs.Falling.{fill-falls}
use Rattle.piper_machine.proofs.Validity.{IsSettled, closes_round, writer-settled, writer-valid}
use Rattle.piper_machine.proofs.Rounds.{HasOneWake}
use Rattle.piper_machine.proofs.Sources.{source-called}

-- the pipe of a call that holds this source
abbrev pub giving : List SourceAct → Pipe → Pipe
giving acts p = record p { source = acts }

-- the waker that the call has taken, and calls next
abbrev pub errand : WritePoint → OpenCall → Option ℕ
errand (WritePoint.WakeReader next) c = c.taken
errand point c = None

abbrev pub WakesOne : WritePoint → Pipe → Type 0
WakesOne point p = HasOneWake (with_waker p.woken (errand point p.writer_call)) p.reader_waker

fill-kept : (point : WritePoint) (lent : List ℕ) (p : Pipe) → is_filling point ≡ true → closes_round point ≡ false → WakesOne point p
    → let s = fill_step point lent p in s.answer ≡ None → (is_filling s.pipe.writer ≡ true) × WakesOne s.pipe.writer s.pipe
fill-kept point lent p fills plain one goes = grind arith

-- a fill that was opened at p has come to u
pub record Filling (p u : Pipe) : Type 0 where
  pub fills : is_filling u.writer ≡ true
  pub busy : writer_state u.writer ≡ Busy
  pub plain : closes_round u.writer ≡ false
  pub valid : WriterValid u.writer u
  pub wakes : WakesOne u.writer u
  pub rest : writer_alone p.writer p ≡ writer_alone u.writer u

abbrev pub left_of : Pipe → ℕ
left_of p = writes_left p.writer p

-- what a step of it comes to: nearer to the answer, or the answer
abbrev pub IsFilled : Pipe → Pipe → Option Answer → Pipe → Type 0
IsFilled p u None r = Filling p r × (left_of r < left_of u)
IsFilled p u (Some answer) r = writer_alone p.writer p ≡ record { answer = answer; pipe = r }

filled-by : (p u : Pipe) (lent : List ℕ) (answer : Option Answer) → Filling p u → MayOffer u.writer u.source lent u → (fill_step u.writer lent u).answer ≡ answer → IsFilled p u answer (fill_step u.writer lent u).pipe
filled-by p u lent None filling may is =
    let s = fill_step u.writer lent u in
    let kept = fill-kept u.writer lent u filling.fills filling.plain filling.wakes is in
    let valid = writer-valid u.writer lent u filling.busy filling.plain filling.valid may in (
      record {
        fills = kept.0;
        busy = subst (λ (a : Option Answer). IsSettled a (writer_state s.pipe.writer)) is (writer-settled u.writer lent u filling.busy filling.plain);
        plain = valid.1;
        valid = valid.0;
        wakes = kept.1;
        rest = filling.rest ∙ fill-rest u.writer lent u filling.fills filling.valid may ∙ ap (λ (a : Option Answer). writer_rest a s.pipe) is;
      },
      fill-falls u.writer lent u filling.fills filling.valid may is,
    )
filled-by p u lent (Some answer) filling may is =
    let s = fill_step u.writer lent u in
    filling.rest ∙ fill-rest u.writer lent u filling.fills filling.valid may ∙ ap (λ (a : Option Answer). writer_rest a s.pipe) is

-- a step that does not call the source leaves it as it is
may-go : (point : WritePoint) (acts : List SourceAct) (lent : List ℕ) (p : Pipe) → (write_action point ≡ Action.CallSource → ⊥) → MayOffer point acts lent p
may-go point acts lent p other = grind arith

pub record IsApart (point : WritePoint) (lent : List ℕ) (acts : List SourceAct) (p : Pipe) : Type 0 where
  pub answer : (fill_step point lent (giving acts p)).answer ≡ (fill_step point lent p).answer
  pub pipe : (fill_step point lent (giving acts p)).pipe ≡ giving (source_after (fill_step point lent p).answer acts) (fill_step point lent p).pipe
  pub source : (fill_step point lent p).pipe.source ≡ source_after (fill_step point lent p).answer p.source

apart : (point : WritePoint) (lent : List ℕ) (acts : List SourceAct) (p : Pipe) → (write_action point ≡ Action.CallSource → ⊥) → IsApart point lent acts p
apart point lent acts p other = grind arith

-- the same of a pipe whose call holds no source
abbrev pub IsGoneOn : Pipe → List SourceAct → Pipe → Option Answer → Pipe → Type 0
IsGoneOn p acts q None r = Filling p (giving acts r) × (left_of r < left_of q)
IsGoneOn p acts q (Some answer) r = writer_alone p.writer p ≡ record { answer = answer; pipe = r }

pub record IsGone (p : Pipe) (acts : List SourceAct) (q : Pipe) (found : Option Answer) (r : Pipe) : Type 0 where
  pub on : IsGoneOn p acts q found r

-- what that shows in an arm without an answer, and in one with it
pub goes : {p : Pipe} {acts : List SourceAct} {q r : Pipe} {found : Option Answer} → IsGone p acts q found r → found ≡ None → Filling p (giving acts r) × (left_of r < left_of q)
goes {p} {acts} {q} {r} gone is = subst (λ (a : Option Answer). IsGoneOn p acts q a r) is gone.on

pub record IsAnswered (p : Pipe) (answer : Answer) (r : Pipe) : Type 0 where
  pub answer_is : answer ≡ (writer_alone p.writer p).answer
  pub after : r ≡ (writer_alone p.writer p).pipe

pub ends : {p : Pipe} {acts : List SourceAct} {q r : Pipe} {found : Option Answer} {answer : Answer} → IsGone p acts q found r → found ≡ Some answer → IsAnswered p answer r
ends gone is = grind arith

gone-on : (p q r : Pipe) (acts : List SourceAct) (answer : Option Answer) (s : Pipe) → s ≡ giving (source_after answer acts) r → r.source ≡ source_after answer r.source → IsFilled p (giving acts q) answer s → IsGoneOn p acts q answer r
gone-on p q r acts answer s is kept filled = grind arith

settled-source : (answer : Option Answer) (acts held : List SourceAct) → acts ≡ source_after answer held → acts ≡ source_after answer acts
settled-source answer acts held is = grind arith

-- a step that the machine makes with no source of its own: the waker that it calls is heard, and
-- then it goes
pub goes-on : (p q h r : Pipe) (acts : List SourceAct) (answer : Option Answer) → Filling p (giving acts q) → (write_action q.writer ≡ Action.CallSource → ⊥) → h ≡ heard Writer (write_action q.writer) q
    → answer ≡ (stepped r.lent (Go Writer) h).answer → r ≡ (stepped r.lent (Go Writer) h).pipe → IsGoneOn p acts q answer r
goes-on p q h r acts answer filling other hears answers after =
    let lent = r.lent in
    let s = fill_step q.writer lent q in
    let answer_is : answer ≡ s.answer = answers ∙ ap (λ (v : Pipe). (stepped lent (Go Writer) v).answer) hears in
    let pipe_is : r ≡ s.pipe = after ∙ ap (λ (v : Pipe). (stepped lent (Go Writer) v).pipe) hears in
    let same = apart q.writer lent acts q other in
    let u = giving acts q in
    let filled = filled-by p u lent answer filling (may-go q.writer acts lent u other) (same.answer ∙ sym answer_is) in
    let is : (fill_step q.writer lent u).pipe ≡ giving (source_after answer acts) r = same.pipe ∙ ap (λ (a : Option Answer). giving (source_after a acts) s.pipe) (sym answer_is) ∙ ap (giving (source_after answer acts)) (sym pipe_is) in
    let kept : r.source ≡ source_after answer q.source = ap (λ (v : Pipe). v.source) pipe_is ∙ same.source ∙ ap (λ (a : Option Answer). source_after a q.source) (sym answer_is) in
    gone-on p q r acts answer (fill_step q.writer lent u).pipe is (settled-source answer r.source q.source kept) filled

-- a call of the source
may-call : (point : WritePoint) (acts : List SourceAct) (lent : List ℕ) (p : Pipe) → Lendable MOST_A_ROUND p (length lent) → MayOffer point acts lent p
may-call point acts lent p lendable = grind arith

pub record IsCalled (point : WritePoint) (lent : List ℕ) (p : Pipe) : Type 0 where
  pub answer : (fill_step point lent p).answer ≡ round_answer (found_of (given (length lent) p.source)) (record p { writer = point })
  pub pipe : (fill_step point lent p).pipe ≡ round_left (found_of (given (length lent) p.source)) (source_called (lending lent (record p { writer = point })))

call-step : (point : WritePoint) (lent : List ℕ) (p : Pipe) → write_action point ≡ Action.CallSource → IsCalled point lent p
call-step point lent p calls = grind arith

-- what a call of the source finds in w, which was lent to it, leads to r
pub record IsRound (found : Found) (w : Pipe) (answer : Option Answer) (r : Pipe) : Type 0 where
  pub answer_is : answer ≡ round_answer found w
  pub after : r ≡ round_left found w

pub called : (acts rest : List SourceAct) (found : Found) (p q w r : Pipe) (answer : Option Answer) → write_action q.writer ≡ Action.CallSource → Filling p (giving acts q)
    → Lendable MOST_A_ROUND q (length w.lent) → w ≡ lending w.lent q → giving rest w ≡ source_called (lending w.lent (giving acts q)) → found_of (given (length w.lent) acts) ≡ found → IsRound found w answer r → IsGoneOn p rest q answer r
called acts rest found p q w r answer calls filling lendable lent given_is found_is round =
    let u = giving acts q in
    let step = call-step q.writer w.lent u calls in
    let answer_is : (fill_step q.writer w.lent u).answer ≡ answer = step.answer ∙ ap (λ (f : Found). round_answer f u) found_is ∙ ap (round_answer found) (sym lent) ∙ sym round.answer_is in
    let may = may-call q.writer acts w.lent u (record { at_most = lendable.at_most; at_least = lendable.at_least; some = lendable.some; shut = lendable.shut }) in
    let pipe : (fill_step q.writer w.lent u).pipe ≡ giving (source_after answer rest) r =
    step.pipe
    ∙ ap (λ (f : Found). round_left f (source_called (lending w.lent u))) found_is
    ∙ ap (round_left found) (sym given_is)
    ∙ ap (λ (a : Option Answer). giving (source_after a rest) (round_left found w)) (sym round.answer_is)
    ∙ ap (giving (source_after answer rest)) (sym round.after) in
    let kept : r.source ≡ source_after answer w.source = ap (λ (v : Pipe). v.source) round.after ∙ ap (λ (a : Option Answer). source_after a w.source) (sym round.answer_is) in
    gone-on p q r rest answer (fill_step q.writer w.lent u).pipe pipe (settled-source answer r.source w.source kept) (filled-by p u w.lent answer filling may answer_is)

-- it gives n bytes, or fails
pub gives : (most n : ℕ) (acts : List SourceAct) → is_failing acts ≡ false → n ≡ min most (length (bytes_of acts)) → Ok n ≡ given most acts
gives most n acts works is = grind arith

pub fails : (most : ℕ) (acts : List SourceAct) → is_failing acts ≡ true → Err (record {}) ≡ given most acts
fails most acts failing = grind arith

pub gave : (acts rest : List SourceAct) (n : ℕ) (given_now : Result ℕ Failed) (p q w r : Pipe) (answer : Option Answer) → write_action q.writer ≡ Action.CallSource → Filling p (giving acts q)
    → Lendable MOST_A_ROUND q (length w.lent) → w ≡ lending w.lent q → n ≡ min (length w.lent) (length (bytes_of acts)) → take n w.lent ≡ take n (bytes_of acts) → rest ≡ left_of_source n acts
    → given_now ≡ given (length w.lent) acts → IsRound (found_of given_now) w answer r → IsGoneOn p rest q answer r
gave acts rest n given_now p q w r answer calls filling lendable lent count front left is round =
    called acts rest (found_of given_now) p q w r answer calls filling lendable lent
    (source-called (giving acts q) w n q.source rest lent count front left)
    (ap found_of (sym is)) round
