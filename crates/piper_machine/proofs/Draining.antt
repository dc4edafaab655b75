-- A drain run whole: its destination stays with the caller, and each step is that of a call which
-- holds this destination.
use Rattle.std.proofs.Common.{◌≡◌, ℕ, ◌+◌, ◌-◌, ◌<◌, ◌≤◌, min, List, ◌++◌, take, drop, length, true, Option, None, Some, is_some, sym, ap, subst, ◌∙◌, arith, length-append, length-drop, length-take, []}
use Rattle.std.proofs.lemmas.Grind.{common_steps}
use Rattle.std.proofs.lemmas.List.{drop-drop}
use borrow.Rule.Slice.PartMut.{put_mid}
use Rattle.piper_machine.specs.Types.{OpenCall, Answer, Context, Action, ReadPoint, Found, Destination, Reader, Busy, Slice}
use Rattle.piper_protocol.specs.Table.{head_store, read_action}
use Rattle.piper_machine.specs.Pipe.{Pipe}
use Rattle.piper_machine.specs.Sound.{IsSound}
use Rattle.piper_machine.specs.Move.{with_waker}
use Rattle.piper_machine.specs.Round.{taken, found_of, left_of_destination}
use Rattle.piper_machine.specs.Refusal.{reader_state}
use Rattle.piper_machine.specs.Action.{round_count, destination_called}
use Rattle.piper_machine.specs.Step.{Stepped, went, drain_opened, destination_after, drain_left, drain_answer}
use Rattle.piper_machine.specs.Alone.{heard, is_draining, reader_alone}
use Rattle.piper_machine.proofs.Alone.{reader_rest, reads_left, read_step}
use Rattle.piper_machine.proofs.Copies.{drain-rest}
use Rattle.piper_machine.proofs.Falling.{drain-falls}
use Rattle.piper_machine.proofs.Validity.{IsSettled, ReaderValid, reader-settled, reader-valid}
use Rattle.piper_machine.proofs.Rounds.{next_part, HasOneWake}

-- the pipe of a call that holds this destination
abbrev pub placing : Destination → Pipe → Pipe
placing destination p = record p { destination = destination }

-- the waker that the call has taken, and calls next
abbrev pub errand : ReadPoint → OpenCall → Option ℕ
errand (ReadPoint.WakeWriter next) c = c.taken
errand point c = None

abbrev pub WakesOne : ReadPoint → Pipe → Type 0
WakesOne point p = HasOneWake (with_waker p.woken (errand point p.reader_call)) p.writer_waker

pub wake-room : (point : ReadPoint) (p : Pipe) → WakesOne point p → length p.woken < 2
wake-room point p wakes = grind (arith, common_steps)

drain-kept : (point : ReadPoint) (p : Pipe) → is_draining point ≡ true → WakesOne point p → let s = read_step point p in s.answer ≡ None → (is_draining s.pipe.reader ≡ true) × WakesOne s.pipe.reader s.pipe
drain-kept point p drains one goes = grind arith

-- a drain that was opened at p has come to u
pub record Draining (p u : Pipe) : Type 0 where
  pub drains : is_draining u.reader ≡ true
  pub busy : reader_state u.reader ≡ Busy
  pub valid : ReaderValid u.reader u
  pub wakes : WakesOne u.reader u
  pub rest : reader_alone p.reader p ≡ reader_alone u.reader u

abbrev pub left_of : Pipe → ℕ
left_of p = reads_left p.reader p

-- what a step of it comes to: nearer to the answer, or the answer
abbrev pub IsDrained : Pipe → Pipe → Option Answer → Pipe → Type 0
IsDrained p u None r = Draining p r × (left_of r < left_of u)
IsDrained p u (Some answer) r = reader_alone p.reader p ≡ record { answer = answer; pipe = r }

drained-by : (p u : Pipe) (answer : Option Answer) → Draining p u → (read_step u.reader u).answer ≡ answer → IsDrained p u answer (read_step u.reader u).pipe
drained-by p u None draining is =
    let s = read_step u.reader u in
    let kept = drain-kept u.reader u draining.drains draining.wakes is in
    let valid = draining.valid in (
      record {
        drains = kept.0;
        busy = subst (λ (a : Option Answer). IsSettled a (reader_state s.pipe.reader)) is (reader-settled u.reader u draining.busy);
        valid = reader-valid u.reader u draining.busy valid;
        wakes = kept.1;
        rest = draining.rest ∙ drain-rest u.reader u draining.drains valid.start (omega (arith, valid.unread, valid.known)) ∙ ap (λ (a : Option Answer). reader_rest a s.pipe) is;
      },
      drain-falls u.reader u draining.drains valid is,
    )
drained-by p u (Some answer) draining is =
    let s = read_step u.reader u in
    let valid = draining.valid in
    draining.rest ∙ drain-rest u.reader u draining.drains valid.start (omega (arith, valid.unread, valid.known)) ∙ ap (λ (a : Option Answer). reader_rest a s.pipe) is

-- a step that does not call the destination leaves it as it is
pub record IsApart (point : ReadPoint) (destination : Destination) (p : Pipe) : Type 0 where
  pub answer : (read_step point (placing destination p)).answer ≡ (read_step point p).answer
  pub pipe : (read_step point (placing destination p)).pipe ≡ placing (destination_after (read_step point p).answer destination) (read_step point p).pipe
  pub destination_is : (read_step point p).pipe.destination ≡ destination_after (read_step point p).answer p.destination

-- the same of a pipe whose call holds no destination
abbrev pub IsGoneOn : Pipe → Destination → Pipe → Option Answer → Pipe → Type 0
IsGoneOn p destination q None r = Draining p (placing destination r) × (left_of r < left_of q)
IsGoneOn p destination q (Some answer) r = reader_alone p.reader p ≡ record { answer = answer; pipe = r }

pub record IsGone (p : Pipe) (destination : Destination) (q : Pipe) (found : Option Answer) (r : Pipe) : Type 0 where
  pub on : IsGoneOn p destination q found r

-- what that shows in an arm without an answer, and in one with it
pub goes : {p : Pipe} {destination : Destination} {q r : Pipe} {found : Option Answer} → IsGone p destination q found r → found ≡ None → Draining p (placing destination r) × (left_of r < left_of q)
goes {p} {destination} {q} {r} gone is = subst (λ (a : Option Answer). IsGoneOn p destination q a r) is gone.on

pub record IsAnswered (p : Pipe) (answer : Answer) (r : Pipe) : Type 0 where
  pub answer_is : answer ≡ (reader_alone p.reader p).answer
  pub after : r ≡ (reader_alone p.reader p).pipe

pub ends : {p : Pipe} {destination : Destination} {q r : Pipe} {found : Option Answer} {answer : Answer} → IsGone p destination q found r → found ≡ Some answer → IsAnswered p answer r
ends gone is = grind arith

gone-on : (p q r : Pipe) (destination : Destination) (answer : Option Answer) (s : Pipe) → s ≡ placing (destination_after answer destination) r → r.destination ≡ destination_after answer r.destination → IsDrained p (placing destination q) answer s → IsGoneOn p destination q answer r
gone-on p q r destination answer s is kept drained = grind arith

settled-destination : (answer : Option Answer) (left held : Destination) → left ≡ destination_after answer held → left ≡ destination_after answer left
settled-destination answer left held is = grind arith

-- a step that the machine makes with no destination of its own: the waker that it calls is heard,
-- and then it goes
pub goes-on : (p q h r : Pipe) (destination : Destination) (answer : Option Answer) → Draining p (placing destination q) → (read_action q.reader ≡ Action.CallDestination → ⊥) → h ≡ heard Reader (read_action q.reader) q
    → answer ≡ (went Reader h).answer → r ≡ (went Reader h).pipe → IsGoneOn p destination q answer r
goes-on p q h r destination answer draining other hears answers after = grind (arith, common_steps)

-- a call of the destination
pub record IsCalled (point : ReadPoint) (p : Pipe) : Type 0 where
  pub answer : (read_step point p).answer ≡ drain_answer (found_of (taken (round_count p) p.destination)) (record p { reader = point })
  pub pipe : (read_step point p).pipe ≡ drain_left (found_of (taken (round_count p) p.destination)) (destination_called (record p { reader = point }))

call-step : (point : ReadPoint) (p : Pipe) → read_action point ≡ Action.CallDestination → IsCalled point p
call-step point p calls = grind arith

-- what a call of the destination finds leads to r
pub record IsRound (found : Found) (q : Pipe) (answer : Option Answer) (r : Pipe) : Type 0 where
  pub answer_is : answer ≡ drain_answer found q
  pub after : r ≡ drain_left found q

pub called : (destination : Destination) (found : Found) (p q r : Pipe) (answer : Option Answer) → read_action q.reader ≡ Action.CallDestination → Draining p (placing destination q)
    → found_of (taken (round_count q) destination) ≡ found → IsRound found q answer r → IsGoneOn p (left_of_destination (round_count q) destination) q answer r
called destination found p q r answer calls draining found_is round =
    let u = placing destination q in
    let rest = left_of_destination (round_count q) destination in
    let step = call-step q.reader u calls in
    let answer_is : (read_step q.reader u).answer ≡ answer = step.answer ∙ ap (λ (f : Found). drain_answer f u) found_is ∙ sym round.answer_is in
    let pipe : (read_step q.reader u).pipe ≡ placing (destination_after answer rest) r =
    step.pipe
    ∙ ap (λ (f : Found). drain_left f (destination_called u)) found_is
    ∙ ap (λ (a : Option Answer). placing (destination_after a rest) (drain_left found q)) (sym round.answer_is)
    ∙ ap (placing (destination_after answer rest)) (sym round.after) in
    let kept : r.destination ≡ destination_after answer q.destination = ap (λ (v : Pipe). v.destination) round.after ∙ ap (λ (a : Option Answer). destination_after a q.destination) (sym round.answer_is) in
    gone-on p q r rest answer (read_step q.reader u).pipe pipe (settled-destination answer r.destination q.destination kept) (drained-by p u answer draining answer_is)

pub calls-store : (point : ReadPoint) → read_action point ≡ Action.CallDestination → head_store point ≡ 0
calls-store point calls = grind arith

-- how many bytes such a step takes in, where a slice has so many places left
abbrev pub took : Action → ℕ → Pipe → ℕ
took Action.CallDestination size p = min size (round_count p)
took action size p = 0

pub took-none : (action : Action) (size : ℕ) (p : Pipe) → (action ≡ Action.CallDestination → ⊥) → took action size p ≡ 0
took-none action size p other = grind arith

record Reads (store n size : ℕ) (unread : List ℕ) (s : Stepped) : Type 0 where
  pub unread_is : drop (head_store s.pipe.reader) s.pipe.unread ≡ drop n (drop store unread)
  pub ends : is_some s.answer ≡ true → head_store s.pipe.reader ≡ 0
  pub destination : s.pipe.destination ≡ destination_after s.answer (Slice (size - n))

reads : (point : ReadPoint) (size : ℕ) (p : Pipe) → is_draining point ≡ true → Reads (head_store point) (took (read_action point) size p) size p.unread (read_step point (placing (Slice size) p))
reads point size p drains = grind arith

-- so many bytes have left the pipe, or leave it by the store that is next
pub record IsRead (before : List ℕ) (size done : ℕ) (p : Pipe) : Type 0 where
  pub unread : drop (head_store p.reader) p.unread ≡ drop done before
  pub destination : p.destination ≡ Slice (size - done)

pub record IsReadOn (before : List ℕ) (size done : ℕ) (answer : Option Answer) (r : Pipe) : Type 0 where
  pub on : answer ≡ None → IsRead before size done r
  pub ends : is_some answer ≡ true → r.unread ≡ drop done before

is-read-on : (before : List ℕ) (size done : ℕ) (answer : Option Answer) (r : Pipe) → drop (head_store r.reader) r.unread ≡ drop done before → (is_some answer ≡ true → head_store r.reader ≡ 0) → r.destination ≡ destination_after answer (Slice (size - done)) → IsReadOn before size done answer r
is-read-on before size done answer r unread ends held = grind arith

-- a step of the call takes in what is read
pub takes-in : (before : List ℕ) (size done : ℕ) (q h r : Pipe) (answer : Option Answer) → is_draining q.reader ≡ true → IsRead before size done q → h ≡ heard Reader (read_action q.reader) q → answer ≡ (went Reader h).answer → r ≡ (went Reader h).pipe
    → IsReadOn before size (done + took (read_action q.reader) (size - done) q) answer r
takes-in before size done q h r answer drains is hears answers after =
    let n = took (read_action q.reader) (size - done) q in
    let held : placing (Slice (size - done)) q ≡ q = λ j. record q { destination = sym is.destination j } in
    let read = subst (λ (v : Pipe). Reads (head_store q.reader) n (size - done) q.unread (read_step q.reader v)) held (reads q.reader (size - done) q drains) in
    let s = read_step q.reader q in
    let answer_is : answer ≡ s.answer = answers ∙ ap (λ (v : Pipe). (went Reader v).answer) hears in
    let pipe_is : r ≡ s.pipe = after ∙ ap (λ (v : Pipe). (went Reader v).pipe) hears in
    let sizes : size - done - n ≡ size - (done + n) = omega arith in
    is-read-on before size (done + n) answer r
    (ap (λ (v : Pipe). drop (head_store v.reader) v.unread) pipe_is ∙ read.unread_is ∙ ap (drop n) is.unread ∙ drop-drop n done before)
    (λ some. ap (λ (v : Pipe). head_store v.reader) pipe_is ∙ read.ends (ap (λ (a : Option Answer). is_some a) (sym answer_is) ∙ some))
    (ap (λ (v : Pipe). v.destination) pipe_is ∙ read.destination ∙ ap (λ (k : ℕ). destination_after s.answer (Slice k)) sizes ∙ ap (λ (a : Option Answer). destination_after a (Slice (size - (done + n)))) (sym answer_is))

along : (p q r : Pipe) (answer : Option Answer) → IsDrained p q answer r → IsGoneOn p r.destination q answer r
along p q r answer drained = grind arith

pub goes-along : (p q h r : Pipe) (answer : Option Answer) → Draining p q → h ≡ heard Reader (read_action q.reader) q → answer ≡ (went Reader h).answer → r ≡ (went Reader h).pipe → IsGone p r.destination q answer r
goes-along p q h r answer draining hears answers after =
    let answer_is : answer ≡ (read_step q.reader q).answer = answers ∙ ap (λ (v : Pipe). (went Reader v).answer) hears in
    let pipe_is : r ≡ (read_step q.reader q).pipe = after ∙ ap (λ (v : Pipe). (went Reader v).pipe) hears in
    record { on = along p q r answer (subst (λ (v : Pipe). IsDrained p q answer v) (sym pipe_is) (drained-by p q answer draining (sym answer_is))) }

-- what is copied to a slice just before a step that takes it in
pub record IsCopied (before dest : List ℕ) (n done : ℕ) (filled_now : List ℕ) : Type 0 where
  pub count : done ≡ n
  pub within : done ≤ length filled_now
  pub known : done ≤ length before
  pub bytes : filled_now ≡ take done before ++ drop done dest

pub copies : (before dest so_far part : List ℕ) (done n sum : ℕ) → done ≤ length before → so_far ≡ take done before ++ drop done dest → length so_far ≡ length dest → done + n ≤ length dest → done + n ≤ length before
    → part ≡ take n (drop done before) ++ drop n (drop done so_far) → done + n ≡ sum → IsCopied before dest sum (done + n) (put_mid done (length so_far - done) so_far part)
copies before dest so_far part done n sum known is long fits more part_is same =
    let whole = ap (put_mid done (length so_far - done) so_far) part_is ∙ next_part done n before dest so_far known fits is long in
    record {
      count = same;
      within = rw whole (omega (arith, more, fits, length-append (take (done + n) before) (drop (done + n) dest), length-take (done + n) before, length-drop (done + n) dest));
      known = more;
      bytes = whole;
    }

-- as many bytes are in the slice as have left the pipe
pub drained-bytes : (n : ℕ) (before after dest filled_so_far : List ℕ) → n ≤ length before → after ≡ drop n before → filled_so_far ≡ take n before ++ drop n dest
    → let count = length before - length after in filled_so_far ≡ take count before ++ drop count dest
drained-bytes n before after dest so_far known left is = grind (arith, common_steps)

pub opened : (cx : Option Context) (destination : Destination) (p q : Pipe) → IsSound p → p.woken ≡ [] → q ≡ drain_opened cx (Slice 0) p → Draining (drain_opened cx destination p) (placing destination q)
opened cx destination p q sound unwoken is = grind arith

-- a drain to a slice returns how many bytes have left the pipe
pub record IsCounted (before : List ℕ) (count : ℕ) (after : List ℕ) : Type 0 where
  pub within : count ≤ length before
  pub left : after ≡ drop count before
