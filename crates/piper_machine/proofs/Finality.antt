-- Each step keeps a reported end final: the pipe is closed for good, with nothing unread and
-- nothing lent that could still be published.
use Rattle.std.proofs.Common.{◌≡◌, inl, inr, ℕ, List, ◌∷◌, ◌++◌, Bool, true, false, Option, None, refl, sym, ap, subst, ◌∙◌, slice_set, arith, []}
use Rattle.std.proofs.lemmas.Grind.{common_steps}
use Rattle.piper_machine.specs.Types.{Call, Step, Answer, Event, Action, ReadPoint, WritePoint, Reader, Writer, Begin, Go, Put}
use Rattle.piper_protocol.specs.Table.{read_action, write_action}
use Rattle.piper_machine.specs.Log.{answer_event}
use Rattle.piper_machine.specs.Pipe.{Pipe, fresh}
use Rattle.piper_machine.specs.Sound.{IsSound}
use Rattle.piper_machine.specs.Action.{logged_of}
use Rattle.piper_machine.specs.Step.{Stepped, went, stepped, offering, lent_at}
use Rattle.piper_machine.specs.Refusal.{refusal_of}
use Rattle.piper_machine.specs.Lend.{lending}
use Rattle.piper_machine.specs.Run.{Made}
use Rattle.piper_machine.specs.End.{saw_closed_from, saw_closed, found_none}
use Rattle.piper_machine.specs.Final.{told_end, IsOver, IsFinal}
use Rattle.piper_machine.proofs.Ends.{ended_after, ended_from, IsFinalFrom, saw-append, ended-append, final-append, final-after, found-here}
use Rattle.piper_machine.proofs.Causes.{write_leaves, IsEnded, IsCaused, is_known, reader-caused, writer_after, writer-known, writer-caused}
use Rattle.piper_machine.proofs.Honesty.{loaded, saw_close, writer-flag, Honest}
use Rattle.piper_machine.proofs.Counting.{writer_leaves-reader, writer_never-head}
use Rattle.piper_machine.proofs.Remembering.{reader_leaves}
use Rattle.piper_machine.proofs.After.{Over, Quiet, IsLinked, Sees, reader-logs, reader-sees, reader-ends}

-- kept by every step
pub record Lasts (p : Pipe) (saw ended : Bool) : Type 0 where
  pub known : is_known p.writer ≡ true
  pub caused : p.is_closed ≡ true → IsCaused p
  pub over : ended ≡ true → Over p
  pub sees : Sees saw p

-- once an end was reported nothing is lent that could be stored
none_lent : (p : Pipe) → IsSound p → write_leaves p.writer ≡ false → IsEnded p → p.lent ≡ []
none_lent p sound stays ended = elim ended [ inl leaves ↦ absurd (cc) | inr shut ↦ sound.shut shut ]

writer-over : (offered : List ℕ) (point : WritePoint) (p : Pipe) → IsSound (record p { writer = point }) → Over (record p { writer = point }) → Over (writer_after offered point p)
writer-over offered point p sound o = grind arith

-- what the writer's step logs, and returns

module _ (saw ended : Bool) (q : Pipe) (unread : ended ≡ true → q.unread ≡ []) (closed : ended ≡ true → q.is_closed ≡ true) where
  writer-logs : (action : Action) → ((n : ℕ) → action ≡ Action.StoreTail n → ended ≡ true → q.lent ≡ []) → Quiet saw ended (logged_of Writer action q)
  writer-logs action unlent = grind (arith, common_steps)

writer-answers : (saw ended : Bool) (answer : Option Answer) → Quiet saw ended (answer_event Writer answer)
writer-answers saw ended answer = grind arith

writer-publishes : (point : WritePoint) (n : ℕ) → write_action point ≡ Action.StoreTail n → write_leaves point ≡ false
writer-publishes point n e = grind arith

-- a store publishes what was lent before
publishes-lent : (point : WritePoint) (n : ℕ) (offered lent : List ℕ) → write_action point ≡ Action.StoreTail n → lent_at point offered lent ≡ lent
publishes-lent point n offered lent e = grind arith

-- a call is opened outside any other call of its side

module _ (p : Pipe) (saw ended : Bool) (h : Lasts p saw ended) where
  lends : (lent : List ℕ) → Lasts (lending lent p) saw ended
  lends lent = record { known = h.known; caused = h.caused; over = λ t. let o = h.over t in record { closed = o.closed; ended = o.ended; unread = o.unread; valid = o.valid }; sees = h.sees }

abbrev Adds : Bool → Bool → Stepped → Type 0
Adds saw ended new = IsFinalFrom saw ended new.events × Lasts new.pipe (saw_closed_from Reader saw new.events) (ended_from saw ended new.events)

begin-lasts : (lent : List ℕ) (c : Call) (p : Pipe) (saw ended : Bool) → IsSound p → refusal_of (Begin c) p ≡ None → Lasts p saw ended → Adds saw ended (stepped lent (Begin c) p)
begin-lasts lent c p saw ended sound accepted h = grind arith

-- the events of the answer after those of the action
adds : (saw ended : Bool) (es fs : List Event) (q : Pipe) → IsFinalFrom saw ended es → IsFinalFrom (saw_closed_from Reader saw es) (ended_from saw ended es) fs
    → Lasts q (saw_closed_from Reader (saw_closed_from Reader saw es) fs) (ended_from (saw_closed_from Reader saw es) (ended_from saw ended es) fs)
    → IsFinalFrom saw ended (es ++ fs) × Lasts q (saw_closed_from Reader saw (es ++ fs)) (ended_from saw ended (es ++ fs))
adds saw ended es fs q first then lasts = (
  final-append saw ended es fs first then,
  subst (λ (b : Bool). Lasts q b (ended_from saw ended (es ++ fs))) (sym (saw-append saw es fs)) (subst (λ (b : Bool). Lasts q (saw_closed_from Reader (saw_closed_from Reader saw es) fs) b) (sym (ended-append saw ended es fs)) lasts),
)

answers-saw : (saw : Bool) (answer : Option Answer) → saw_closed_from Reader saw (answer_event Reader answer) ≡ saw
answers-saw saw answer = grind arith

step-lasts : (lent : List ℕ) (s : Step) (p : Pipe) (saw ended : Bool) → IsSound p → refusal_of s p ≡ None → (saw_close p.reader ≡ true → p.is_closed ≡ true) → Lasts p saw ended → Adds saw ended (stepped lent s p)
step-lasts lent (Begin c) p saw ended sound accepted seen h = begin-lasts lent c p saw ended sound accepted h
step-lasts lent (Go Reader) p saw ended sound accepted seen h =
    let es = logged_of Reader (read_action p.reader) p in
    let to = went Reader p in
    let logs = reader-logs saw ended p h.sees.0 p.reader h.sees.1 h.caused h.over in
    let ends = reader-ends (saw_closed_from Reader saw es) (ended_from saw ended es) p p.reader seen h.caused logs.1 in
    let sees = reader-sees saw p h.sees.0 p.reader h.sees.1 in
    adds saw ended es (answer_event Reader to.answer) to.pipe logs.0 ends.0 (record {
      known = rw (reader_leaves (read_action p.reader) p).0 h.known;
      caused = reader-caused p.reader p h.caused;
      over = ends.1;
      sees = subst (λ (b : Bool). Sees b to.pipe) (sym (answers-saw (saw_closed_from Reader saw es) to.answer)) sees;
    })
step-lasts lent (Go Writer) p saw ended sound accepted seen h =
    let action = write_action p.writer in
    let offered = offering lent p in
    let es = logged_of Writer action offered in
    let to = went Writer offered in
    let unlent : (n : ℕ) → action ≡ Action.StoreTail n → ended ≡ true → offered.lent ≡ [] = λ n e t. publishes-lent p.writer n lent p.lent e ∙ none_lent p sound (writer-publishes p.writer n e) (h.over t).ended in
    let logs = writer-logs saw ended offered (λ t. (h.over t).unread) (λ t. (h.over t).closed) action unlent in
    let answers = writer-answers (saw_closed_from Reader saw es) (ended_from saw ended es) to.answer in
    let leaves = (writer_leaves-reader action offered (writer_never-head p.writer)).0 in
    let sees : Sees saw to.pipe = (λ closed. writer-flag action offered (h.sees.0 closed), subst (λ (point : ReadPoint). IsLinked (loaded point) saw) (sym leaves) h.sees.1) in
    adds saw ended es (answer_event Writer to.answer) to.pipe logs.0 answers.0 (record {
      known = writer-known lent p.writer p;
      caused = writer-caused lent p.writer p h.known h.caused;
      over = λ t. writer-over lent p.writer p sound (h.over (sym (answers.1 ∙ logs.1) ∙ t));
      sees = subst (λ (b : Bool). Sees b to.pipe) (sym (answers.2 ∙ logs.2)) sees;
    })
step-lasts lent (Put offset byte) p saw ended sound accepted seen h = (tt, lends p saw ended h (slice_set p.lent offset byte))

-- what that says of every list of steps

pub record Final (p : Pipe) (events : List Event) : Type 0 where
  pub lasts : Lasts p (saw_closed Reader events) (ended_from false false events)
  pub so_far : IsFinalFrom false false events
  pub final : IsFinal p events

final : (p : Pipe) (events : List Event) → Lasts p (saw_closed Reader events) (ended_from false false events) → IsFinalFrom false false events → Final p events
final p events lasts so_far = record { lasts = lasts; so_far = so_far; final = record { found = found; noted = noted } }
  where
    over : (before after : List Event) (e : Event) → events ≡ before ++ e ∷ after → ended_after (saw_closed Reader before) (ended_from false false before) e ≡ true → IsOver p after
    over before after e parts here =
        let following = final-after false false before after e here (subst (λ (es : List Event). IsFinalFrom false false es) parts so_far) in
        (following.0, (lasts.over (ap (λ (es : List Event). ended_from false false es) parts ∙ following.1)).unread)

    found : (before after : List Event) → events ≡ before ++ found_none ∷ after → saw_closed Reader before ≡ true → IsOver p after
    found before after parts seen = over before after found_none parts (found-here (saw_closed Reader before) (ended_from false false before) seen)

    noted : (before after : List Event) → events ≡ before ++ told_end ∷ after → IsOver p after
    noted before after parts = over before after told_end parts refl

pub final_none : (capacity : ℕ) → Final (fresh capacity) []
final_none capacity = final (fresh capacity) [] (record { known = refl; caused = λ closed. absurd (cc); over = λ t. absurd (cc); sees = (λ seen. absurd (cc), tt) }) tt

pub final_more : (p q : Pipe) (s : Step) (before after : List Event) → IsSound p → Honest p before → Final p before → Made p s q before after → Final q after
final_more p q s before after sound honest kept made =
    let new = stepped q.lent s p in
    let es = before ++ new.events in
    let on = step-lasts q.lent s p (saw_closed Reader before) (ended_from false false before) sound made.accepted honest.aware.saw kept.lasts in
    let added = adds false false before new.events new.pipe kept.so_far on.0 on.1 in
    let next : Final new.pipe es = final new.pipe es added.1 added.0 in
    subst (λ (fs : List Event). Final q fs) (sym made.made.events) (subst (λ (x : Pipe). Final x es) (sym made.made.pipe) next)
