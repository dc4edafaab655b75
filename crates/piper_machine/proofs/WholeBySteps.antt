-- Every call made by steps, none of which is the other side's, is the call run whole.
use Rattle.std.proofs.Common.{◌≡◌, ℕ, ◌+◌, ◌≤◌, List, ◌∷◌, ◌++◌, length, replicate, Bool, true, false, Option, None, refl, sym, ap, ◌∙◌, subst, arith, append_assoc, []}
use Rattle.std.proofs.lemmas.List.{length-replicate}
use Rattle.piper_machine.specs.Types.{SourceAct, Side, Call, Answer, Event, ReadPoint, WritePoint, Reader, Writer, Busy, Begin, Go, Lent, Began, Answered, Slice}
use Rattle.piper_machine.specs.Counts.{most_steps}
use Rattle.piper_machine.specs.Open.{no_call}
use Rattle.piper_machine.specs.declared.machine.Machine.TheInside.{Inside}
use Rattle.piper_machine.specs.Machine.{pipe_of, IsMachine}
use Rattle.piper_machine.proofs.Soundness.{sound}
use Rattle.piper_machine.specs.Call.{side_of, kind_of, waker_of}
use Rattle.piper_machine.specs.Log.{answer_event}
use Rattle.piper_machine.specs.Pipe.{Pipe, begun}
use Rattle.piper_machine.specs.Sound.{IsSound}
use Rattle.piper_machine.specs.Look.{context}
use Rattle.piper_machine.specs.Lend.{Lendable, lending}
use Rattle.piper_machine.specs.Refusal.{IsIdle, writer_state, state_of, cannot_begin, cannot_go, past, refusal_of}
use Rattle.piper_machine.specs.Step.{began, opened, answer_at_once}
use Rattle.piper_machine.specs.Run.{Made, Runs}
use Rattle.piper_machine.specs.Alone.{Ended, resting, alone_of, is_copying, wakes_of}
use Rattle.piper_machine.specs.BySteps.{names_of, whole, is_plain, found_alone, IsWholeBySteps, AreWholeBySteps}
use Rattle.piper_machine.proofs.BySteps.{named, left_of, IsValid, no_more, finish}
use Rattle.piper_machine.proofs.Going.{lends-some, comes-back}
use Rattle.piper_machine.proofs.Whole.{given-slice, failure-slice, fill-slice, try_fill-whole}

-- between two calls a side holds nothing of a call
abbrev pub HoldsNothing : Side → Pipe → Type 0
HoldsNothing Reader p = p.reader ≡ ReadPoint.Idle → (p.reader_call ≡ no_call) × (p.destination ≡ Slice 0)
HoldsNothing Writer p = p.writer ≡ WritePoint.Idle → (p.writer_call ≡ no_call) × (p.source ≡ [])

writer-idle : (point : WritePoint) → cannot_begin (writer_state point) ≡ None → point ≡ WritePoint.Idle
writer-idle point none = grind arith

idle-of : (side : Side) (p : Pipe) → cannot_begin (state_of side p) ≡ None → IsIdle side p
idle-of side p none = grind arith

rests-is : (side : Side) (p : Pipe) → HoldsNothing side p → IsIdle side p → p ≡ resting side p
rests-is side p holds point = grind arith

-- a call that has a step is opened
pub record IsOpened (c : Call) (lent others : List ℕ) (p : Pipe) : Type 0 where
  pub commutes : opened lent c p ≡ named p.woken (opened lent c (begun p))
  pub at_once : answer_at_once lent c ≡ None
  pub busy : state_of (side_of c) (opened lent c (begun p)) ≡ Busy
  pub valid : IsValid (side_of c) (opened lent c (begun p))
  pub rest : alone_of (side_of c) (opened lent c (begun p)) ≡ whole others c p
  pub unwoken : (opened lent c (begun p)).woken ≡ []
  pub few : left_of (side_of c) (opened lent c (begun p)) ≤ most_steps (found_alone (side_of c) p) c

is_lending : Call → Bool
is_lending (Call.WriteBuf most) = true
is_lending c = false

opens : (c : Call) (lent others : List ℕ) (r : Pipe) → is_lending c ≡ false → let p = resting (side_of c) r in IsSound p → past c p ≡ None → IsOpened c lent others p
unfolding is_lending
opens (Call.Query Reader query) lent others r stepped sound fits = record { commutes = refl; at_once = refl; busy = refl; valid = record { unread = sound.unread; start = sound.start; known = sound.known; store = omega arith }; rest = refl; unwoken = refl; few = omega arith }
opens (Call.IsClosed Reader) lent others r stepped sound fits = record { commutes = refl; at_once = refl; busy = refl; valid = record { unread = sound.unread; start = sound.start; known = sound.known; store = omega arith }; rest = refl; unwoken = refl; few = omega arith }
opens (Call.Poll Reader waker luck) lent others r stepped sound fits = grind arith
opens (Call.TryDrain size) lent others r stepped sound fits = grind arith
opens (Call.PollDrainBytes waker luck size) lent others r stepped sound fits = grind arith
opens (Call.PollDrain waker luck acts) lent others r stepped sound fits = grind arith
opens (Call.Consume n) lent others r stepped sound fits = grind arith
opens (Call.Drop Reader) lent others r stepped sound fits = record { commutes = refl; at_once = refl; busy = refl; valid = record { unread = sound.unread; start = sound.start; known = sound.known; store = omega arith }; rest = refl; unwoken = refl; few = omega arith }
opens (Call.WriteBuf most) lent others r stepped sound fits = absurd (cc)
opens (Call.Produced n) lent others r stepped sound fits = grind arith
opens (Call.Poll Writer waker luck) lent others r stepped sound fits = grind arith
opens (Call.TryFill bytes) lent others r stepped sound fits = record { commutes = refl; at_once = refl; busy = refl; valid = (record { unread = sound.unread; start = sound.start; room = sound.room; store = omega arith; shut = sound.closed; unclosed = λ saw. absurd (cc) }, refl); rest = try_fill-whole (SourceAct.Bytes bytes ∷ []) bytes (given-slice bytes) (failure-slice bytes) r; unwoken = refl; few = omega arith }
opens (Call.PollFillBytes waker luck bytes) lent others r stepped sound fits = record { commutes = refl; at_once = refl; busy = refl; valid = (record { unread = sound.unread; start = sound.start; room = sound.room; store = omega arith; shut = sound.closed; unclosed = λ saw. absurd (cc) }, refl); rest = fill-slice (SourceAct.Bytes bytes ∷ []) bytes (given-slice bytes) (failure-slice bytes) (context waker luck) r; unwoken = refl; few = omega arith }
opens (Call.PollFill waker luck acts) lent others r stepped sound fits = grind arith
opens c lent others r stepped sound fits = record { commutes = refl; at_once = refl; busy = refl; valid = (record { unread = sound.unread; start = sound.start; room = sound.room; store = omega arith; shut = sound.closed; unclosed = λ saw. absurd (cc) }, refl); rest = refl; unwoken = refl; few = omega arith }

-- of a call that is opened: its side is idle, and it asks for no more than there is
begins-idle : (c : Call) (p : Pipe) → refusal_of (Begin c) p ≡ None → cannot_begin (state_of (side_of c) p) ≡ None
begins-idle c p none = grind arith

begins-within : (c : Call) (p : Pipe) → refusal_of (Begin c) p ≡ None → past c p ≡ None
begins-within c p none = grind arith

is-opened : (c : Call) (lent others : List ℕ) (p : Pipe) → is_lending c ≡ false → IsSound p → HoldsNothing (side_of c) p → refusal_of (Begin c) p ≡ None → IsOpened c lent others p
is-opened c lent others p stepped sound holds accepted =
    let side = side_of c in
    let is = rests-is side p holds (idle-of side p (begins-idle c p accepted)) in
    subst (λ (r : Pipe). IsOpened c lent others r) (sym is) (opens c lent others p stepped (subst IsSound is sound) (subst (λ (r : Pipe). past c r ≡ None) is (begins-within c p accepted)))

-- a call that is not refused can be opened
opens-plain : (c : Call) (p : Pipe) (before : List Event) → is_lending c ≡ false → refusal_of (Begin c) p ≡ None → (q : Pipe) × (after : List Event) × Made p (Begin c) q before after
unfolding is_lending
opens-plain (Call.WriteBuf most) p before stepped accepted = absurd (cc)
opens-plain c p before stepped accepted = (opened [] c p, before ++ (began [] c p).events, record { accepted = accepted; made = record { lent = tt; pipe = refl; events = refl } })

makes : (c : Call) (p : Pipe) → is_lending c ≡ false → IsSound p → HoldsNothing (side_of c) p → IsWholeBySteps c p
makes c p stepped sound holds = record {
  opens = λ accepted before. opens-plain c p before stepped accepted;
  ends = λ k q before after run.
      let side = side_of c in
      let mid = run.0 in
      let made = run.2.made in
      let opening = is-opened c mid.lent [] p stepped sound holds run.2.accepted in
      let begins = subst (λ (r : Pipe). Runs r run.1 (replicate k (Go side)) q after) (made.pipe ∙ opening.commutes) run.3 in
      comes-back k side (opened mid.lent c (begun p)) p.woken run.1 after q opening.busy opening.valid begins;
  made = λ k q before after run ends.
      let side = side_of c in
      let mid = run.0 in
      let made = run.2.made in
      let opening = is-opened c mid.lent q.lent p stepped sound holds run.2.accepted in
      let begins = subst (λ (r : Pipe). Runs r run.1 (replicate k (Go side)) q after) (made.pipe ∙ opening.commutes) run.3 in
      let done = finish k side (opened mid.lent c (begun p)) p.woken run.1 after q opening.busy opening.valid begins ends in
      let began = Began side (kind_of c) (waker_of c) in
      let noted = done.log ++ Answered side (alone_of side (opened mid.lent c (begun p))).answer ∷ [] in
      let steps = done.steps in
      let few = opening.few in (
        omega arith,
        record {
          log = began ∷ done.log;
          events =
              done.events
              ∙ ap (λ (es : List Event). es ++ noted) (made.events ∙ ap (λ (answer : Option Answer). before ++ (began ∷ answer_event side answer)) opening.at_once)
              ∙ append_assoc before (began ∷ []) noted
              ∙ ap (λ (e : Ended). before ++ (began ∷ (done.log ++ Answered side e.answer ∷ []))) opening.rest;
          woken = sym (sym (ap (λ (e : Ended). e.pipe.woken) opening.rest) ∙ done.woken ∙ ap (λ (xs : List ℕ). xs ++ names_of done.log) opening.unwoken);
          pipe = done.pipe ∙ ap (λ (e : Ended). named p.woken e.pipe) opening.rest;
        },
      );
}

-- a call that neither copies nor lends, as it is opened to be run whole
pub record IsPlainOpened (c : Call) (p q : Pipe) : Type 0 where
  pub busy : state_of (side_of c) q ≡ Busy
  pub moves : is_copying (side_of c) q ≡ false
  pub wakes : length q.woken + wakes_of (side_of c) q ≤ 2
  pub rest : alone_of (side_of c) q ≡ whole [] c p

pub plain-opens : (c : Call) (p b q : Pipe) → is_plain c ≡ true → IsSound p → p ≡ resting (side_of c) p → past c p ≡ None → b ≡ begun p → q ≡ opened q.lent c b → IsPlainOpened c p q
plain-opens c p b q plain sound is fits begins opens_it = grind arith

-- a call of write_buf has no step
lends : (most : ℕ) (p : Pipe) → IsSound p → IsWholeBySteps (Call.WriteBuf most) p
lends most p sound = record {
  opens = λ accepted before.
      let can = lends-some most p sound.unread sound.start in
      let lent = replicate can.count 0 in
      let may = subst (λ (n : ℕ). Lendable most p n) (sym (length-replicate can.count 0)) can.may in
      (lending lent p, before ++ (began lent (Call.WriteBuf most) p).events, record { accepted = accepted; made = record { lent = may; pipe = refl; events = refl } });
  ends = λ k q before after run.
      let mid = run.0 in
      let idle = ap (λ (r : Pipe). r.writer) run.2.made.pipe ∙ writer-idle p.writer (begins-idle (Call.WriteBuf most) p run.2.accepted) in
      let over = no_more k Writer mid q run.1 after (subst (λ (point : WritePoint). cannot_go (writer_state point) ≡ None → ⊥) (sym idle) (λ none. absurd (cc))) run.3 in
      let rests = ap (λ (r : Pipe). r.writer) over.1 ∙ idle in
      record { steps = 0; pipe = q; after = after; runs = (refl, refl); returned = subst (λ (point : WritePoint). writer_state point ≡ Busy → ⊥) (sym rests) (λ busy. absurd (cc)) };
  made = λ k q before after run ends.
      let mid = run.0 in
      let made = run.2.made in
      let began = Began Writer (kind_of (Call.WriteBuf most)) None in
      let idle = ap (λ (r : Pipe). r.writer) made.pipe ∙ writer-idle p.writer (begins-idle (Call.WriteBuf most) p run.2.accepted) in
      let over = no_more k Writer mid q run.1 after (subst (λ (point : WritePoint). cannot_go (writer_state point) ≡ None → ⊥) (sym idle) (λ none. absurd (cc))) run.3 in
      let last = over.0 in (
        omega arith,
        record {
          log = began ∷ [];
          events = over.2 ∙ made.events ∙ ap (λ (r : Pipe). before ++ (began ∷ Answered Writer (Lent (length r.lent)) ∷ [])) (sym over.1);
          woken = refl;
          pipe = over.1 ∙ made.pipe ∙ ap (λ (r : Pipe). lending r.lent p) (sym over.1);
        },
      );
}

pub whole-by_steps : (c : Call) (p : Pipe) → IsSound p → HoldsNothing (side_of c) p → IsWholeBySteps c p
unfolding is_lending
whole-by_steps (Call.WriteBuf most) p sound holds = lends most p sound
whole-by_steps c p sound holds = makes c p refl sound holds

module _ (m : Inside) (i : IsMachine m) where
  holds-nothing : (side : Side) → HoldsNothing side (pipe_of m)
  holds-nothing side = grind arith

  pub by_steps : (p : Pipe) → pipe_of m ≡ p → AreWholeBySteps p
  by_steps p e = subst AreWholeBySteps e (λ c. whole-by_steps c (pipe_of m) (sound m i (pipe_of m) refl) (holds-nothing (side_of c)))

  pub rests : (side : Side) (p : Pipe) → pipe_of m ≡ p → IsIdle side p → p ≡ resting side p
  rests side p e idle = subst (λ (q : Pipe). IsIdle side q → q ≡ resting side q) e (rests-is side (pipe_of m) (holds-nothing side)) idle
