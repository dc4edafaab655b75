-- Each call of the reader begins in the machine.
use Rattle.std.proofs.Common.{◌≡◌, ℕ, ◌-◌, List, ◌∷◌, ◌++◌, length, Bool, true, None, Some, ◌==◌, refl, ap, arith, []}
use Rattle.piper_machine.specs.Types.{Kind, ReadPoint, Call, Event, Luck, DestAct, SourceAct, Reader, Begin, Slice, Acts, Began}
use Rattle.piper_machine.specs.Pipe.{Pipe}
use Rattle.piper_machine.specs.Refusal.{reader_state, refusal_of, cannot_begin, or_else, past, unless}
use Rattle.piper_machine.specs.logs.Line.{Opening, polls, try_drains, try_drains_with, poll_drains_bytes, poll_drains, consumes, drops, began}
use Rattle.piper_machine.specs.logs.OneList.{Words}
use Rattle.piper_machine.specs.logs.Reading.{IsReaderNext, ReaderAt, reader_begun, shown}
use Rattle.piper_machine.specs.logs.Writing.{WriterAt}
use Rattle.piper_machine.proofs.logs.Joint.{Chance, Fits, number_of, pipe_at}
use Rattle.piper_machine.proofs.logs.Fitting.{sound}
use Rattle.piper_machine.proofs.logs.ReaderOpens.{good-draw, polls-at, tries-at, copies-at, stores-at, closes-at, within}
use Rattle.piper_machine.specs.declared.refusals.StepRefusal.TheVariants.{BadDraw, PastPeek}
use Rattle.piper_machine.specs.Step.{stepped}
use Rattle.piper_machine.specs.Look.{context}
use Rattle.piper_machine.specs.Open.{called_with}
use Rattle.piper_machine.specs.Call.{has_good_draw}
use Rattle.piper_machine.specs.Run.{Made}
use Rattle.piper_machine.proofs.logs.Leading.{ahead, leads-drains, Leads, leads-step}
use Rattle.piper_machine.proofs.logs.ReaderSteps.{ReaderLeads}

module _ (capacity : ℕ) (w : WriterAt) (l : Chance) (sources : List SourceAct) (r : ReaderAt) (s : Words) where
  abbrev at_first : Chance → List DestAct → Pipe
  at_first k acts = pipe_at capacity r w s k acts l sources

  module _ (fits : Fits capacity r w s) where
    opened : (k : Chance) (acts acts' : List DestAct) (opening : Opening) (c : Call) (kind : Event)
        → IsReaderNext capacity (began opening) r
        → refusal_of (Begin c) (at_first k acts') ≡ or_else (cannot_begin (reader_state (at_first k acts').reader)) (or_else (unless (has_good_draw c) BadDraw) (past c (at_first k acts')))
        → unless (has_good_draw c) BadDraw ≡ None → past c (at_first k acts') ≡ None
        → ((lent : List ℕ) → pipe_at capacity (reader_begun opening r) w s k acts l sources ≡ (stepped lent (Begin c) (at_first k acts')).pipe)
        → ((lent : List ℕ) → kind ∷ [] ≡ (stepped lent (Begin c) (at_first k acts')).events)
        → ((lent : List ℕ) (q : Pipe) → Rattle.piper_machine.specs.Step.MayLend lent (Begin c) q)
        → (before : List Event) → Made (at_first k acts') (Begin c) (pipe_at capacity (reader_begun opening r) w s k acts l sources) before (before ++ kind ∷ [])
    opened k acts acts' opening c kind next refusal draw past_none pipe events may before = grind arith

    opens : (k : Chance) (acts acts' : List DestAct) (opening : Opening) (c : Call) (kind : Event)
        → IsReaderNext capacity (began opening) r
        → refusal_of (Begin c) (at_first k acts') ≡ or_else (cannot_begin (reader_state (at_first k acts').reader)) (or_else (unless (has_good_draw c) BadDraw) (past c (at_first k acts')))
        → unless (has_good_draw c) BadDraw ≡ None → past c (at_first k acts') ≡ None
        → ((lent : List ℕ) → pipe_at capacity (reader_begun opening r) w s k acts l sources ≡ (stepped lent (Begin c) (at_first k acts')).pipe)
        → ((lent : List ℕ) → kind ∷ [] ≡ (stepped lent (Begin c) (at_first k acts')).events)
        → Fits capacity (reader_begun opening r) w s
        → ((lent : List ℕ) (q : Pipe) → Rattle.piper_machine.specs.Step.MayLend lent (Begin c) q)
        → Leads capacity (at_first k acts') (pipe_at capacity (reader_begun opening r) w s k acts l sources) (kind ∷ [])
    opens k acts acts' opening c kind next refusal draw past_none pipe events after may =
        leads-step capacity (Begin c) (at_first k acts') (pipe_at capacity (reader_begun opening r) w s k acts l sources) (kind ∷ []) (sound capacity _ w s k acts l sources after) (opened k acts acts' opening c kind next refusal draw past_none pipe events may)

    -- the luck of a call that begins
    abbrev new_luck : Chance → Luck
    new_luck k = record { draw = number_of k.draws; register_granted = k.registers; yield_granted = true }

    pub begins : (opening : Opening) → IsReaderNext capacity (began opening) r → Fits capacity (reader_begun opening r) w s → ReaderLeads capacity w l sources r s (began opening)
    begins (polls waker) next after k acts =
        let p : Pipe = at_first k acts in
        ahead k acts (opens k acts acts (polls waker) (Call.Poll Reader waker (new_luck k)) (Began Reader Kind.Poll (Some waker)) next refl
        (ap (λ (x : Bool). unless x BadDraw) (good-draw k.draws)) refl
        (λ lent. ap (λ (x : ReadPoint). record p { reader = x; reader_call = called_with (Some (context waker (new_luck k))) }) (polls-at (r.tail - r.head == 0) k.draws))
        (λ lent. refl) after (λ lent q. tt))
    begins (try_drains size) next after k acts =
        let p : Pipe = at_first k acts in
        ahead k acts (opens k acts acts (try_drains size) (Call.TryDrain size) (Began Reader Kind.TryDrain None) next refl
        refl refl
        (λ lent. ap (λ (x : ReadPoint). record p { reader = x; reader_call = called_with None; destination = Slice size }) (tries-at (r.tail - r.head == 0) k.draws))
        (λ lent. refl) after (λ lent q. tt))
    begins try_drains_with next after k acts =
        let p : Pipe = at_first k acts in
        let mid : Pipe = pipe_at capacity (reader_begun (try_drains 0) r) w s k acts l sources in
        ahead k acts (leads-drains capacity acts p mid (Began Reader Kind.TryDrain None ∷ []) (sound capacity _ w s k acts l sources after)
        (opened k acts acts (try_drains 0) (Call.TryDrain 0) (Began Reader Kind.TryDrain None) next refl refl refl
        (λ lent. ap (λ (x : ReadPoint). record p { reader = x; reader_call = called_with None; destination = Slice 0 }) (tries-at (r.tail - r.head == 0) k.draws))
        (λ lent. refl) (λ lent q. tt)))
    begins (poll_drains_bytes waker size) next after k acts =
        let p : Pipe = at_first k acts in
        ahead k acts (opens k acts acts (poll_drains_bytes waker size) (Call.PollDrainBytes waker (new_luck k) size) (Began Reader Kind.PollDrainBytes (Some waker)) next refl
        (ap (λ (x : Bool). unless x BadDraw) (good-draw k.draws)) refl
        (λ lent. ap (λ (x : ReadPoint). record p { reader = x; reader_call = called_with (Some (context waker (new_luck k))); destination = Slice size }) (copies-at (r.tail - r.head == 0) k.draws))
        (λ lent. refl) after (λ lent q. tt))
    begins (poll_drains waker) next after k acts =
        let p : Pipe = at_first k acts in
        ahead k acts (opens k acts acts (poll_drains waker) (Call.PollDrain waker (new_luck k) acts) (Began Reader Kind.PollDrain (Some waker)) next refl
        (ap (λ (x : Bool). unless x BadDraw) (good-draw k.draws)) refl
        (λ lent. ap (λ (x : ReadPoint). record p { reader = x; reader_call = called_with (Some (context waker (new_luck k))); destination = Acts acts }) (copies-at (r.tail - r.head == 0) k.draws))
        (λ lent. refl) after (λ lent q. tt))
    begins (consumes bytes) next after k acts =
        let p : Pipe = at_first k acts in
        ahead k acts (opens k acts acts (consumes bytes) (Call.Consume (length bytes)) (Began Reader Kind.Consume None) next refl
        refl (within (length bytes) (shown capacity r) PastPeek next.1)
        (λ lent. ap (λ (x : ReadPoint). record p { reader = x }) (stores-at r.calling.draw k.draws (length bytes)))
        (λ lent. refl) after (λ lent q. tt))
    begins drops next after k acts =
        let p : Pipe = at_first k acts in
        ahead k acts (opens k acts acts drops (Call.Drop Reader) (Began Reader Kind.Drop None) next refl
        refl refl
        (λ lent. ap (λ (x : ReadPoint). record p { reader = x }) (closes-at r.calling.draw k.draws))
        (λ lent. refl) after (λ lent q. tt))
    begins opening next after k acts = absurd next.1
