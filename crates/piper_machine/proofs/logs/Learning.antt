-- The laws of a run that hold however much a side knows, and though it empties its slot to register.
use Rattle.std.proofs.Common.{◌≡◌, ℕ, ◌-◌, ◌≤◌, List, ◌∷◌, ◌++◌, length, Bool, true, false, Option, None, refl, sym, ap, subst, ◌∙◌, arith, []}
use Rattle.piper_machine.specs.Types.{Action, Call, Side, Step, DestAct, SourceAct, Destination, Event, Reader, Writer, Begin, Acts}
use Rattle.piper_machine.specs.Action.{index_loaded_by, with_waker_in}
use Rattle.piper_machine.specs.Conservation.{IsConserved}
use Rattle.piper_machine.specs.Pipe.{Pipe, fresh}
use Rattle.piper_machine.specs.Refusal.{IsIdle}
use Rattle.piper_machine.specs.Run.{Made}
use Rattle.piper_machine.specs.Sound.{IsSound}
use Rattle.piper_machine.specs.Step.{action_of}
use Rattle.piper_machine.proofs.Conserving.{conserved-step}
use Rattle.piper_machine.proofs.Finality.{Final, final_none, final_more}
use Rattle.piper_machine.proofs.Fronts.{conserved_none, sound-fresh}
use Rattle.piper_machine.proofs.Honesty.{Honest, honest_none, honest_more}
use Rattle.piper_machine.proofs.Keeping.{Keeps, keeps_none, keeps_more}
use Rattle.piper_machine.proofs.Remembering.{Remembers, remembers_none, remembers_more}
use Rattle.piper_machine.proofs.Stopping.{Stops, stops_none, stops_more}
use Rattle.piper_machine.specs.logs.Wide.{Act, makes, learns, withdraws, drains, fills, IsSafe, RunsWith}

-- a pipe of which the sides know so much, with these slots, and this destination and source
abbrev varied : ℕ → ℕ → Option ℕ → Option ℕ → Destination → List SourceAct → Pipe → Pipe
varied known room reads writes destination script p = record p { known = known; room = room; reader_waker = reads; writer_waker = writes; destination = destination; source = script }

module _ (known room : ℕ) (destination : Destination) (script : List SourceAct) (p : Pipe) where
  abbrev spread : Pipe
  spread = varied known room p.reader_waker p.writer_waker destination script p

  remembers-still : (events : List Event) → Remembers p events → Remembers spread events
  remembers-still events h = grind arith

module _ (known room : ℕ) (reads writes : Option ℕ) (destination : Destination) (script : List SourceAct) (p : Pipe) (events : List Event) where
  final-still : Final p events → Final (varied known room reads writes destination script p) events
  final-still h = grind arith

  honest-still : Honest p events → Honest (varied known room reads writes destination script p) events
  honest-still h = record { honest = h.honest; aware = record { flag = h.aware.flag; saw = h.aware.saw } }

  stops-still : Stops p events → Stops (varied known room reads writes destination script p) events
  stops-still h = record { so_far = h.so_far; stores = h.stores; stops = h.stops }

  conserved-still : IsConserved p events → IsConserved (varied known room reads writes destination script p) events
  conserved-still h = record { bytes = h.bytes; start = h.start }

-- a side that is about to register does not wait: nothing is promised of its own slot

remembers-withdrawn : (side : Side) (p : Pipe) (events : List Event) → action_of side p ≡ Action.Register → Remembers p events → Remembers (with_waker_in side None p) events
remembers-withdrawn side p events to h = grind arith

-- the acts

abbrev pub is_wide : List Act → Bool
is_wide [] = false
is_wide (makes s ∷ acts) = is_wide acts
is_wide (act ∷ acts) = true

abbrev pub steps_in : List Act → List Step
steps_in [] = []
steps_in (makes s ∷ acts) = s ∷ steps_in acts
steps_in (act ∷ acts) = steps_in acts

pub wide-same : (acts : List Act) (s : Step) → is_wide (acts ++ makes s ∷ []) ≡ is_wide acts
wide-same [] s = refl
wide-same (makes t ∷ acts) s = wide-same acts s
wide-same (act ∷ acts) s = refl

pub wide-now : (acts : List Act) (act : Act) → is_wide (act ∷ []) ≡ true → is_wide (acts ++ act ∷ []) ≡ true
wide-now [] act wide = wide
wide-now (makes t ∷ acts) act wide = wide-now acts act wide
wide-now (other ∷ acts) act wide = refl

steps-more : (acts : List Act) (s : Step) → steps_in (acts ++ makes s ∷ []) ≡ steps_in acts ++ s ∷ []
steps-more [] s = refl
steps-more (makes t ∷ acts) s = ap (λ (x : List Step). t ∷ x) (steps-more acts s)
steps-more (act ∷ acts) s = steps-more acts s

-- a run goes on
runs-more : (p q r : Pipe) (acts rest : List Act) (before mid after : List Event) → RunsWith p before acts q mid → RunsWith q mid rest r after → RunsWith p before (acts ++ rest) r after
runs-more p q r [] rest before mid after run more = subst (λ (es : List Event). RunsWith p es rest r after) run.1 (subst (λ (x : Pipe). RunsWith x mid rest r after) run.0 more)
runs-more p q r (makes t ∷ acts) rest before mid after run more = (run.0, run.1, run.2, runs-more run.0 q r acts rest run.1 mid after run.3 more)
runs-more p q r (learns side ∷ acts) rest before mid after run more = (run.0, runs-more (index_loaded_by side p) q r acts rest before mid after run.1 more)
runs-more p q r (withdraws side ∷ acts) rest before mid after run more = (run.0, runs-more (with_waker_in side None p) q r acts rest before mid after run.1 more)
runs-more p q r (drains script ∷ acts) rest before mid after run more = (run.0, run.1, run.2, runs-more (record run.0 { destination = Acts script }) q r acts rest run.1 mid after run.3 more)
runs-more p q r (fills script ∷ acts) rest before mid after run more = (run.0, run.1, run.2, runs-more (record run.0 { source = script }) q r acts rest run.1 mid after run.3 more)

pub record Kept (capacity : ℕ) (acts : List Act) (p : Pipe) (events : List Event) : Type 0 where
  pub runs : RunsWith (fresh capacity) [] acts p events
  pub sound : IsSound p
  pub conserved : IsConserved p events
  pub honest : Honest p events
  pub final : Final p events
  pub stops : Stops p events
  pub remembers : Remembers p events
  -- if nobody learned, all laws
  pub plain : is_wide acts ≡ false → Keeps capacity (steps_in acts) p events

pub kept-none : (capacity : ℕ) → 1 ≤ capacity → Kept capacity [] (fresh capacity) []
kept-none capacity some = record {
  runs = (refl, refl);
  sound = sound-fresh capacity some;
  conserved = conserved_none capacity;
  honest = honest_none capacity;
  final = final_none capacity;
  stops = stops_none capacity;
  remembers = remembers_none capacity;
  plain = λ x. keeps_none capacity some;
}

pub kept-step : (capacity : ℕ) (acts : List Act) (s : Step) (p q : Pipe) (before after : List Event) → IsSound q → Kept capacity acts p before → Made p s q before after → Kept capacity (acts ++ makes s ∷ []) q after
kept-step capacity acts s p q before after sound kept made = record {
  runs = runs-more (fresh capacity) p q acts (makes s ∷ []) [] before after kept.runs (q, after, made, (refl, refl));
  sound = sound;
  conserved = conserved-step p q s before after kept.sound kept.conserved made;
  honest = honest_more p q s before after kept.honest made;
  final = final_more p q s before after kept.sound kept.honest kept.final made;
  stops = stops_more p q s before after kept.stops made;
  remembers = remembers_more p q s before after kept.sound kept.remembers made;
  plain = λ none. subst (λ (ss : List Step). Keeps capacity ss q after) (sym (steps-more acts s))
      (keeps_more capacity (steps_in acts) s p q before after kept.sound sound (kept.plain (sym (wide-same acts s) ∙ none)) made);
}

-- an act that the machine does not have changes no more than this
kept-varied : (capacity known room : ℕ) (reads writes : Option ℕ) (destination : Destination) (script : List SourceAct) (acts : List Act) (act : Act) (p mid : Pipe) (before after : List Event) → is_wide (act ∷ []) ≡ true
    → let q = varied known room reads writes destination script mid in
    IsSound q → Kept capacity acts p before → RunsWith p before (act ∷ []) q after
    → IsConserved mid after → Honest mid after → Final mid after → Stops mid after → Remembers q after
    → Kept capacity (acts ++ act ∷ []) q after
kept-varied capacity known room reads writes destination script acts act p mid before after wide sound kept runs conserved honest final stops remembers = record {
  runs = runs-more (fresh capacity) p (varied known room reads writes destination script mid) acts (act ∷ []) [] before after kept.runs runs;
  sound = sound;
  conserved = conserved-still known room reads writes destination script mid after conserved;
  honest = honest-still known room reads writes destination script mid after honest;
  final = final-still known room reads writes destination script mid after final;
  stops = stops-still known room reads writes destination script mid after stops;
  remembers = remembers;
  plain = λ none. absurd (let no : true ≡ false = sym (wide-now acts act wide) ∙ none in cc);
}

pub kept-learned : (capacity : ℕ) (acts : List Act) (side : Side) (p : Pipe) (events : List Event) → IsSound (index_loaded_by side p) → IsIdle side p → Kept capacity acts p events → Kept capacity (acts ++ learns side ∷ []) (index_loaded_by side p) events
kept-learned capacity acts Reader p events sound idle kept =
    kept-varied capacity (length p.unread) p.room p.reader_waker p.writer_waker p.destination p.source acts (learns Reader) p p events events refl sound kept (idle, (refl, refl)) kept.conserved kept.honest kept.final kept.stops
    (remembers-still (length p.unread) p.room p.destination p.source p events kept.remembers)
kept-learned capacity acts Writer p events sound idle kept =
    kept-varied capacity p.known (p.capacity - length p.unread) p.reader_waker p.writer_waker p.destination p.source acts (learns Writer) p p events events refl sound kept (idle, (refl, refl)) kept.conserved kept.honest kept.final kept.stops
    (remembers-still p.known (p.capacity - length p.unread) p.destination p.source p events kept.remembers)

pub kept-withdrawn : (capacity : ℕ) (acts : List Act) (side : Side) (p : Pipe) (events : List Event) → IsSound (with_waker_in side None p) → action_of side p ≡ Action.Register → Kept capacity acts p events → Kept capacity (acts ++ withdraws side ∷ []) (with_waker_in side None p) events
kept-withdrawn capacity acts Reader p events sound to kept =
    kept-varied capacity p.known p.room None p.writer_waker p.destination p.source acts (withdraws Reader) p p events events refl sound kept (to, (refl, refl)) kept.conserved kept.honest kept.final kept.stops
    (remembers-withdrawn Reader p events to kept.remembers)
kept-withdrawn capacity acts Writer p events sound to kept =
    kept-varied capacity p.known p.room p.reader_waker None p.destination p.source acts (withdraws Writer) p p events events refl sound kept (to, (refl, refl)) kept.conserved kept.honest kept.final kept.stops
    (remembers-withdrawn Writer p events to kept.remembers)

module _ (capacity : ℕ) (acts : List Act) (p mid : Pipe) (before after : List Event) (kept : Kept capacity acts p before) where
  pub kept-drains : (script : List DestAct) → IsSound (record mid { destination = Acts script }) → Made p (Begin (Call.TryDrain 0)) mid before after → Kept capacity (acts ++ drains script ∷ []) (record mid { destination = Acts script }) after
  kept-drains script sound made =
      let s : Step = Begin (Call.TryDrain 0) in
      kept-varied capacity mid.known mid.room mid.reader_waker mid.writer_waker (Acts script) mid.source acts (drains script) p mid before after refl sound kept (mid, after, made, (refl, refl))
      (conserved-step p mid s before after kept.sound kept.conserved made) (honest_more p mid s before after kept.honest made) (final_more p mid s before after kept.sound kept.honest kept.final made)
      (stops_more p mid s before after kept.stops made) (remembers-still mid.known mid.room (Acts script) mid.source mid after (remembers_more p mid s before after kept.sound kept.remembers made))

  pub kept-fills : (script : List SourceAct) → IsSound (record mid { source = script }) → Made p (Begin (Call.TryFill [])) mid before after → Kept capacity (acts ++ fills script ∷ []) (record mid { source = script }) after
  kept-fills script sound made =
      let s : Step = Begin (Call.TryFill []) in
      kept-varied capacity mid.known mid.room mid.reader_waker mid.writer_waker mid.destination script acts (fills script) p mid before after refl sound kept (mid, after, made, (refl, refl))
      (conserved-step p mid s before after kept.sound kept.conserved made) (honest_more p mid s before after kept.honest made) (final_more p mid s before after kept.sound kept.honest kept.final made)
      (stops_more p mid s before after kept.stops made) (remembers-still mid.known mid.room mid.destination script mid after (remembers_more p mid s before after kept.sound kept.remembers made))

pub safe-of : (capacity : ℕ) (acts : List Act) (p : Pipe) (events : List Event) → Kept capacity acts p events → IsSafe p events
safe-of capacity acts p events kept = grind arith
