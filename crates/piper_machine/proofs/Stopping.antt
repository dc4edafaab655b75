-- At each step the writer publishes only where its call has not found the
-- pipe closed.
use Rattle.std.proofs.Common.{◌≡◌, ℕ, List, ◌∷◌, ◌++◌, Bool, true, false, refl, sym, subst, ◌∙◌, arith, []}
use Rattle.std.specs.Bool.{⊤}
use Rattle.piper_machine.specs.Types.{Step, Event, WritePoint, Writer, Published}
use Rattle.piper_machine.specs.Pipe.{Pipe, fresh}
use Rattle.piper_machine.specs.Step.{Stepped, stepped}
use Rattle.piper_machine.specs.Run.{Made}
use Rattle.piper_machine.specs.End.{saw_closed_after, saw_closed_from, saw_closed}
use Rattle.piper_machine.specs.StopsAtClose.{StopsAtClose}

abbrev StopsAtCloseAt : Bool → Event → Type 0
StopsAtCloseAt saw (Published bytes) = (saw ≡ false)
StopsAtCloseAt saw event = ⊤

abbrev StopsFrom : Bool → List Event → Type 0
StopsFrom saw [] = ⊤
StopsFrom saw (e ∷ es) = StopsAtCloseAt saw e × StopsFrom (saw_closed_after Writer saw e) es

saw-append : (saw : Bool) (es fs : List Event) → saw_closed_from Writer saw (es ++ fs) ≡ saw_closed_from Writer (saw_closed_from Writer saw es) fs
saw-append saw [] fs = refl
saw-append saw (e ∷ es) fs = saw-append (saw_closed_after Writer saw e) es fs

stops-append : (saw : Bool) (es fs : List Event) → StopsFrom saw es → StopsFrom (saw_closed_from Writer saw es) fs → StopsFrom saw (es ++ fs)
stops-append saw [] fs first then = then
stops-append saw (e ∷ es) fs first then = (first.0, stops-append (saw_closed_after Writer saw e) es fs first.1 then)

stopped-from : (saw : Bool) (before after : List Event) (bytes : List ℕ) → StopsFrom saw (before ++ Published bytes ∷ after) → saw_closed_from Writer saw before ≡ false
stopped-from saw [] after bytes stops = stops.0
stopped-from saw (e ∷ before) after bytes stops = stopped-from (saw_closed_after Writer saw e) before after bytes stops.1

-- where the writer comes before a publication
abbrev is_storing : WritePoint → Bool
is_storing (WritePoint.StoreTail n next) = true
is_storing point = false

-- a call of the writer forgets what the one before it saw; one of the reader leaves the writer as
-- it is
abbrev Adds : Bool → Stepped → Type 0
Adds saw new = StopsFrom saw new.events × (is_storing new.pipe.writer ≡ true → saw_closed_from Writer saw new.events ≡ false)

step-stops : (lent : List ℕ) (s : Step) (p : Pipe) (saw : Bool) → (is_storing p.writer ≡ true → saw ≡ false) → Adds saw (stepped lent s p)
step-stops lent s p saw stores = grind arith

pub record Stops (p : Pipe) (events : List Event) : Type 0 where
  pub so_far : StopsFrom false events
  pub stores : is_storing p.writer ≡ true → saw_closed Writer events ≡ false
  pub stops : StopsAtClose events

stops : (p : Pipe) (events : List Event) → StopsFrom false events → (is_storing p.writer ≡ true → saw_closed Writer events ≡ false) → Stops p events
stops p events so_far stores = record {
  so_far = so_far;
  stores = stores;
  stops = λ before after bytes parts. stopped-from false before after bytes (subst (λ (es : List Event). StopsFrom false es) parts so_far);
}

pub stops_none : (capacity : ℕ) → Stops (fresh capacity) []
stops_none capacity = stops (fresh capacity) [] tt (λ storing. absurd (cc))

pub stops_more : (p q : Pipe) (s : Step) (before after : List Event) → Stops p before → Made p s q before after → Stops q after
stops_more p q s before after kept made =
    let new = stepped q.lent s p in
    let es = before ++ new.events in
    let on = step-stops q.lent s p (saw_closed Writer before) kept.stores in
    let next : Stops new.pipe es = stops new.pipe es (stops-append false before new.events kept.so_far on.0) (λ storing. saw-append false before new.events ∙ on.1 storing) in
    subst (λ (fs : List Event). Stops q fs) (sym made.made.events) (subst (λ (x : Pipe). Stops x es) (sym made.made.pipe) next)
