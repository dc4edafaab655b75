-- An end that was found, kept along a log, and what that says of each moment of the log.
use Rattle.std.proofs.Common.{◌≡◌, ℕ, zero, List, ◌∷◌, ◌++◌, Bool, true, false, refl, ap, subst, ◌∙◌, arith, []}
use Rattle.std.specs.Bool.{⊤}
use Rattle.std.specs.List.{All}
use Rattle.std.proofs.lemmas.List.Elements.{All-nil, All-cons}
use Rattle.piper_machine.specs.Types.{Event, Reader, Looked, Answered, Ready}
use Rattle.piper_protocol.specs.declared.answer.Answer.TheVariants.{Poll}
use Rattle.piper_machine.specs.declared.events.Seen.TheVariants.{Tail}
use Rattle.piper_machine.specs.End.{saw_closed_after, saw_closed_from, found_none}
use Rattle.piper_machine.specs.Final.{IsAfterEnd}

-- whether an end was found, by a look at the tail after one that saw the pipe closed, or was
-- reported by a poll

abbrev pub found_at_tail : Bool → ℕ → Bool → Bool
found_at_tail true zero ended = true
found_at_tail saw unread ended = ended

abbrev pub ended_after : Bool → Bool → Event → Bool
ended_after saw ended (Looked Reader (Tail unread)) = found_at_tail saw unread ended
ended_after saw ended (Answered Reader (Poll (Ready false))) = true
ended_after saw ended event = ended

abbrev pub ended_from : Bool → Bool → List Event → Bool
ended_from saw ended [] = ended
ended_from saw ended (e ∷ es) = ended_from (saw_closed_after Reader saw e) (ended_after saw ended e) es

abbrev pub IsFinalFrom : Bool → Bool → List Event → Type 0
IsFinalFrom saw ended [] = ⊤
IsFinalFrom saw ended (e ∷ es) = (ended ≡ true → IsAfterEnd e) × IsFinalFrom (saw_closed_after Reader saw e) (ended_after saw ended e) es

pub saw-append : (saw : Bool) (es fs : List Event) → saw_closed_from Reader saw (es ++ fs) ≡ saw_closed_from Reader (saw_closed_from Reader saw es) fs
saw-append saw [] fs = refl
saw-append saw (e ∷ es) fs = saw-append (saw_closed_after Reader saw e) es fs

pub ended-append : (saw ended : Bool) (es fs : List Event) → ended_from saw ended (es ++ fs) ≡ ended_from (saw_closed_from Reader saw es) (ended_from saw ended es) fs
ended-append saw ended [] fs = refl
ended-append saw ended (e ∷ es) fs = ended-append (saw_closed_after Reader saw e) (ended_after saw ended e) es fs

pub final-append : (saw ended : Bool) (es fs : List Event) → IsFinalFrom saw ended es → IsFinalFrom (saw_closed_from Reader saw es) (ended_from saw ended es) fs → IsFinalFrom saw ended (es ++ fs)
final-append saw ended [] fs first then = then
final-append saw ended (e ∷ es) fs first then = (first.0, final-append (saw_closed_after Reader saw e) (ended_after saw ended e) es fs first.1 then)

-- what that says of every moment of a log

still-ended : (saw : Bool) (e : Event) → ended_after saw true e ≡ true
still-ended saw e = grind arith

after-end : (saw : Bool) (es : List Event) → IsFinalFrom saw true es → All IsAfterEnd es × (ended_from saw true es ≡ true)
after-end saw [] h = (All-nil IsAfterEnd, refl)
after-end saw (e ∷ es) h =
    let on = after-end (saw_closed_after Reader saw e) es (subst (λ (b : Bool). IsFinalFrom (saw_closed_after Reader saw e) b es) (still-ended saw e) h.1) in
    (All-cons IsAfterEnd e es (h.0 refl) on.0, ap (λ (b : Bool). ended_from (saw_closed_after Reader saw e) b es) (still-ended saw e) ∙ on.1)

-- after an event with which an end was found
pub final-after : (saw ended : Bool) (before after : List Event) (e : Event) → ended_after (saw_closed_from Reader saw before) (ended_from saw ended before) e ≡ true
    → IsFinalFrom saw ended (before ++ e ∷ after) → All IsAfterEnd after × (ended_from saw ended (before ++ e ∷ after) ≡ true)
final-after saw ended [] after e here h =
    let on = after-end (saw_closed_after Reader saw e) after (subst (λ (b : Bool). IsFinalFrom (saw_closed_after Reader saw e) b after) here h.1) in
    (on.0, ap (λ (b : Bool). ended_from (saw_closed_after Reader saw e) b after) here ∙ on.1)
final-after saw ended (first ∷ before) after e here h = final-after (saw_closed_after Reader saw first) (ended_after saw ended first) before after e here h.1

-- a look that finds none after one that saw the pipe closed is such an event
pub found-here : (saw ended : Bool) → saw ≡ true → ended_after saw ended found_none ≡ true
found-here saw ended seen = grind arith
