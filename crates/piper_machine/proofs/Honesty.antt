-- Each step keeps the honest end: what the reader knows of the close it read off the pipe, before
-- its last look.
use Rattle.std.proofs.Common.{◌≡◌, ℕ, List, ◌∷◌, ◌++◌, Bool, true, false, Option, None, Some, refl, sym, subst, arith, []}
use Rattle.piper_machine.specs.Types.{Step, Event, Action, ReadPoint, Reader, Writer}
use Rattle.piper_protocol.specs.Table.{read_action}
use Rattle.piper_machine.specs.Pipe.{Pipe, fresh}
use Rattle.piper_machine.specs.Action.{performed, logged_of}
use Rattle.piper_machine.specs.Step.{stepped}
use Rattle.piper_machine.specs.Run.{Made}
use Rattle.piper_machine.specs.History.{History, unwritten, history_after, history_from}
use Rattle.piper_machine.specs.Honest.{IsHonestFrom, IsHonest}

history-append : (h : History) (es fs : List Event) → history_from h (es ++ fs) ≡ history_from (history_from h es) fs
history-append h [] fs = refl
history-append h (e ∷ es) fs = history-append (history_after h e) es fs

honest-append : (h : History) (es fs : List Event) → IsHonestFrom h es → IsHonestFrom (history_from h es) fs → IsHonestFrom h (es ++ fs)
honest-append h [] fs first then = then
honest-append h (e ∷ es) fs first then = (first.0, honest-append (history_after h e) es fs first.1 then)

-- what the reader loaded of the flag, between this load and its last look
abbrev pub loaded : ReadPoint → Option Bool
loaded (ReadPoint.LookTailAgain l was_closed) = Some was_closed
loaded point = None

-- it is there, and the flag was set
abbrev pub is_set : Option Bool → Bool
is_set (Some is_closed) = is_closed
is_set None = false

abbrev pub saw_close : ReadPoint → Bool
saw_close point = is_set (loaded point)

-- what the reader returns where it is, after the events of its step
abbrev noted : History → ReadPoint → Pipe → History
noted h point p = history_from h (logged_of Reader (read_action point) p)

-- what the log says of the flag is so, and what the reader carries of it, too
pub record Aware (p : Pipe) (h : History) : Type 0 where
  pub flag : h.is_closed ≡ p.is_closed
  pub saw : saw_close p.reader ≡ true → p.is_closed ≡ true

pub writer-flag : (action : Action) (p : Pipe) → p.is_closed ≡ true → (performed Writer action p).is_closed ≡ true
writer-flag action p closed = grind arith

step-honest : (lent : List ℕ) (s : Step) (p : Pipe) (h : History) → Aware p h
    → let new = stepped lent s p in IsHonestFrom h new.events × Aware new.pipe (history_from h new.events)
step-honest lent s p h aware = grind arith

pub record Honest (p : Pipe) (events : List Event) : Type 0 where
  pub honest : IsHonest events
  pub aware : Aware p (history_from unwritten events)

pub honest_none : (capacity : ℕ) → Honest (fresh capacity) []
honest_none capacity = record { honest = tt; aware = record { flag = refl; saw = λ saw. absurd (cc) } }

pub honest_more : (p q : Pipe) (s : Step) (before after : List Event) → Honest p before → Made p s q before after → Honest q after
honest_more p q s before after kept made =
    let new = stepped q.lent s p in
    let noted = step-honest q.lent s p (history_from unwritten before) kept.aware in
    let next : Honest new.pipe (before ++ new.events) = record {
      honest = honest-append unwritten before new.events kept.honest noted.0;
      aware = subst (λ (k : History). Aware new.pipe k) (sym (history-append unwritten before new.events)) noted.1;
    } in
    subst (λ es. Honest q es) (sym made.made.events) (subst (λ (x : Pipe). Honest x (before ++ new.events)) (sym made.made.pipe) next)
