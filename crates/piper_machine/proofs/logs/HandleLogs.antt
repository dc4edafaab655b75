-- The log of a handle is a list of runs of the call table, if each of its notes leads on: the same of
-- both sides.
use Rattle.std.proofs.Common.{◌≡◌, ℕ, suc, ◌==◌, List, ◌∷◌, Bool, true, false, sym, subst, []}
use Rattle.std.specs.Bool.{⊤}
use Rattle.piper_machine.specs.Types.{Action, Found, ReadPoint, Side}
use Rattle.piper_protocol.specs.declared.log.Note.{Note}
use Rattle.piper_protocol.specs.declared.table.Point.{Point}
use Rattle.piper_protocol.specs.Lines as handle
use Rattle.piper_protocol.specs.OneList as shared
use Rattle.piper_protocol.specs.Table.{Next, goes_on}
use Rattle.piper_protocol.specs.Told.{IsTrueLog, alike, are_calls, are_told, begins, fits, is_made, is_settled, known_in, may_draw, passes, rests, tickets_in}
use Rattle.piper_machine.specs.logs.Line.{Line, began, drew}
use Rattle.piper_machine.specs.logs.Listed.{line_of}
use Rattle.piper_machine.specs.logs.OfHandles.{given_by, line_made, line_met, lines_in, lines_with, opening_at}
use Rattle.piper_machine.proofs.logs.HandleCalls.{draw-acts, first-of, fits-acts, goes, goes-settled, is_dead, made-acts, pass-acts, rests-alive, rests-settled, second-of}

-- where a side is after these lines, and whether each may come next
module _ (State : Type 0) (first : State) (after : Line → State → State) where
  abbrev pub state_at : List Line → State
  state_at [] = first
  state_at (line ∷ before) = after line (state_at before)

  abbrev pub AreRuns : (Line → State → Type 0) → List Line → Type 0
  AreRuns IsNext [] = ⊤
  AreRuns IsNext (line ∷ before) = IsNext line (state_at before) × AreRuns IsNext before

-- a note leads on: the line may come next, and where it leads is as the log says, if the table has it
abbrev Follows : (State : Type 0) → (after : Line → State → State) → (IsNext : Line → State → Type 0) → (point_of : State → Point) → (IsAt : List handle.Line → List ℕ → State → Type 0)
    → List handle.Line → List ℕ → Line → Next Point → State → Type 0
Follows State after IsNext point_of IsAt lines given line next s = IsNext line s × (is_dead next ≡ false → (next.point ≡ point_of (after line s)) × IsAt lines given (after line s))

-- `Meets` says that the log and the side are at one point, and `IsAt` that the side is as these lines
-- say, if the next store moves these bytes
module _ (capacity : ℕ) (own : Side) (State : Type 0) (first : State) (after : Line → State → State) (IsNext : Line → State → Type 0) (point_of : State → Point) (Meets : Point → State → Type 0) (IsAt : List handle.Line → List ℕ → State → Type 0)
    (first-meets : Meets (Point.Reader ReadPoint.Idle) first)
    (first-is : (given : List ℕ) → IsAt [] given first)
    (acting : (p : Point) (s : State) → Meets p s → (handle.action p ≡ Action.Rest → ⊥) → p ≡ point_of s)
    (meets : (p : Point) (s : State) → p ≡ point_of s → Meets p s)
    (told : (s : State) (before : List handle.Line) (given : List ℕ) (a : shared.Access) (f : Found) → (handle.comes_to before).point ≡ point_of s → fits capacity own before (handle.action (point_of s)) a f ≡ true → IsAt before (given_by given a) s
    → Follows State after IsNext point_of IsAt (handle.note (Note.Told f) ∷ handle.access a ∷ before) given (line_of a) (handle.step (point_of s) f) s)
    (passed : (s : State) (before : List handle.Line) (given : List ℕ) (a : shared.Access) → (handle.comes_to before).point ≡ point_of s → passes own before (handle.action (point_of s)) a ≡ true → IsAt before (given_by given a) s
    → IsNext (line_of a) s × ((point_of s ≡ point_of (after (line_of a) s)) × IsAt (handle.note Note.Passed ∷ handle.access a ∷ before) given (after (line_of a) s)))
    (looked : (s : State) (before : List handle.Line) (given : List ℕ) (a : shared.Access) (none is_closed : Bool) → (handle.comes_to before).point ≡ point_of s → alike none (known_in capacity own before == 0) ≡ true → fits capacity own before (handle.action (point_of s)) a (Found.Flag is_closed) ≡ true → IsAt before (given_by given a) s
    → Follows State after IsNext point_of IsAt (handle.note (Note.ClosedLoaded none is_closed) ∷ handle.access a ∷ before) given (line_of a) (handle.looks none is_closed (point_of s)) s)
    (made : (s : State) (before : List handle.Line) (given : List ℕ) (f : Found) → (handle.comes_to before).point ≡ point_of s → is_made capacity own before (handle.action (point_of s)) f ≡ true → IsAt before given s
    → Follows State after IsNext point_of IsAt (handle.note (Note.Made f) ∷ before) given (line_made given before (handle.action (point_of s)) f) (handle.step (point_of s) f) s)
    (draws : (s : State) (before : List handle.Line) (given : List ℕ) (is_drawn : Bool) → may_draw (point_of s) before ≡ true → IsAt before given s
    → IsNext (drew is_drawn) s × ((handle.drawn is_drawn (point_of s) ≡ point_of (after (drew is_drawn) s)) × IsAt (handle.note (Note.Drew is_drawn) ∷ before) given (after (drew is_drawn) s)))
    (begun : (s : State) (before : List handle.Line) (given : List ℕ) (start : Point) → Meets (handle.comes_to before).point s → rests (handle.comes_to before) ≡ true → begins capacity own start before ≡ true → IsAt before given s
    → let line = began (opening_at (suc (tickets_in before)) given start) in IsNext line s × ((start ≡ point_of (after line s)) × IsAt (handle.note (Note.Began start) ∷ before) given (after line s)))
    (learnt : (s : State) (before : List handle.Line) (given : List ℕ) (count : ℕ) → Meets (handle.comes_to before).point s → rests (handle.comes_to before) ≡ true → IsAt before given s
    → IsNext (line_met own count) s × Meets (handle.comes_to before).point (after (line_met own count) s) × IsAt (handle.met count ∷ before) given (after (line_met own count) s))
  where
    abbrev at_last : List Line → State
    at_last lines = state_at State first after lines

    abbrev Led : List handle.Line → List ℕ → List Line → Next Point → Type 0
    Led lines given rest next = AreRuns State first after IsNext rest × (is_dead next ≡ false → Meets next.point (at_last rest) × IsAt lines given (at_last rest))

    reached : (lines : List handle.Line) (given : List ℕ) (line : Line) (rest : List Line) (next : Next Point) → AreRuns State first after IsNext rest → Follows State after IsNext point_of IsAt lines given line next (at_last rest) → Led lines given (line ∷ rest) next
    reached lines given line rest next runs follows = ((follows.0, runs), λ alive. let there = follows.1 alive in (meets next.point (at_last (line ∷ rest)) there.0, there.1))

    leads : (lines : List handle.Line) (given : List ℕ) → are_told capacity own lines ≡ true → are_calls lines ≡ true → is_settled lines ≡ true → Led lines given (lines_with own given lines) (handle.comes_to lines)
    unfolding are_told are_calls
    leads [] given truth calls settled = (tt, λ alive. (first-meets, first-is given))
    leads (handle.access a ∷ before) given truth calls settled = absurd (let no : false ≡ true = settled in cc)
    leads (handle.met count ∷ before) given truth calls settled =
        let resting = first-of (rests (handle.comes_to before)) (are_calls before) calls in
        let ih = leads before given truth (second-of (rests (handle.comes_to before)) (are_calls before) calls) (rests-settled before resting) in
        let led = ih.1 (rests-alive (handle.comes_to before) resting) in
        let there = learnt (at_last (lines_with own given before)) before given count led.0 resting led.1 in
        ((there.0, ih.0), λ alive. (there.1, there.2))
    leads (handle.note (Note.Began start) ∷ before) given truth calls settled =
        let resting = first-of (rests (handle.comes_to before)) (are_calls before) calls in
        let may = first-of (begins capacity own start before) (are_told capacity own before) truth in
        let ih = leads before given (second-of (begins capacity own start before) (are_told capacity own before) truth) (second-of (rests (handle.comes_to before)) (are_calls before) calls) (rests-settled before resting) in
        let led = ih.1 (rests-alive (handle.comes_to before) resting) in
        let rest : List Line = lines_with own given before in
        let there = begun (at_last rest) before given start led.0 resting may led.1 in
        let line : Line = began (opening_at (suc (tickets_in before)) given start) in
        ((there.0, ih.0), λ alive. (meets start (at_last (line ∷ rest)) there.1.0, there.1.1))
    leads (handle.note (Note.Made f) ∷ before) given truth calls settled =
        let p : Point = (handle.comes_to before).point in
        let fit = first-of (is_made capacity own before (handle.action p) f) (are_told capacity own before) truth in
        let acts : handle.action p ≡ Action.Rest → ⊥ = made-acts capacity own before (handle.action p) f fit in
        let ih = leads before given (second-of (is_made capacity own before (handle.action p) f) (are_told capacity own before) truth) calls (goes-settled before acts) in
        let led = ih.1 (goes (handle.comes_to before) acts) in
        let rest : List Line = lines_with own given before in
        let s : State = at_last rest in
        let lines : List handle.Line = handle.note (Note.Made f) ∷ before in
        let e : p ≡ point_of s = acting p s led.0 acts in
        subst (λ (q : Point). Led lines given (line_made given before (handle.action q) f ∷ rest) (handle.step q f)) (sym e)
        (reached lines given (line_made given before (handle.action (point_of s)) f) rest (handle.step (point_of s) f) ih.0 (made s before given f e (subst (λ (q : Point). is_made capacity own before (handle.action q) f ≡ true) e fit) led.1))
    leads (handle.note (Note.Drew is_drawn) ∷ before) given truth calls settled =
        let p : Point = (handle.comes_to before).point in
        let may = first-of (may_draw p before) (are_told capacity own before) truth in
        let acts : handle.action p ≡ Action.Rest → ⊥ = draw-acts p before may in
        let ih = leads before given (second-of (may_draw p before) (are_told capacity own before) truth) calls (goes-settled before acts) in
        let led = ih.1 (goes (handle.comes_to before) acts) in
        let rest : List Line = lines_with own given before in
        let s : State = at_last rest in
        let lines : List handle.Line = handle.note (Note.Drew is_drawn) ∷ before in
        let e : p ≡ point_of s = acting p s led.0 acts in
        let there = draws s before given is_drawn (subst (λ (q : Point). may_draw q before ≡ true) e may) led.1 in
        subst (λ (q : Point). Led lines given (drew is_drawn ∷ rest) (goes_on (handle.drawn is_drawn q))) (sym e)
        (reached lines given (drew is_drawn) rest (goes_on (handle.drawn is_drawn (point_of s))) ih.0 (there.0, λ alive. there.1))
    leads (handle.note (Note.Told f) ∷ handle.access a ∷ before) given truth calls settled =
        let p : Point = (handle.comes_to before).point in
        let fit = first-of (fits capacity own before (handle.action p) a f) (are_told capacity own before) truth in
        let acts : handle.action p ≡ Action.Rest → ⊥ = fits-acts capacity own before (handle.action p) a f fit in
        let ih = leads before (given_by given a) (second-of (fits capacity own before (handle.action p) a f) (are_told capacity own before) truth) calls (goes-settled before acts) in
        let led = ih.1 (goes (handle.comes_to before) acts) in
        let rest : List Line = lines_with own (given_by given a) before in
        let s : State = at_last rest in
        let lines : List handle.Line = handle.note (Note.Told f) ∷ handle.access a ∷ before in
        let e : p ≡ point_of s = acting p s led.0 acts in
        subst (λ (q : Point). Led lines given (line_of a ∷ rest) (handle.step q f)) (sym e)
        (reached lines given (line_of a) rest (handle.step (point_of s) f) ih.0
        (told s before given a f e (subst (λ (q : Point). fits capacity own before (handle.action q) a f ≡ true) e fit) led.1))
    leads (handle.note Note.Passed ∷ handle.access a ∷ before) given truth calls settled =
        let p : Point = (handle.comes_to before).point in
        let fit = first-of (passes own before (handle.action p) a) (are_told capacity own before) truth in
        let acts : handle.action p ≡ Action.Rest → ⊥ = pass-acts capacity own before (handle.action p) a fit in
        let ih = leads before (given_by given a) (second-of (passes own before (handle.action p) a) (are_told capacity own before) truth) calls (goes-settled before acts) in
        let led = ih.1 (goes (handle.comes_to before) acts) in
        let rest : List Line = lines_with own (given_by given a) before in
        let s : State = at_last rest in
        let lines : List handle.Line = handle.note Note.Passed ∷ handle.access a ∷ before in
        let e : p ≡ point_of s = acting p s led.0 acts in
        let there = passed s before given a e (subst (λ (q : Point). passes own before (handle.action q) a ≡ true) e fit) led.1 in
        ((there.0, ih.0), λ alive. (meets p (at_last (line_of a ∷ rest)) (subst (λ (q : Point). q ≡ point_of (after (line_of a) s)) (sym e) there.1.0), there.1.1))
    leads (handle.note (Note.ClosedLoaded none is_closed) ∷ handle.access a ∷ before) given truth calls settled =
        let p : Point = (handle.comes_to before).point in
        let knows = first-of (alike none (known_in capacity own before == 0)) _ truth in
        let rest_told = second-of (alike none (known_in capacity own before == 0)) _ truth in
        let fit = first-of (fits capacity own before (handle.action p) a (Found.Flag is_closed)) (are_told capacity own before) rest_told in
        let acts : handle.action p ≡ Action.Rest → ⊥ = fits-acts capacity own before (handle.action p) a (Found.Flag is_closed) fit in
        let ih = leads before (given_by given a) (second-of (fits capacity own before (handle.action p) a (Found.Flag is_closed)) (are_told capacity own before) rest_told) calls (goes-settled before acts) in
        let led = ih.1 (goes (handle.comes_to before) acts) in
        let rest : List Line = lines_with own (given_by given a) before in
        let s : State = at_last rest in
        let lines : List handle.Line = handle.note (Note.ClosedLoaded none is_closed) ∷ handle.access a ∷ before in
        let e : p ≡ point_of s = acting p s led.0 acts in
        subst (λ (q : Point). Led lines given (line_of a ∷ rest) (handle.looks none is_closed q)) (sym e)
        (reached lines given (line_of a) rest (handle.looks none is_closed (point_of s)) ih.0
        (looked s before given a none is_closed e knows (subst (λ (q : Point). fits capacity own before (handle.action q) a (Found.Flag is_closed) ≡ true) e fit) led.1))
    leads (handle.note said ∷ before) given truth calls settled = absurd (let no : false ≡ true = truth in cc)

    pub runs-of : (lines : List handle.Line) (moved : List ℕ) → IsTrueLog capacity own lines moved → AreRuns State first after IsNext (lines_in own lines)
    runs-of lines moved log = (leads lines [] log.told log.calls log.settled).0
