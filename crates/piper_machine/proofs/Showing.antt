-- How what the log says of a side's calls grows with the log: the events that leave it, and those
-- of the other side.
use Rattle.std.proofs.Common.{◌≡◌, ℕ, arith, List, ◌∷◌, ◌++◌, Option, Some, refl, sym, ap, subst, ◌∙◌, []}
use Rattle.piper_machine.specs.Types.{Side, Call, Answer, Event, Context, Action, Reader, Writer}
use Rattle.piper_machine.specs.Log.{answer_event}
use Rattle.piper_machine.specs.Pipe.{Pipe}
use Rattle.piper_machine.specs.Action.{logged_of, registration_of, wake_of, yield_of}
use Rattle.piper_machine.specs.Noted.{Noted, noted_after, noted_from}
use Rattle.piper_machine.specs.Outcome.{IsAnswer}
use Rattle.piper_machine.specs.Answered.{AreRightFrom}

pub noted-append : (side : Side) (t : Noted) (es fs : List Event) → noted_from side t (es ++ fs) ≡ noted_from side (noted_from side t es) fs
noted-append side t [] fs = refl
noted-append side t (e ∷ es) fs = noted-append side (noted_after side t e) es fs

pub right-append : (capacity : ℕ) (side : Side) (t : Noted) (es fs : List Event) → AreRightFrom capacity side t es → AreRightFrom capacity side (noted_from side t es) fs → AreRightFrom capacity side t (es ++ fs)
right-append capacity side t [] fs first then = then
right-append capacity side t (e ∷ es) fs first then = (first.0, right-append capacity side (noted_after side t e) es fs first.1 then)

-- events that leave all that was reported
abbrev pub Leaves : ℕ → Side → Noted → List Event → Type 0
Leaves capacity side t events = AreRightFrom capacity side t events × (noted_from side t events ≡ t)

pub leaves-append : (capacity : ℕ) (side : Side) (t : Noted) (es fs : List Event) → Leaves capacity side t es → Leaves capacity side t fs → Leaves capacity side t (es ++ fs)
leaves-append capacity side t es fs first then = (
  right-append capacity side t es fs first.0 (subst (λ (u : Noted). AreRightFrom capacity side u fs) (sym first.1) then.0),
  noted-append side t es fs ∙ ap (λ (u : Noted). noted_from side u fs) first.1 ∙ then.1,
)

module _ (capacity : ℕ) (t : Noted) where
  pub registers-leaves : (side other : Side) (context : Option Context) → Leaves capacity side t (registration_of other context)
  registers-leaves side other context = grind arith

  pub wake-leaves : (side : Side) (name : Option ℕ) → Leaves capacity side t (wake_of name)
  wake-leaves side name = grind arith

  pub yield-leaves : (side : Side) (context : Option Context) → Leaves capacity side t (yield_of context)
  yield-leaves side context = grind arith

  -- the steps of one side leave what the log says of the other

  pub writer-logs : (action : Action) (p : Pipe) → ((n : ℕ) → action ≡ Action.StoreHead n → ⊥) → Leaves capacity Reader t (logged_of Writer action p)
  writer-logs action p never = grind arith

  pub reader-logs : (action : Action) (p : Pipe) → ((n : ℕ) → action ≡ Action.StoreTail n → ⊥) → Leaves capacity Writer t (logged_of Reader action p)
  reader-logs action p never = grind arith

  pub writer_answer-leaves : (answer : Option Answer) → Leaves capacity Reader t (answer_event Writer answer)
  writer_answer-leaves answer = grind arith

  pub reader_answer-leaves : (answer : Option Answer) → Leaves capacity Writer t (answer_event Reader answer)
  reader_answer-leaves answer = grind arith

  -- an answer that is right
  pub answers : (side : Side) (c : Call) (answer : Answer) → t.call ≡ Some c → IsAnswer capacity c t.looks t.moved answer → AreRightFrom capacity side t (answer_event side (Some answer))
  answers side c answer is right = grind arith

-- an answer opens no call
pub coming-answered : (side : Side) (t : Noted) (answer : Option Answer) → (noted_from side t (answer_event side answer)).coming ≡ t.coming
coming-answered side t answer = grind arith

pub coming-kept : (side : Side) (action : Action) (p : Pipe) (t : Noted) → (noted_from side t (logged_of side action p)).coming ≡ t.coming
coming-kept side action p t = grind arith

abbrev pub IsPoll : Call → Type 0
IsPoll (Call.Poll side waker luck) = Unit {0}
IsPoll c = ⊥

-- a poll is open
pub record Polls (t : Noted) : Type 0 where
  pub poll : Call
  pub is : t.call ≡ Some poll
  pub polls : IsPoll poll
