-- Wakers that came out of a slot, one call after the other.
use Rattle.std.proofs.Common.{◌≡◌, ℕ, ◌⊎◌, Bool, false, is_some, List, [], ◌∷◌, ◌++◌, Option, Some, None, IfSome, IsSomeAnd, true, refl, subst, inl, inr}
use Rattle.futures.specs.Task.{Holds, Keeps, Lasting, Wakes}
use Rattle.futures.specs.declared.task.context.Context.{Context}
use Rattle.futures.specs.declared.task.waker.Waker.{Waker}
use Rattle.piper.specs.Called.{AreCalled, CallsTaken, TakesOwn, WasCalled, WasLetGo}
use Rattle.piper_protocol.specs.OneList.{swapped}
use Rattle.piper_protocol.specs.declared.table.Found.{Found}
use Rattle.piper_protocol.specs.declared.table.Found.TheVariants.{Nothing}
use Rattle.piper_ring.specs.Loads.{TookBack, WasTaken}
use Rattle.piper_ring.specs.Log.{IsUnregistered, Log, did, own, told, told_if}
use Rattle.piper_ring.specs.Slot.{ticket_if}
use Rattle.piper_ring.specs.Shared.{Names}
use Rattle.piper_ring.specs.SlotsView.{SlotsView, WaitsAsBefore}

-- what was taken after what was taken
called_then : (z : Names) (ws vs : List Waker) (a b c : ℕ) → AreCalled z ws a b → AreCalled z vs b c
    → AreCalled z (ws ++ vs) a c
called_then z [] vs a b c first later = subst (λ n. AreCalled z vs n c) first later
called_then z (w ∷ ws) vs a b c first later =
    (first.0, first.1, first.2, called_then z ws vs first.0 b c first.3 later)

pub calls_then : (a b c : SlotsView) → b.names ≡ a.names → CallsTaken a b → CallsTaken b c → CallsTaken a c
calls_then a b c names first later = (
  first.0 ++ later.0,
  called_then a.names first.0 later.0 a.taken b.taken c.taken first.1
      (subst (λ z. AreCalled z later.0 b.taken c.taken) names later.1),
)

-- a waker of the polled task stays one for the whole poll
pub wakes_on : (waker : Waker) (old new : Context) → Keeps old new → Wakes waker old → Wakes waker new
unfolding Holds
wakes_on waker old new keeps w = subst (λ (cx : Context). Wakes waker cx) (keeps (Lasting.same_task old) refl) w

-- and the one that `register` leaves is one of it, unless none could be made
pub grants : (slot : Option Waker) (old new : Context) → Keeps old new
    → (new.lacks_waker ≡ true) ⊎ IsSomeAnd slot (λ waker. Wakes waker old)
    → IfSome slot (λ waker. (new.lacks_waker ≡ true) ⊎ Wakes waker new)
grants None old new keeps left = tt
grants (Some waker) old new keeps (inl lacks) = inl lacks
grants (Some waker) old new keeps (inr own) = inr (wakes_on waker old new keeps own)

-- what came out of a side's own slot was dropped, or the slot was empty
pub lets_go : (reads : Bool) (a b : SlotsView) (waker : Option Waker) (before after : Log) → b ≡ a
    → TookBack b.names b.waits b.tickets waker → IfSome waker WasLetGo
    → after ≡ told Nothing (did (swapped (own reads) (ticket_if (is_some waker) b.tickets) None) before)
    → TakesOwn WasLetGo reads a after
lets_go reads a b None before after same out gone is = inr (inr (rw is (refl, refl)))
lets_go reads a b (Some waker) before after same out gone is = inl (waker, rw same at out.taken, gone)

-- none came out of it
pub none_own : (reads waits : Bool) (tickets : ℕ) (found : Found) (before after : Log)
    → after ≡ told_if waits found (swapped (own reads) (ticket_if false tickets) None) before
    → IsUnregistered reads waits after
none_own reads true tickets found before after is = inr (rw is (refl, refl))
none_own reads false tickets found before after is = inl refl

-- and it is the same of a side that has checked the other's slot before
pub same_own : (became : Waker → Type 0) (reads : Bool) (a b : SlotsView) (after : Log)
    → WaitsAsBefore a b → TakesOwn became reads b after → TakesOwn became reads a after
same_own became reads a b after same took = subst (λ (s : SlotsView). TakesOwn became reads s after) same took

-- a waker that was taken, or none, as the call that took it tells
pub calls_one : (z : Names) (old new : ℕ) (taken : Option Waker) → WasTaken z old new taken
    → (taken ≡ None → new ≡ old) → IfSome taken WasCalled
    → (wakers : List Waker) × AreCalled z wakers old new
calls_one z old new None was none called = ([], none refl)
calls_one z old new (Some waker) was none called = (waker ∷ [], (new, was, called, refl))
