-- After an end that was found: where the reader can be, what its steps log and answer, and what it
-- has seen of the close.
use Rattle.std.proofs.Common.{◌≡◌, inl, inr, ℕ, List, length, take, Bool, true, false, Option, None, Some, ◌==◌, refl, sym, ◌∙◌, arith, []}
use Rattle.std.proofs.lemmas.Grind.{common_steps}
use Rattle.std.specs.Bool.{⊤}
use Rattle.piper_machine.specs.Types.{Event, Purpose, AfterRead, ReadPoint, Reader}
use Rattle.piper_protocol.specs.Table.{read_action, reader_looked_again}
use Rattle.piper_machine.specs.Log.{answer_event}
use Rattle.piper_machine.specs.Pipe.{Pipe}
use Rattle.piper_machine.specs.Action.{logged_of}
use Rattle.piper_machine.specs.Step.{went}
use Rattle.piper_machine.specs.End.{saw_closed_from}
use Rattle.piper_machine.proofs.Ends.{found_at_tail, ended_from, IsFinalFrom}
use Rattle.piper_machine.proofs.Causes.{read_leaves, IsEnded, IsCaused, reader_after}
use Rattle.piper_machine.proofs.Honesty.{loaded, saw_close}
use Rattle.piper_machine.proofs.ReaderWaits.{none_left, drop_none}

-- a round of a copy moves bytes, so it is none of these
abbrev pub is_last : AfterRead → Bool
is_last (AfterRead.Round form sum) = false
is_last next = true

-- where the reader can be once an end was found
abbrev pub is_over : ReadPoint → Bool
is_over (ReadPoint.LookTailAgain l was_closed) = was_closed
is_over (ReadPoint.LookTake l) = false
is_over ReadPoint.Yield = false
is_over (ReadPoint.CallDestination form sum) = false
is_over (ReadPoint.StoreHead n next) = is_last next
is_over (ReadPoint.TakeWriter next) = is_last next
is_over (ReadPoint.WakeWriter next) = is_last next
is_over point = true

pub record Over (p : Pipe) : Type 0 where
  pub closed : p.is_closed ≡ true
  pub ended : IsEnded p
  pub unread : p.unread ≡ []
  pub valid : is_over p.reader ≡ true

pub take_none : (n : ℕ) (xs : List ℕ) → xs ≡ [] → take n xs ≡ []
take_none n xs h = grind arith

none_test : (xs : List ℕ) → xs ≡ [] → (length xs == 0) ≡ true
none_test xs h = rw h refl

-- what reports nothing of an end

abbrev pub Quiet : Bool → Bool → List Event → Type 0
Quiet saw ended es = IsFinalFrom saw ended es × (ended_from saw ended es ≡ ended) × (saw_closed_from Reader saw es ≡ saw)

-- what it has seen of the close is so, and is in its point where it checks again
abbrev pub IsLinked : Option Bool → Bool → Type 0
IsLinked None saw = ⊤
IsLinked (Some was_closed) saw = saw ≡ was_closed

abbrev pub logged_at : ReadPoint → Pipe → List Event
logged_at point p = logged_of Reader (read_action point) (record p { reader = point })

module _ (saw ended : Bool) (p : Pipe) (closed : saw ≡ true → p.is_closed ≡ true) where
  abbrev Logs : ReadPoint → Type 0
  Logs point = IsFinalFrom saw ended (logged_at point p) × (ended_from saw ended (logged_at point p) ≡ true → Over (record p { reader = point }))

  -- the close that was seen is the writer's, since the reader is in its call
  tail-logs : (point : ReadPoint) → read_leaves point ≡ false → (saw ≡ true → is_over point ≡ true) → (p.is_closed ≡ true → IsCaused (record p { reader = point })) → (ended ≡ true → Over (record p { reader = point }))
      → (ended ≡ true → length p.unread ≡ 0) × (found_at_tail saw (length p.unread) ended ≡ true → Over (record p { reader = point }))
  tail-logs point stays valid caused over = grind (arith, common_steps)

  pub reader-logs : (point : ReadPoint) → IsLinked (loaded point) saw → (p.is_closed ≡ true → IsCaused (record p { reader = point })) → (ended ≡ true → Over (record p { reader = point })) → Logs point
  reader-logs ReadPoint.Idle link caused over = (tt, over)
  reader-logs ReadPoint.Dropped link caused over = (tt, over)
  reader-logs (ReadPoint.QueryHead query) link caused over = grind arith
  reader-logs (ReadPoint.QueryTail query) link caused over = let logs = tail-logs (ReadPoint.QueryTail query) refl (λ seen. refl) caused over in ((logs.0, tt), logs.1)
  reader-logs ReadPoint.QueryClosed link caused over = ((λ t. (over t).closed, tt), over)
  reader-logs (ReadPoint.LookTail l) link caused over = let logs = tail-logs (ReadPoint.LookTail l) refl (λ seen. refl) caused over in ((logs.0, tt), logs.1)
  reader-logs (ReadPoint.LookRegister l) link caused over = grind arith
  reader-logs (ReadPoint.LookClosed l) link caused over = ((λ t. (over t).closed, tt), over)
  reader-logs (ReadPoint.LookTailAgain l was_closed) link caused over = let logs = tail-logs (ReadPoint.LookTailAgain l was_closed) refl (λ seen. sym link ∙ seen) caused over in ((logs.0, tt), logs.1)
  reader-logs (ReadPoint.LookTake l) link caused over = (tt, over)
  reader-logs ReadPoint.Yield link caused over = grind arith
  reader-logs (ReadPoint.CallDestination form sum) link caused over = (tt, over)
  reader-logs (ReadPoint.StoreHead n next) link caused over = ((λ t. take_none n p.unread (over t).unread, tt), over)
  reader-logs (ReadPoint.TakeWriter next) link caused over = (tt, over)
  reader-logs (ReadPoint.WakeWriter next) link caused over = grind arith
  reader-logs ReadPoint.StoreClosed link caused over = ((λ t. tt, tt), over)

-- what it has seen of the close

abbrev pub Sees : Bool → Pipe → Type 0
Sees saw p = (saw ≡ true → p.is_closed ≡ true) × IsLinked (loaded p.reader) saw

pub reader-sees : (saw : Bool) (p : Pipe) (closed : saw ≡ true → p.is_closed ≡ true) (point : ReadPoint) → IsLinked (loaded point) saw → Sees (saw_closed_from Reader saw (logged_at point p)) (reader_after point p)
reader-sees saw p closed point link = grind arith

-- what the reader returns, and where it follows the answer

abbrev pub Ends : Bool → Bool → ReadPoint → Pipe → Type 0
Ends saw ended point p =
    let to = went Reader (record p { reader = point }) in
    IsFinalFrom saw ended (answer_event Reader to.answer) × (ended_from saw ended (answer_event Reader to.answer) ≡ true → Over to.pipe)

module _ (saw ended : Bool) (p : Pipe) where
  -- the answers that report an end: nothing was found after a close that was seen
  again-final : (none was_closed : Bool) (l : Purpose) → (ended ≡ true → (none ≡ true) × (was_closed ≡ true)) → let next = reader_looked_again none l was_closed in
      IsFinalFrom saw ended (answer_event Reader next.answer) × (ended_from saw ended (answer_event Reader next.answer) ≡ true → (none ≡ true) × (was_closed ≡ true) × (is_over next.point ≡ true))
  again-final none was_closed l over = grind arith

  pub reader-ends : (point : ReadPoint) → (saw_close point ≡ true → p.is_closed ≡ true) → (p.is_closed ≡ true → IsCaused (record p { reader = point })) → (ended ≡ true → Over (record p { reader = point })) → Ends saw ended point p
  reader-ends (ReadPoint.QueryTail query) seen caused over = grind arith
  reader-ends ReadPoint.QueryClosed seen caused over = ((λ t. tt, tt), λ t. let o = over t in record { closed = o.closed; ended = o.ended; unread = o.unread; valid = refl })
  reader-ends (ReadPoint.LookTail l) seen caused over = grind arith
  reader-ends (ReadPoint.LookRegister l) seen caused over = grind arith
  reader-ends (ReadPoint.LookClosed l) seen caused over = (tt, λ t. let o = over t in record { closed = o.closed; ended = o.ended; unread = o.unread; valid = o.closed })
  reader-ends (ReadPoint.LookTailAgain l was_closed) seen caused over =
      let next = again-final (length p.unread == 0) was_closed l (λ t. (none_test p.unread (over t).unread, (over t).valid)) in
      let by_writer : p.is_closed ≡ true → IsEnded p = λ closed. elim (caused closed) [ inl leaves ↦ absurd (cc) | inr is_ended ↦ is_ended ] in
      (next.0, λ t. let noted = next.1 t in record { closed = seen noted.1; ended = by_writer (seen noted.1); unread = none_left p.unread noted.0; valid = noted.2 })
  reader-ends (ReadPoint.LookTake Purpose.Poll) seen caused over = ((λ t. absurd (let none = (over t).valid in cc), tt), λ t. absurd (let none = (over t).valid in cc))
  reader-ends (ReadPoint.LookTake (Purpose.Copy form)) seen caused over = (tt, λ t. absurd (let none = (over t).valid in cc))
  reader-ends ReadPoint.Yield seen caused over = grind arith
  reader-ends (ReadPoint.CallDestination form sum) seen caused over = grind arith
  reader-ends (ReadPoint.StoreHead n next) seen caused over = (tt, λ t. let o = over t in record { closed = o.closed; ended = o.ended; unread = drop_none n p.unread o.unread; valid = o.valid })
  reader-ends (ReadPoint.TakeWriter next) seen caused over = grind arith
  reader-ends (ReadPoint.WakeWriter next) seen caused over = grind arith
  reader-ends ReadPoint.StoreClosed seen caused over = (tt, λ t. let o = over t in record { closed = refl; ended = o.ended; unread = o.unread; valid = refl })
  reader-ends point seen caused over = (tt, λ t. let o = over t in record { closed = o.closed; ended = o.ended; unread = o.unread; valid = o.valid })
