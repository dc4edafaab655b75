-- Each step conserves the bytes: what it moves leaves the front of what is unread, or joins its
-- end.
use Rattle.std.proofs.Common.{◌≡◌, ℕ, ◌+◌, ◌*◌, ◌/◌, ◌%◌, ◌<◌, ◌≤◌, List, ◌∷◌, ◌++◌, length, Option, inl, inr, refl, sym, ap, ◌∙◌, arith, append_assoc, length-append, []}
use Rattle.std.proofs.Math.Nat.{div-add-mod', add-mod_right, mul-mod_left}
use Rattle.std.proofs.lemmas.Nat.{mod-mul-add}
use Rattle.std.proofs.lemmas.Grind.{flat_map-append, common_steps}
use Rattle.std.proofs.lemmas.Bool.{cases_lt}
use Rattle.std.proofs.lemmas.Bool.Decides.{nat_tests}
use Rattle.piper_machine.specs.Types.{Side, Step, Answer, Event, Action, ReadPoint, Reader, Writer, Begin, Go, Put, Began}
use Rattle.piper_protocol.specs.Index.{offset_of}
use Rattle.piper_machine.specs.Call.{side_of, kind_of, waker_of}
use Rattle.piper_machine.specs.Pipe.{Pipe}
use Rattle.piper_machine.specs.Places.{peeked_count}
use Rattle.piper_machine.specs.Sound.{IsSound}
use Rattle.piper_protocol.specs.Table.{head_store, read_action, write_action}
use Rattle.piper_machine.specs.Action.{performed, logged_of}
use Rattle.piper_machine.specs.Step.{went, opened, stepped, offering, answer_at_once}
use Rattle.piper_machine.specs.Log.{answer_event}
use Rattle.piper_machine.specs.Run.{Made}
use Rattle.piper_machine.proofs.Opened.{opened-leaves}
use Rattle.piper_machine.proofs.Counting.{writer_never-head}
use Rattle.piper_machine.specs.Conservation.{consumed_in, published_in, consumed_of, published_of, IsConserved}

-- what these events say was moved, between two pipes
pub record Moves (old new : Pipe) (events : List Event) : Type 0 where
  pub capacity : new.capacity ≡ old.capacity
  pub bytes : consumed_of events ++ new.unread ≡ old.unread ++ published_of events
  pub count : old.start + length (consumed_of events) ≤ old.capacity
  pub start : new.start ≡ offset_of old.capacity (old.start + length (consumed_of events))

-- nothing was moved
pub record Rests (old new : Pipe) (events : List Event) : Type 0 where
  pub capacity : new.capacity ≡ old.capacity
  pub unread : new.unread ≡ old.unread
  pub start : new.start ≡ old.start
  pub consumed : consumed_of events ≡ []
  pub published : published_of events ≡ []

rests-moves : (old new : Pipe) (events : List Event) → old.start < old.capacity → Rests old new events → Moves old new events
rests-moves old new events below r = grind (arith, common_steps)

quiet : (old new : Pipe) (events : List Event) → old.start < old.capacity → new.capacity ≡ old.capacity → new.unread ≡ old.unread → new.start ≡ old.start → (consumed_of events ≡ []) × (published_of events ≡ []) → Moves old new events
quiet old new events below capacity unread start none = rests-moves old new events below (record { capacity = capacity; unread = unread; start = start; consumed = none.0; published = none.1 })

-- a step of a side, by its kind
action-moves : (side : Side) (action : Action) (p : Pipe) → p.start < p.capacity → p.known ≤ length p.unread → ((n : ℕ) → action ≡ Action.StoreHead n → n ≤ peeked_count p) → Moves p (performed side action p) (logged_of side action p)
action-moves side action p below known within = grind (arith, common_steps)

-- an answer moves nothing, and a point neither
module _ (old q new : Pipe) (events : List Event) (side : Side) (answer : Option Answer) (m : Moves old q events) (capacity : new.capacity ≡ q.capacity) (unread : new.unread ≡ q.unread) (start : new.start ≡ q.start) where
  pub answered-moves : Moves old new (events ++ answer_event side answer)
  answered-moves = grind (arith, common_steps)

pub read_store : (point : ReadPoint) (n : ℕ) → read_action point ≡ Action.StoreHead n → head_store point ≡ n
read_store point n e = grind arith

pub step-moves : (lent : List ℕ) (s : Step) (p : Pipe) → IsSound p → let new = stepped lent s p in Moves p new.pipe new.events
step-moves lent (Begin c) p sound =
    let same = opened-leaves lent c p in
    let began = quiet p p (Began (side_of c) (kind_of c) (waker_of c) ∷ []) sound.start refl refl refl (refl, refl) in
    answered-moves p p (opened lent c p) (Began (side_of c) (kind_of c) (waker_of c) ∷ []) (side_of c) (answer_at_once lent c) began same.capacity same.unread same.start
step-moves lent (Go Reader) p sound =
    let action = read_action p.reader in
    let moves = action-moves Reader action p sound.start sound.known (λ n e. omega (arith, read_store p.reader n e, sound.head_store)) in
    answered-moves p (performed Reader action p) (went Reader p).pipe (logged_of Reader action p) Reader (went Reader p).answer moves refl refl refl
step-moves lent (Go Writer) p sound =
    let action = write_action p.writer in
    let q = offering lent p in
    let m = action-moves Writer action q sound.start sound.known (λ n e. absurd (writer_never-head p.writer n e)) in
    let moves : Moves p (performed Writer action q) (logged_of Writer action q) = record { capacity = m.capacity; bytes = m.bytes; count = m.count; start = m.start } in
    answered-moves p (performed Writer action q) (went Writer q).pipe (logged_of Writer action q) Writer (went Writer q).answer moves refl refl refl
step-moves lent (Put offset byte) p sound = quiet _ _ _ sound.start refl refl refl (refl, refl)

pub capacity-kept : (p q : Pipe) (s : Step) (before after : List Event) → IsSound p → Made p s q before after → q.capacity ≡ p.capacity
capacity-kept p q s before after sound made = ap (λ (x : Pipe). x.capacity) made.made.pipe ∙ (step-moves q.lent s p sound).capacity

-- the place of the first unread byte, by the count of consumed bytes
place-count : (c k s n : ℕ) → 1 ≤ c → s ≡ k % c → s + n ≤ c → offset_of c (s + n) ≡ (k + n) % c
place-count c k s n some is fits =
    let parts : k + n ≡ k / c * c + (s + n) = omega (arith, div-add-mod' k c) in
    elim (cases_lt (s + n) c) [
      | inl low ↦ (let same : offset_of c (s + n) ≡ s + n = grind (arith, nat_tests) in same) ∙ sym (ap (λ j. j % c) parts ∙ mod-mul-add (k / c) c (s + n) low)
      | inr high ↦ (
          let full : s + n ≡ c = omega arith in
          let none : offset_of c (s + n) ≡ 0 = grind (arith, nat_tests) in
          none ∙ sym (ap (λ j. j % c) (parts ∙ ap (λ j. k / c * c + j) full) ∙ add-mod_right (k / c * c) c ∙ mul-mod_left (k / c) c))
    ]

pub conserved-step : (p q : Pipe) (s : Step) (before after : List Event) → IsSound p → IsConserved p before → Made p s q before after → IsConserved q after
conserved-step p q s before after sound kept made =
    let new = stepped q.lent s p in
    let moves = step-moves q.lent s p sound in
    let unread = ap (λ (x : Pipe). x.unread) made.made.pipe in
    let start = ap (λ (x : Pipe). x.start) made.made.pipe in
    let capacity = ap (λ (x : Pipe). x.capacity) made.made.pipe ∙ moves.capacity in
    let consumed = flat_map-append consumed_in before new.events in
    let published = flat_map-append published_in before new.events in
    record {
      bytes = rw (made.made.events, unread, consumed, published)
          (append_assoc (consumed_of before) (consumed_of new.events) new.pipe.unread
          ∙ ap (λ (bytes : List ℕ). consumed_of before ++ bytes) moves.bytes
          ∙ sym (append_assoc (consumed_of before) p.unread (published_of new.events))
          ∙ ap (λ (bytes : List ℕ). bytes ++ published_of new.events) kept.bytes);
      start = rw (made.made.events, capacity, consumed, length-append (consumed_of before) (consumed_of new.events))
          (start ∙ moves.start ∙ place-count p.capacity (length (consumed_of before)) p.start (length (consumed_of new.events)) (omega (arith, sound.start)) kept.start moves.count);
    }
