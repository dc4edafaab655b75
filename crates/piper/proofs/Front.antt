-- Bytes that a drain wrote to the front of a slice.
use Rattle.std.proofs.Common.{◌≡◌, ℕ, Result, Ok, Err, ◌+◌, ◌<◌, ◌≤◌, ◌⊎◌, List, [], ◌++◌, take, drop, length, sym, ap, append-nil, ◌∙◌, take_at, drop_at, length-append, length-drop, inl, inr, arith}
use Rattle.piper.specs.Written.{written}
use Rattle.piper.specs.declared.handles.Reader.{Reader}
use Rattle.piper.specs.Looks.{ReaderIsUpToDate}
use Rattle.piper.specs.ReaderCalls.{Drained, DrainsSlice, ReaderOnlyLooked}
use Rattle.piper.specs.CopyAnswers.{of_bytes}
use Rattle.piper.specs.Drains.{Drains}
use Rattle.piper.specs.Like.{Passes}
use Rattle.piper_protocol.specs.declared.memory.OutOfMemory.{OutOfMemory}
use Rattle.std.specs.declared.convert.Infallible.{Infallible}
use Rattle.futures.specs.declared.task.Poll.{Poll}
use Rattle.futures.specs.declared.task.Poll.TheVariants.{Ready, Pending}

module _ (old before now new moved : List ℕ) (place n : ℕ) (same : before ≡ old) (first : place ≡ 0) (count : length moved ≡ n) (is : now ≡ written before place moved) (back : new ≡ now) where
  whole : new ≡ moved ++ drop n old
  whole =
      let after : 0 + length moved ≡ n = omega (arith, count) in
      back ∙ is ∙ ap (λ k. written before k moved) first ∙ ap (λ xs. written xs 0 moved) same ∙ ap (λ k. moved ++ drop k old) after

  pub front_is : take n new ≡ moved
  front_is = ap (λ xs. take n xs) whole ∙ take_at moved (drop n old) n count

  pub rest_is : drop n new ≡ drop n old
  rest_is = ap (λ xs. drop n xs) whole ∙ drop_at moved (drop n old) n count

  -- which is full where they end
  pub full_is : n ≤ length old → (end : ℕ) → end ≡ place + length moved → length new ≡ end → length old ≡ n
  full_is within end ends full = omega (arith, within, ends, full, first, count, ap length whole, length-append moved (drop n old), length-drop n old)

  -- and so the slice was drained into
  pub drained_is : (a b : Reader) → b.side.end.taken ≡ a.side.end.taken ++ moved → (0 < length a.side.end.known → a.side.end.known ≡ moved ++ b.side.end.known) → (a.side.end.known ≡ [] → ReaderIsUpToDate b.side.end) → n ≤ length old → (n < length old → b.side.end.known ≡ []) → Drained n a b old new
  drained_is a b taken known fresh within most = record {
    count = within;
    rest = rest_is;
    taken = taken ∙ ap (λ xs. a.side.end.taken ++ xs) (sym front_is);
    known = λ some. ap (λ xs. xs ++ b.side.end.known) front_is ∙ sym (known some);
    fresh = fresh;
    most = most;
  }

-- where nothing was moved, the reader only looked
pub looked_only : (a b : Reader) (moved : List ℕ) → moved ≡ [] → b.side.end.taken ≡ a.side.end.taken ++ moved → (0 < length a.side.end.known → a.side.end.known ≡ moved ++ b.side.end.known) → (a.side.end.known ≡ [] → ReaderIsUpToDate b.side.end) → ReaderOnlyLooked a b
looked_only a b moved none taken known fresh = record {
  taken = taken ∙ ap (λ xs. a.side.end.taken ++ xs) none ∙ append-nil a.side.end.taken;
  known = λ some. sym (known some ∙ ap (λ xs. xs ++ b.side.end.known) none);
  fresh = fresh;
}

-- of two the first, where the second can't be
pub not_other : (P Q : Type 0) → P ⊎ Q → (Q → ⊥) → P
not_other P Q (inl p) never = p
not_other P Q (inr q) never = absurd (never q)

-- what a drain into a slice returns, from what it does to the struct that holds the slice
module _ {S : Type 0} (bytes : S → List ℕ) (place : S → ℕ) (takes : Passes S) (fails : S → Infallible → S → Type 0)
    (writes : (s : S) (xs : List ℕ) (t : S) → takes s xs t → (place t ≡ place s + length xs) × (bytes t ≡ written (bytes s) (place s) xs)) where
  pub drains_slice : (r : Poll (Result ℕ OutOfMemory)) (a b : Reader) (s t : S) (old new : List ℕ) → bytes s ≡ old → place s ≡ 0 → new ≡ bytes t → place t ≤ length new → length new ≡ length old
      → Drains takes (λ u. length (bytes u) ≡ place u) fails (of_bytes r) a.side.end b.side.end s t → DrainsSlice r a b old new
  drains_slice (Ready (Ok n)) a b s t old new same first back inside long d =
      let w : (place t ≡ place s + length d.moved) × (bytes t ≡ written (bytes s) (place s) d.moved) = writes s d.moved t d.copied.0 in
      let within : n ≤ length old = omega (arith, inside, long, w.0, first, d.copied.1) in
      drained_is old (bytes s) (bytes t) new d.moved (place s) n same first d.copied.1 w.1 back a b d.taken d.known d.fresh within
      (λ less. not_other _ _ d.most (λ full. omega (arith, less, full_is old (bytes s) (bytes t) new d.moved (place s) n same first d.copied.1 w.1 back within (place t) w.0 (ap length back ∙ full))))
  drains_slice (Ready (Err e)) a b s t old new same first back inside long d =
      (looked_only a b d.moved d.copied.1 d.taken d.known d.fresh, back ∙ ap bytes d.copied.0 ∙ same)
  drains_slice Pending a b s t old new same first back inside long d =
      (looked_only a b d.moved d.copied.1 d.taken d.known d.fresh, back ∙ ap bytes d.copied.0 ∙ same)
