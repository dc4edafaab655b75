-- Rounds of a drain, one after the other.
use Rattle.std.proofs.Common.{◌≡◌, ℕ, ◌+◌, ◌≤◌, ◌⊎◌, List, [], ◌++◌, take, drop, length, Ok, Err, sym, ap, ◌∙◌, subst, append_assoc, append-nil, take-append-drop, length-append, length-take-le, arith}
use Rattle.futures.specs.declared.task.Poll.TheVariants.{Ready}
use Rattle.piper_ring.specs.ReadView.{ReadView, in_one_piece}
use Rattle.piper.specs.Drains.{DrainRounds}
use Rattle.piper.specs.Like.{Passes, PassesInOrder}
use Rattle.piper.specs.declared.error.CopyError.TheVariants.{Like}

-- the rounds so far gave the destination `sum` bytes, which were the front of what was known
pub record Drained {S : Type 0} (takes : Passes S) (a b : ReadView) (s t : S) (sum : ℕ) : Type 0 where
  pub moved : List ℕ
  pub taken : b.taken ≡ a.taken ++ moved
  pub known : a.known ≡ moved ++ b.known
  pub passed : takes s moved t
  pub count : length moved ≡ sum
  pub rest : b ≡ record a { taken = b.taken; known = b.known }

module _ {S : Type 0} (takes : Passes S) (in_order : PassesInOrder takes) (a b : ReadView) (s t u : S) (sum : ℕ) (d : Drained takes a b s t sum) where
  none_more : takes t [] u → takes s d.moved u
  none_more none = subst (λ (l : List ℕ). takes s l u) (append-nil d.moved) (in_order s d.moved t [] u d.passed none)

  -- the destination took none
  pub drain_ended : {E : Type 0} (is_full : S → Type 0) (fails : S → E → S → Type 0) → takes t [] u → (b.known ≡ []) ⊎ is_full u
      → DrainRounds takes is_full fails (Ready (Ok sum)) a b s u
  drain_ended is_full fails none most =
      record { moved = d.moved; taken = d.taken; known = d.known; copied = (none_more none, d.count); most = most; rest = d.rest }

  -- the destination failed
  pub drain_failed : {E : Type 0} (is_full : S → Type 0) (fails : S → E → S → Type 0) (e : E) → takes t [] u → fails t e u
      → DrainRounds takes is_full fails (Ready (Err (Like e))) a b s u
  drain_failed is_full fails e none failed =
      record { moved = d.moved; taken = d.taken; known = d.known; copied = (none_more none, (t, d.passed, failed)); most = tt; rest = d.rest }

  -- the destination took n bytes, which were consumed
  pub drained_more : (w : ReadView) (n : ℕ) → n ≤ in_one_piece b → takes t (take n b.known) u → w ≡ record b { taken = b.taken ++ take n b.known; known = drop n b.known }
      → Drained takes a w s u (sum + n)
  drained_more w n within some stored =
      let front : List ℕ = take n b.known in
      rw stored (record {
        moved = d.moved ++ front;
        taken = ap (λ l. l ++ front) d.taken ∙ append_assoc a.taken d.moved front;
        known = d.known ∙ ap (λ l. d.moved ++ l) (sym (take-append-drop n b.known)) ∙ sym (append_assoc d.moved front (drop n b.known));
        passed = in_order s d.moved t front u d.passed some;
        count = length-append d.moved front ∙ omega (arith, d.count, length-take-le n b.known (omega (arith, within)));
        rest = ap (λ (v : ReadView). record v { taken = b.taken ++ front; known = drop n b.known }) d.rest;
      })
