-- What a copy over a reader or a writer of std says of it, from what it says of the struct that holds
-- it.
use Rattle.std.proofs.Common.{◌≡◌, ◌<◌, ◌⊎◌, ◌++◌, inl, inr, true, [], ap, subst, ℕ, List, Result, Ok, Err}
use Rattle.futures.specs.declared.task.Poll.{Poll}
use Rattle.futures.specs.declared.task.Poll.TheVariants.{Ready, Pending}
use Rattle.piper_ring.specs.ReadView.{ReadView}
use Rattle.piper_ring.specs.WriteView.{WriteView}
use Rattle.piper.specs.CopyAnswers.{Copies}
use Rattle.piper.specs.Drains.{Drains}
use Rattle.piper.specs.Fills.{Fills}
use Rattle.piper.specs.Like.{Passes}
use Rattle.piper.specs.Polls.{IfReadyOk, OnReadyOk}
use Rattle.piper.specs.declared.error.CopyError.{CopyError}
use Rattle.piper.specs.declared.error.CopyError.TheVariants.{Memory, Like}

-- a struct of S holds one of T, so that each step of the first is one of the second
module _ {S T E : Type 0} (held : S → T) (passes : Passes S) (is_last : S → Type 0) (fails : S → E → S → Type 0)
    (passes_held : Passes T) (is_last_held : T → Type 0) (fails_held : T → E → T → Type 0)
    (pass : (a : S) (xs : List ℕ) (b : S) → passes a xs b → passes_held (held a) xs (held b))
    (last : (a : S) → is_last a → is_last_held (held a))
    (fail : (a : S) (e : E) (b : S) → fails a e b → fails_held (held a) e (held b)) where
  copied : (r : Poll (Result ℕ (CopyError E))) (s t : S) (xs : List ℕ) → Copies passes fails r s t xs → Copies passes_held fails_held r (held s) (held t) xs
  copied (Ready (Ok n)) s t xs c = (pass s xs t c.0, c.1)
  copied (Ready (Err Memory)) s t xs c = (ap held c.0, c.1)
  copied (Ready (Err (Like e))) s t xs c = (pass s xs t c.0, (held c.1.0, pass s xs c.1.0 c.1.1, fail c.1.0 e t c.1.2))
  copied Pending s t xs c = (ap held c.0, c.1)

  filled_ok : (r : Poll (Result ℕ (CopyError E))) (b : WriteView) (t : S) → IfReadyOk r (λ n. (((0 < n) × (b.room ≡ 0)) ⊎ is_last t) ⊎ (b.saw ≡ true))
      → IfReadyOk r (λ n. (((0 < n) × (b.room ≡ 0)) ⊎ is_last_held (held t)) ⊎ (b.saw ≡ true))
  filled_ok (Ready (Ok n)) b t (inl (inl full)) = inl (inl full)
  filled_ok (Ready (Ok n)) b t (inl (inr dry)) = inl (inr (last t dry))
  filled_ok (Ready (Ok n)) b t (inr closed) = inr closed
  filled_ok (Ready (Err e)) b t most = tt
  filled_ok Pending b t most = tt

  drained_ok : (r : Poll (Result ℕ (CopyError E))) (b : ReadView) (t : S) → OnReadyOk r ((b.known ≡ []) ⊎ is_last t)
      → OnReadyOk r ((b.known ≡ []) ⊎ is_last_held (held t))
  drained_ok (Ready (Ok n)) b t (inl none) = inl none
  drained_ok (Ready (Ok n)) b t (inr full) = inr (last t full)
  drained_ok (Ready (Err e)) b t most = tt
  drained_ok Pending b t most = tt

  -- a fill from such a struct, which is told as the answer q
  module _ (r q : Poll (Result ℕ (CopyError E))) (is : r ≡ q) (s t : S) (old new : T) (before : held s ≡ old) (after : held t ≡ new) where
    pub filled_held : (a b : WriteView) → Fills passes is_last fails r a b s t → Fills passes_held is_last_held fails_held q a b old new
    filled_held a b d =
        let of_held : Fills passes_held is_last_held fails_held r a b (held s) (held t) = record {
          published = d.published;
          lost = d.lost;
          sent = d.sent;
          all = d.all;
          last = d.last;
          room = d.room;
          fresh = d.fresh;
          copied = copied r s t (d.published ++ d.lost) d.copied;
          most = filled_ok r b t d.most;
          end = d.end;
        } in
        subst (λ (v : Poll (Result ℕ (CopyError E)) × (T × T)). Fills passes_held is_last_held fails_held v.0 a b v.1.0 v.1.1) (λ j. (is j, (before j, after j))) of_held

    -- and a drain into one
    pub drained_held : (a b : ReadView) → Drains passes is_last fails r a b s t → Drains passes_held is_last_held fails_held q a b old new
    drained_held a b d =
        let of_held : Drains passes_held is_last_held fails_held r a b (held s) (held t) = record {
          moved = d.moved;
          taken = d.taken;
          known = d.known;
          fresh = d.fresh;
          copied = copied r s t d.moved d.copied;
          most = drained_ok r b t d.most;
          end = d.end;
        } in
        subst (λ (v : Poll (Result ℕ (CopyError E)) × (T × T)). Drains passes_held is_last_held fails_held v.0 a b v.1.0 v.1.1) (λ j. (is j, (before j, after j))) of_held
