-- What a fill or a drain gives is what its thread gives.
use Rattle.std.proofs.Common.{◌≡◌, ◌∙◌, ◌⊎◌, ⊎_elim, inl, inr, sym, ap, subst, true, ℕ, Bool, List, length, Option, Some, Result, Ok, Err, IfErr, IsSomeAnd}
use Rattle.futures.specs.declared.task.context.Context.{Context}
use Rattle.piper.specs.declared.error.PipeError.{PipeError}
use Rattle.piper.specs.declared.io.copy.Copied.{Copied}
use Rattle.piper.specs.declared.io.copy.Copied.TheVariants.{ToTheEnd, UntilClosed}
use Rattle.piper.specs.declared.handles.Reader.{Reader}
use Rattle.piper.specs.declared.handles.Writer.{Writer}
use Rattle.piper_futures.specs.Draining.{DrainsOn, DrainedAll}
use Rattle.piper_futures.specs.Filling.{FillsOn, FillEnded, FilledAll}
use Rattle.piper_futures.specs.Moving.{IsIo, IsOfWrite}
use Rattle.piper_futures.specs.Writing.{FailsOnce}
use Rattle.piper_futures.specs.Threads.{FilledTo, DrainedTo, HadSeen, HasFailedWith, WhyFilled}
use Rattle.piper_futures.specs.declared.failed.Failed.{Failed}
use Rattle.piper_futures.specs.declared.threads.Drained.{Drained}
use Rattle.piper_futures.specs.declared.threads.Filled.{Filled}

-- so is an error that a future gave
pub failed_on : {F T L : Type 0} (future : F) (output : Result T (Failed L)) (failed : Failed L) → output ≡ Err failed
    → IfErr output (λ f. HasFailedWith future f.error) → HasFailedWith future failed.error
failed_on future output failed is given = subst (λ o. IfErr o (λ f. HasFailedWith future f.error)) is given

module _ {S : Type 0} (remaining : S → Option (List ℕ)) (woken : Writer → Type 0) (fails : Writer → Context → PipeError → Type 0) where
  abbrev All : Writer → S → Result (Writer × S × Copied) (Failed (Writer × S)) → Type 0
  All w s output = FilledAll (λ (o : Writer). o.side.end.sent) (λ (o : Writer). o.side.end.saw) woken fails remaining w s output

  abbrev Given : Option (Writer × S) → Result (Writer × S × Copied) (Failed (Writer × S)) → Type 0
  Given state output = IsSomeAnd state (λ ends. All ends.0 ends.1 output)

  -- what comes back has the bytes of the ends that were given
  abbrev filled_to : (w w' : Writer) (s s' : S) (left : Filled S) → FillsOn (remaining s) (remaining s') w.side.end.sent w'.side.end.sent w.side.end.saw w'.side.end.saw
      → left.source ≡ s' → left.mark.bytes ≡ w'.side.end.sent → left.mark.shut ≡ true → HadSeen left.mark w'.side.end.saw → FilledTo remaining w s left
  filled_to w w' s s' left moved source bytes shut seen =
      let here = subst (λ (r : S). FillsOn (remaining s) (remaining r) w.side.end.sent w'.side.end.sent w.side.end.saw w'.side.end.saw) (sym source) moved in record {
        saw = w'.side.end.saw;
        seen = seen;
        moved = subst (λ (bs : List ℕ). FillsOn (remaining s) (remaining left.source) w.side.end.sent bs w.side.end.saw w'.side.end.saw) (sym bytes) here;
        closed = shut;
      }

  why_filled : (w : Writer) (s : S) (copied : Copied)
      → FillEnded (λ (o : Writer). o.side.end.sent) (λ (o : Writer). o.side.end.saw) woken fails remaining w s copied → WhyFilled w.side.end.saw (remaining s) copied
  why_filled w s ToTheEnd why = why
  why_filled w s UntilClosed why = why

  pub fill_ended : (state : Option (Writer × S)) (w w' : Writer) (s s' : S) (copied : Copied) (output : Result (Writer × S × Copied) (Failed (Writer × S))) (left : Filled S)
      → state ≡ Some (w, s) → output ≡ Ok (w', s', copied) → Given state output → left.source ≡ s' → left.mark.bytes ≡ w'.side.end.sent → left.mark.shut ≡ true → HadSeen left.mark w'.side.end.saw
      → (to : FilledTo remaining w s left) × WhyFilled to.saw (remaining left.source) copied
  fill_ended state w w' s s' copied output left began is given source bytes shut seen =
      let all : All w s (Ok (w', s', copied)) = subst (λ o. All w s o) is (subst (λ st. Given st output) began given) in (
        filled_to w w' s s' left all.0 source bytes shut seen,
        subst (λ (r : S). WhyFilled w'.side.end.saw (remaining r) copied) (sym source) (why_filled w' s' copied all.1),
      )

  pub fill_failed : (state : Option (Writer × S)) (w : Writer) (s : S) (failed : Failed (Writer × S)) (output : Result (Writer × S × Copied) (Failed (Writer × S))) (left : Filled S)
      → state ≡ Some (w, s) → output ≡ Err failed → Given state output → left.source ≡ failed.left.1 → left.mark.bytes ≡ failed.left.0.side.end.sent → left.mark.shut ≡ true → HadSeen left.mark failed.left.0.side.end.saw
      → FilledTo remaining w s left × (FailsOnce fails failed.left.0 failed.error ⊎ IsIo failed.error)
  fill_failed state w s failed output left began is given source bytes shut seen =
      let all : All w s (Err failed) = subst (λ o. All w s o) is (subst (λ st. Given st output) began given) in
      (filled_to w failed.left.0 s failed.left.1 left all.0 source bytes shut seen, all.1)

module _ {D : Type 0} (contents : D → Option (List ℕ)) (knows_end : Reader → Bool) (woken : Reader → Type 0) (fails : Reader → Context → PipeError → Type 0) where
  abbrev AllOut : Reader → D → Result (Reader × D) (Failed (Reader × D)) → Type 0
  AllOut r d output =
      DrainedAll (λ (o : Reader). o.side.end.taken) (λ (o : Reader). o.side.end.known) (λ (o : Reader). o.side.end.saw) knows_end woken fails contents r d output

  abbrev GivenOut : Option (Reader × D) → Result (Reader × D) (Failed (Reader × D)) → Type 0
  GivenOut state output = IsSomeAnd state (λ ends. AllOut ends.0 ends.1 output)

  drained_to : (r r' : Reader) (d d' : D) (left : Drained D) → DrainsOn r.side.end.taken r'.side.end.taken (contents d) (contents d') → left.dest ≡ d'
      → left.mark.consumed.count ≡ length r'.side.end.taken → DrainedTo contents r d left
  drained_to r r' d d' left on dest count =
      let here = subst (λ (x : D). DrainsOn r.side.end.taken r'.side.end.taken (contents d) (contents x)) (sym dest) on in record {
        moved = here.0;
        count = count ∙ ap (λ (bs : List ℕ). length bs) here.1;
        written = here.2;
      }

  pub drain_ended : (state : Option (Reader × D)) (r : Reader) (d : D) (done : Reader × D) (output : Result (Reader × D) (Failed (Reader × D)))
      → state ≡ Some (r, d) → output ≡ Ok done → GivenOut state output → AllOut r d (Ok done)
  drain_ended state r d done output began is given = subst (λ o. AllOut r d o) is (subst (λ st. GivenOut st output) began given)

  pub drain_failed : (state : Option (Reader × D)) (r : Reader) (d : D) (failed : Failed (Reader × D)) (output : Result (Reader × D) (Failed (Reader × D))) (left : Drained D)
      → state ≡ Some (r, d) → output ≡ Err failed → GivenOut state output → left.dest ≡ failed.left.1 → left.mark.consumed.count ≡ length failed.left.0.side.end.taken
      → DrainedTo contents r d left × (FailsOnce fails failed.left.0 failed.error ⊎ IsOfWrite failed.error)
  drain_failed state r d failed output left began is given dest count =
      let all : AllOut r d (Err failed) = subst (λ o. AllOut r d o) is (subst (λ st. GivenOut st output) began given) in
      (drained_to r failed.left.0 d failed.left.1 left all.0 dest count, ⊎_elim (λ own. inl own) (λ std. inr std.0) all.1)
