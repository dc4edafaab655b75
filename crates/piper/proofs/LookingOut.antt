-- A drain's look, after which nothing was moved, or rounds moved what it found.
use Rattle.std.proofs.Common.{◌≡◌, ℕ, ◌<◌, ◌⊎◌, Bool, true, false, [], ◌++◌, length, Result, refl, sym, ap, ◌∙◌, subst, append-nil, length-append, arith}
use Rattle.std.proofs.lemmas.List.{nil_from_length}
use Rattle.futures.specs.declared.task.Poll.{Poll}
use Rattle.piper_ring.specs.ReadView.{ReadView}
use Rattle.piper_ring.specs.Streams.{either}
use Rattle.piper.specs.CopyAnswers.{Copies}
use Rattle.piper.specs.Drains.{Drains, DrainRounds, found_len}
use Rattle.piper.specs.Like.{Passes}
use Rattle.piper_ring.specs.Looks.{ReaderLooked}
use Rattle.piper.specs.Polls.{OnReadyOk}
use Rattle.piper_ring.proofs.Loaded.{still_loaded}
use Rattle.piper.specs.declared.error.CopyError.{CopyError}

module _ {S E : Type 0} (takes : Passes S) (is_full : S → Type 0) (fails : S → E → S → Type 0) where
  -- nothing was moved after the look
  pub drains_none : (r : Poll (Result ℕ (CopyError E))) (a w : ReadView) (s : S) → ReaderLooked a w → Copies takes fails r s s [] → OnReadyOk r ((w.known ≡ []) ⊎ is_full s)
      → Drains takes is_full fails r a w s s
  drains_none r a w s looked copied most = record {
    moved = [];
    taken = ap (λ (v : ReadView). v.taken) looked.rest ∙ sym (append-nil a.taken);
    known = λ some. ap (λ (v : ReadView). v.known) (sym (looked.known some));
    fresh = looked.fresh;
    copied = copied;
    most = most;
    end = record { saw = looked.saw; rest = subst (λ (v : ReadView). v ≡ record a { taken = v.taken; known = v.known; saw = v.saw; all = v.all }) (sym looked.rest) refl };
  }

  -- rounds moved bytes after the look
  module _ (r : Poll (Result ℕ (CopyError E))) (a w m b : ReadView) (s t : S) (looked : ReaderLooked a w) (same : m ≡ w) (rounds : DrainRounds takes is_full fails r m b s t) where
    d : DrainRounds takes is_full fails r w b s t
    d = subst (λ v. DrainRounds takes is_full fails r v b s t) same rounds

    same_taken : w.taken ≡ a.taken
    same_taken = ap (λ (v : ReadView). v.taken) looked.rest

    pub drains_rounds : Drains takes is_full fails r a b s t
    drains_rounds = record {
      moved = d.moved;
      taken = d.taken ∙ ap (λ l. l ++ d.moved) same_taken;
      known = λ some. ap (λ (v : ReadView). v.known) (sym (looked.known some)) ∙ d.known;
      fresh = λ none.
          (omega (arith, (looked.fresh none).0, ap (λ (v : ReadView). v.observed) d.rest, ap length d.taken, ap length d.known, length-append w.taken w.known, length-append b.taken b.known, length-append w.taken d.moved, length-append d.moved b.known), still_loaded w b (ap (λ (v : ReadView). v.ring) d.rest) (omega (arith, ap length d.taken, ap length d.known, length-append w.taken w.known, length-append b.taken b.known, length-append w.taken d.moved, length-append d.moved b.known)) (looked.fresh none).1);
      copied = d.copied;
      most = d.most;
      end = record {
        saw = λ seen. ap (λ (v : ReadView). v.saw) d.rest ∙ looked.saw seen;
        rest = subst (λ (v : ReadView). v ≡ record a { taken = v.taken; known = v.known; saw = v.saw; all = v.all })
            (sym (d.rest ∙ ap (λ (v : ReadView). record v { taken = b.taken; known = b.known }) looked.rest)) refl;
      };
    }

    -- which found some
    pub found_some : 0 < length w.known → 0 < found_len a b
    found_some some = omega (arith, some, ap length same_taken, ap length d.taken, ap length d.known, length-append w.taken d.moved, length-append d.moved b.known)

knows_still : (told saw told' saw' : Bool) → told' ≡ told → (saw ≡ true → saw' ≡ true) → either told saw ≡ true → either told' saw' ≡ true
knows_still true saw told' saw' same kept knows = ap (λ t. either t saw') same
knows_still false saw told' saw' same kept knows = ap (λ t. either t saw') same ∙ kept knows

-- a look that goes on where it found no byte is one look
pub looked_on : (a b c : ReadView) → ReaderLooked a b → length b.known ≡ 0 → ReaderLooked b c → ReaderLooked a c
looked_on a b c p none q = record {
  known = λ some. absurd (omega (arith, some, ap (λ (r : ReadView). length r.known) (p.known some), none));
  fresh = λ empty. q.fresh (nil_from_length b.known none);
  saw = λ seen. q.saw (p.saw seen);
  all = λ knows. q.all (knows_still a.observed_shut a.saw b.observed_shut b.saw (ap (λ (v : ReadView). v.observed_shut) p.rest) p.saw knows) ∙ p.all knows;
  ended = λ e. q.ended (p.ended e);
  rest = q.rest ∙ ap (λ (v : ReadView). record v { known = c.known; saw = c.saw; all = c.all }) p.rest;
}
