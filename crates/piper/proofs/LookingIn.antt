-- A fill's look, after which nothing was moved.
use Rattle.std.proofs.Common.{◌≡◌, ℕ, ◌<◌, ◌⊎◌, [], ◌++◌, length, true, Result, refl, sym, subst, ap, ◌∙◌, append-nil, arith}
use Rattle.futures.specs.declared.task.Poll.{Poll}
use Rattle.piper_ring.specs.Loads.{FoundConsumed}
use Rattle.piper_ring.specs.WriteView.{WriteView}
use Rattle.piper.proofs.Pending.{not_set}
use Rattle.piper.specs.Copies.{IsReplaced}
use Rattle.piper.specs.CopyAnswers.{Copies}
use Rattle.piper.specs.Fills.{FillRounds, Fills, WriterFilled}
use Rattle.piper.specs.Like.{Passes}
use Rattle.piper_ring.specs.Looks.{WriterIsUpToDate, WriterLooked}
use Rattle.piper.specs.Polls.{IfReadyOk}
use Rattle.piper.specs.declared.error.CopyError.{CopyError}

-- what a load of the head showed stays so while bytes are published into that room
up_to_date : (a b : WriteView) → WriterFilled a b → IsReplaced a b → WriterIsUpToDate a → WriterIsUpToDate b
up_to_date a b filled room now =
    let capacity : b.capacity ≡ a.capacity = ap (λ (v : WriteView). v.capacity) filled.rest in (
      omega (arith, now.0, ap (λ (v : WriteView). v.observed) filled.rest, capacity, room),
      (now.1.0, subst (λ (v : WriteView). FoundConsumed v.ring.names now.1.0) (sym filled.rest) now.1.1, omega (arith, now.1.2, capacity, room)),
    )

-- a look changes nothing but what rounds change
looked_fills : (a w : WriteView) → WriterLooked a w → WriterFilled a w
looked_fills a w looked = record {
  saw = looked.saw;
  rest = subst (λ (v : WriteView). v ≡ record a { sent = v.sent; room = v.room; lent = v.lent; saw = v.saw }) (sym looked.rest) refl;
}

same_sent : (a w : WriteView) → WriterLooked a w → w.sent ≡ a.sent
same_sent a w looked = ap (λ (v : WriteView). v.sent) looked.rest

module _ {S E : Type 0} (gives : Passes S) (is_dry : S → Type 0) (fails : S → E → S → Type 0) where
  -- nothing was moved after the look
  pub fills_none : (r : Poll (Result ℕ (CopyError E))) (a w : WriteView) (s : S) → WriterLooked a w → Copies gives fails r s s [] → IfReadyOk r (λ n. (((0 < n) × (w.room ≡ 0)) ⊎ is_dry s) ⊎ (w.saw ≡ true))
      → Fills gives is_dry fails r a w s s
  fills_none r a w s looked copied most = record {
    published = [];
    lost = [];
    sent = same_sent a w looked ∙ sym (append-nil a.sent);
    all = λ _. refl;
    last = omega arith;
    room = λ some. omega (arith, ap length (same_sent a w looked), looked.known some);
    fresh = looked.fresh;
    copied = copied;
    most = most;
    end = looked_fills a w looked;
  }

  -- rounds moved bytes after the look
  pub fills_rounds : (r : Poll (Result ℕ (CopyError E))) (a w m b : WriteView) (s t : S) → WriterLooked a w → m ≡ w → FillRounds gives is_dry fails r m b s t
      → Fills gives is_dry fails r a b s t
  fills_rounds r a w m b s t looked same rounds =
      let d : FillRounds gives is_dry fails r w b s t = subst (λ v. FillRounds gives is_dry fails r v b s t) same rounds in record {
        published = d.published;
        lost = d.lost;
        sent = d.sent ∙ ap (λ l. l ++ d.published) (same_sent a w looked);
        all = d.all;
        last = d.last;
        room = λ some. omega (arith, d.room, ap length (same_sent a w looked), looked.known some);
        fresh = λ none unseen. up_to_date w b d.end d.room (looked.fresh none (not_set w.saw b.saw d.end.saw unseen));
        copied = d.copied;
        most = d.most;
        end = record {
          saw = λ seen. d.end.saw (looked.saw seen);
          rest = d.end.rest ∙ ap (λ (v : WriteView). record v { sent = b.sent; room = b.room; lent = b.lent; saw = b.saw }) looked.rest;
        };
      }

-- a look that goes on where it found no room is one look
pub looked_on : (a b c : WriteView) → WriterLooked a b → b.room ≡ 0 → WriterLooked b c → WriterLooked a c
looked_on a b c p none q = record {
  known = λ some. absurd (omega (arith, some, p.known some, none));
  fresh = λ empty unseen. q.fresh none unseen;
  saw = λ seen. q.saw (p.saw seen);
  rest = q.rest ∙ ap (λ (v : WriteView). record v { room = c.room; saw = c.saw }) p.rest;
}
