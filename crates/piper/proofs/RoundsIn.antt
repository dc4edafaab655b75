-- Rounds of a fill, one after the other.
use Rattle.std.proofs.Common.{◌≡◌, ℕ, ◌+◌, ◌-◌, ◌<◌, ◌≤◌, ◌⊎◌, Bool, true, false, true≢false, List, [], ◌++◌, take, drop, length, Ok, Err, refl, sym, ap, ◌∙◌, subst, append_assoc, append-nil, length-append, length-take-le, inl, inr, arith}
use Rattle.futures.specs.declared.task.Poll.TheVariants.{Ready}
use Rattle.piper_ring.specs.WriteView.{WriteView}
use Rattle.piper.specs.Copies.{IsReplaced}
use Rattle.piper.specs.Fills.{FillRounds, WriterFilled, most_of_round}
use Rattle.piper.specs.Like.{Passes, PassesInOrder}
use Rattle.piper.specs.declared.error.CopyError.TheVariants.{Like}

-- the source gave `sum` bytes in the rounds so far, which were published
pub record Filled {S : Type 0} (gives : Passes S) (a b : WriteView) (s t : S) (sum : ℕ) : Type 0 where
  pub given : List ℕ
  pub sent : b.sent ≡ a.sent ++ given
  pub passed : gives s given t
  pub count : length given ≡ sum
  pub room : IsReplaced a b
  pub end : WriterFilled a b

-- what rounds change
rounds_change : (a w : WriteView) (sent : List ℕ) (room : ℕ) (lent : List ℕ) (saw : Bool) → w ≡ record a { sent = sent; room = room; lent = lent; saw = saw }
    → w ≡ record a { sent = w.sent; room = w.room; lent = w.lent; saw = w.saw }
rounds_change a w sent room lent saw is = subst (λ (v : WriteView). v ≡ record a { sent = v.sent; room = v.room; lent = v.lent; saw = v.saw }) (sym is) refl

-- c is the writer b, but for what it lends
filled_relent : (a b c : WriteView) → WriterFilled a b → c ≡ record b { lent = c.lent } → WriterFilled a c
filled_relent a b c p q = record {
  saw = λ seen. ap (λ (v : WriteView). v.saw) q ∙ p.saw seen;
  rest = rounds_change a c _ _ _ _ (q ∙ ap (λ (v : WriteView). record v { lent = c.lent }) p.rest);
}

-- and w may have seen closed since
filled_saw : (a c w : WriteView) (is_closed : Bool) → WriterFilled a c → c.saw ≡ false → w ≡ record c { saw = is_closed } → WriterFilled a w
filled_saw a c w is_closed p unseen q = record {
  saw = λ seen. absurd (true≢false (sym (p.saw seen) ∙ unseen));
  rest = rounds_change a w _ _ _ _ (q ∙ ap (λ (v : WriteView). record v { saw = is_closed }) p.rest);
}

module _ {S : Type 0} (gives : Passes S) (in_order : PassesInOrder gives) (a b c : WriteView) (s t u : S) (sum : ℕ) (d : Filled gives a b s t sum) (relent : c ≡ record b { lent = c.lent }) where
  same_sent : c.sent ≡ b.sent
  same_sent = ap (λ (v : WriteView). v.sent) relent

  replaced : IsReplaced a c
  replaced = omega (arith, d.room, ap length same_sent, ap (λ (v : WriteView). v.room) relent)

  more : (w : WriteView) (n : ℕ) → n ≤ length c.lent → length (d.given ++ take n c.lent) ≡ sum + n
  more w n within = length-append d.given (take n c.lent) ∙ omega (arith, d.count, length-take-le n c.lent within)

  -- the source gave none
  pub fill_ended : {E : Type 0} (is_dry : S → Type 0) (fails : S → E → S → Type 0) → gives t [] u → (c.room ≡ 0) ⊎ is_dry u → (c.room ≡ 0 → 0 < sum)
      → FillRounds gives is_dry fails (Ready (Ok sum)) a c s u
  fill_ended is_dry fails none most some = record {
    published = d.given;
    lost = [];
    sent = same_sent ∙ d.sent;
    all = λ _. refl;
    last = omega arith;
    room = replaced;
    copied = (in_order s d.given t [] u d.passed none, ap length (append-nil d.given) ∙ d.count);
    most = inl (elim most [ inl full ↦ inl (some full, full) | inr dry ↦ inr dry ]);
    end = filled_relent a b c d.end relent;
  }

  -- the source failed
  pub fill_failed : {E : Type 0} (is_dry : S → Type 0) (fails : S → E → S → Type 0) (e : E) → gives t [] u → fails t e u
      → FillRounds gives is_dry fails (Ready (Err (Like e))) a c s u
  fill_failed is_dry fails e none failed = record {
    published = d.given;
    lost = [];
    sent = same_sent ∙ d.sent;
    all = λ _. refl;
    last = omega arith;
    room = replaced;
    copied = (in_order s d.given t [] u d.passed none, (t, subst (λ (l : List ℕ). gives s l t) (sym (append-nil d.given)) d.passed, failed));
    most = tt;
    end = filled_relent a b c d.end relent;
  }

  -- the source gave n bytes to a pipe that was then seen closed
  pub fill_closed : {E : Type 0} (is_dry : S → Type 0) (fails : S → E → S → Type 0) (w : WriteView) (n : ℕ) (is_closed : Bool) → n ≤ length c.lent → n ≤ most_of_round c → gives t (take n c.lent) u → c.saw ≡ false → w ≡ record c { saw = is_closed } → is_closed ≡ true
      → FillRounds gives is_dry fails (Ready (Ok (sum + n))) a w s u
  fill_closed is_dry fails w n is_closed within within_round some unseen saw closed = record {
    published = d.given;
    lost = take n c.lent;
    sent = ap (λ (v : WriteView). v.sent) saw ∙ same_sent ∙ d.sent;
    all = λ unclosed. absurd (true≢false (sym (ap (λ (v : WriteView). v.saw) saw ∙ closed) ∙ unclosed));
    last = omega (arith, length-take-le n c.lent within, within_round, ap most_of_round saw);
    room = omega (arith, replaced, ap (λ (v : WriteView). length v.sent) saw, ap (λ (v : WriteView). v.room) saw);
    copied = (in_order s d.given t (take n c.lent) u d.passed some, more w n within);
    most = inr (ap (λ (v : WriteView). v.saw) saw ∙ closed);
    end = filled_saw a c w is_closed (filled_relent a b c d.end relent) unseen saw;
  }

  -- the source gave n bytes, which were published
  pub filled_more : (w x : WriteView) (n : ℕ) (is_closed : Bool) → n ≤ length c.lent → gives t (take n c.lent) u → c.saw ≡ false → w ≡ record c { saw = is_closed } → n ≤ w.room
      → x ≡ record w { sent = w.sent ++ take n w.lent; lent = drop n w.lent; room = w.room - n }
      → Filled gives a x s u (sum + n)
  filled_more w x n is_closed within some unseen saw fits stored =
      let before : WriterFilled a w = filled_saw a c w is_closed (filled_relent a b c d.end relent) unseen saw in
      let lent : w.lent ≡ c.lent = ap (λ (v : WriteView). v.lent) saw in
      let all : w.sent ≡ a.sent ++ d.given = ap (λ (v : WriteView). v.sent) saw ∙ same_sent ∙ d.sent in
      let sent : w.sent ++ take n w.lent ≡ (a.sent ++ d.given) ++ take n c.lent = λ j. all j ++ take n (lent j) in
      rw stored (record {
        given = d.given ++ take n c.lent;
        sent = sent ∙ append_assoc a.sent d.given (take n c.lent);
        passed = in_order s d.given t (take n c.lent) u d.passed some;
        count = more w n within;
        room = omega (arith, replaced, ap (λ (v : WriteView). length v.sent) saw, ap (λ (v : WriteView). v.room) saw, fits, length-append w.sent (take n w.lent), ap length (ap (take n) lent), length-take-le n c.lent within);
        end = record { saw = before.saw; rest = ap (λ (v : WriteView). record v { sent = w.sent ++ take n w.lent; lent = drop n w.lent; room = w.room - n }) before.rest };
      })
