-- What passes in two steps passes in order, and where nothing passes a handle is as it was.
use Rattle.std.specs.Prelude.{◌≡◌, ◌++◌, Bool, true, false, List, [], ℕ, refl}
use Rattle.std.proofs.Common.{sym, ap, ap₂, ◌∙◌, append_assoc, append-nil, true≢false}
use Rattle.piper.specs.Copies.{ReaderCopied}
use Rattle.piper.specs.ReadView.{ReadView}
use Rattle.piper.specs.WriteView.{WriteView}
use Rattle.piper.specs.declared.handles.Reader.{Reader}
use Rattle.piper.specs.declared.handles.Writer.{Writer}
use Rattle.piper_tokio.specs.Passing.{Took, Gave, IsWritten}

-- what is unseen was unseen
pub unseen_before : (a b : Bool) → (a ≡ true → b ≡ true) → b ≡ false → a ≡ false
unseen_before false b seen e = refl
unseen_before true b seen e = absurd (true≢false (sym (seen refl) ∙ e))

pub copied_on : (a b c : ReadView) → ReaderCopied a b → ReaderCopied b c → ReaderCopied a c
copied_on a b c p q =
    record {
      saw = λ seen. q.saw (p.saw seen);
      rest = q.rest
          ∙ ap (λ (v : ReadView). record v
          { taken = c.taken; known = c.known; saw = c.saw; all = c.all }) p.rest;
    }

pub written_on : (a b c : WriteView) → IsWritten a b → IsWritten b c → IsWritten a c
written_on a b c p q =
    q ∙ ap (λ (v : WriteView). record v
    { sent = c.sent; room = c.room; lent = c.lent; shut = c.shut; saw = c.saw }) p

-- bytes joined on after others
pub joined_on : (us vs ws xs ys : List ℕ) → vs ≡ us ++ xs → ws ≡ vs ++ ys → ws ≡ us ++ (xs ++ ys)
joined_on us vs ws xs ys p q = q ∙ ap (λ zs. zs ++ ys) p ∙ append_assoc us xs ys

pub took_nothing : (a : Reader) → Took a [] a
took_nothing a =
    record {
      taken = sym (append-nil a.side.end.taken);
      end = record { saw = λ seen. seen; rest = refl };
      handle = (refl, refl);
    }

pub took_in_order : (a : Reader) (xs : List ℕ) (b : Reader) (ys : List ℕ) (c : Reader)
    → Took a xs b → Took b ys c → Took a (xs ++ ys) c
took_in_order a xs b ys c p q =
    record {
      taken = joined_on a.side.end.taken b.side.end.taken c.side.end.taken xs ys p.taken q.taken;
      end = copied_on a.side.end b.side.end c.side.end p.end q.end;
      handle = (q.handle.0 ∙ p.handle.0, q.handle.1 ∙ p.handle.1);
    }

pub gave_nothing : (a : Writer) → Gave a [] a
gave_nothing a =
    record {
      published = [];
      lost = [];
      given = refl;
      sent = sym (append-nil a.side.end.sent);
      all = λ _. refl;
      over = λ _. refl;
      saw = λ seen. seen;
      end = refl;
      handle = (refl, refl);
    }

-- two pieces were given: of the first nothing was lost, or of the second nothing was published
pub given_on : (saw : Bool) (xs ys us vs ws zs : List ℕ) → xs ≡ us ++ vs → ys ≡ ws ++ zs
    → (saw ≡ false → vs ≡ []) → (saw ≡ true → ws ≡ [])
    → xs ++ ys ≡ (us ++ ws) ++ (vs ++ zs)
given_on false xs ys us vs ws zs p q all over =
    let none : vs ≡ [] = all refl in
    ap₂ (λ ks ls. ks ++ ls) (p ∙ ap (λ ks. us ++ ks) none ∙ append-nil us) q
    ∙ sym (append_assoc us ws zs)
    ∙ ap (λ ks. (us ++ ws) ++ (ks ++ zs)) (sym none)
given_on true xs ys us vs ws zs p q all over =
    let none : ws ≡ [] = over refl in
    ap₂ (λ ks ls. ks ++ ls) p (q ∙ ap (λ ks. ks ++ zs) none)
    ∙ append_assoc us vs zs
    ∙ ap (λ ks. ks ++ (vs ++ zs)) (sym (append-nil us))
    ∙ ap (λ ks. (us ++ ks) ++ (vs ++ zs)) (sym none)

pub both_nil : (xs ys : List ℕ) → xs ≡ [] → ys ≡ [] → xs ++ ys ≡ []
both_nil xs ys p q = ap₂ (λ ks ls. ks ++ ls) p q

pub gave_in_order : (a : Writer) (xs : List ℕ) (b : Writer) (ys : List ℕ) (c : Writer)
    → Gave a xs b → Gave b ys c → Gave a (xs ++ ys) c
gave_in_order a xs b ys c p q =
    record {
      published = p.published ++ q.published;
      lost = p.lost ++ q.lost;
      given =
          given_on b.side.end.saw xs ys p.published p.lost q.published q.lost
          p.given q.given p.all q.over;
      sent =
          joined_on a.side.end.sent b.side.end.sent c.side.end.sent
          p.published q.published p.sent q.sent;
      all = λ unseen.
          both_nil p.lost q.lost (p.all (unseen_before b.side.end.saw c.side.end.saw q.saw unseen))
          (q.all unseen);
      over = λ seen.
          both_nil p.published q.published (p.over seen)
          (q.over (p.saw seen));
      saw = λ seen. q.saw (p.saw seen);
      end = written_on a.side.end b.side.end c.side.end p.end q.end;
      handle = (q.handle.0 ∙ p.handle.0, q.handle.1 ∙ p.handle.1);
    }
