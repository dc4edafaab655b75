-- What a write counted was given, and a front of it published.
use Rattle.std.proofs.Common.{◌≡◌, ℕ, ◌≤◌, ◌++◌, true, List, [], take, drop, length, refl, subst, sym, ap, ◌∙◌, arith, take-take, take-append-drop, drop_of_length-le, length-take}
use Rattle.piper.specs.WriteView.{WriteView}
use Rattle.piper.specs.WriterCalls.{Filled, SameWriterButMoved}
use Rattle.piper.specs.declared.handles.Writer.{Writer}
use Rattle.piper.proofs.Traits.{as_many}
use Rattle.piper_tokio.specs.Passing.{Gave, IsWritten}

-- n bytes were counted, and the first m of them published
pub counted : (n m : ℕ) (xs : List ℕ) → m ≤ n → take n xs ≡ take m xs ++ drop m (take n xs)
counted n m xs le = sym (take-append-drop m (take n xs)) ∙ ap (λ ys. ys ++ drop m (take n xs)) (take-take m n xs le)

pub none_lost : (n m : ℕ) (xs : List ℕ) → m ≡ n → drop m (take n xs) ≡ []
none_lost n m xs same =
    let few : length (take n xs) ≤ m = omega (arith, length-take n xs) in
    drop_of_length-le (take n xs) few

pub gave_front : (a b : Writer) (n : ℕ) (xs : List ℕ) → Filled n a b xs → (a.side.end.saw ≡ true → n ≡ 0) → SameWriterButMoved a b → Gave a (take n xs) b
gave_front a b n xs filled over same =
    let m : ℕ = filled.front.0 in
    record {
      published = take m xs;
      lost = drop m (take n xs);
      given = counted n m xs filled.front.1;
      sent = filled.front.2;
      all = λ unseen. none_lost n m xs (as_many a.side.end.sent b.side.end.sent xs m n filled.front.1 filled.count filled.front.2 (filled.all unseen));
      over = λ seen. let none : n ≡ 0 = over seen in let zero : m ≡ 0 = omega (arith, filled.front.1) in ap (λ k. take k xs) zero;
      saw = same.end.saw;
      end = subst (λ (v : WriteView). IsWritten a.side.end v) (sym same.end.rest) refl;
      handle = (same.cells, same.source);
    }
