-- What both sides did is a transfer.
use Rattle.std.proofs.Common.{◌≡◌, ℕ, Bool, true, List, [], ◌++◌, Option, Result, inl, inr, refl, sym, ap, subst, ◌∙◌, append-nil}
use Rattle.std.proofs.lemmas.List.{append_cancel_left}
use Rattle.std.specs.Prelude.{OnOk}
use Rattle.std.specs.Io.KnownBytes.{Consumes, IsAtEnd}
use Rattle.std.proofs.KnownBytes.{Consumes-nil}
use Rattle.piper.proofs.Ended.{ended_knows}
use Rattle.piper.specs.ReadView.{ReadView, KnowsEnd}
use Rattle.piper.specs.WriteView.{WriteView, either}
use Rattle.piper_transfer.proofs.Sides.{gets_none}
use Rattle.piper_transfer.specs.Transfer.{Fed, IsDrained, PouredAll, Transfers, WritesAll}
use Rattle.piper_transfer.specs.declared.error.TransferError.{TransferError}

-- nothing was moved
pub nothing_moved : {D : Type 0} (C : D → Option (List ℕ)) (T : D → List (List ℕ) → List ℕ → Type 0) (d : D) (r : Result Unit TransferError) (i : Option (List ℕ))
    → OnOk r (IsAtEnd i) → Transfers r i i C T d d
nothing_moved C T d r i ended = record { written = []; left = []; given = Consumes-nil i; gets = gets_none C T d; all = λ _. refl; ended = ended }

-- what the input gave is what was published, and so what was taken and what is still known
pub given_is_seen : (i j : Option (List ℕ)) (w0 w1 : WriteView) (r : ReadView) (xs : List ℕ) → w0.sent ≡ [] → Fed i j w0 w1 → r.taken ++ r.known ≡ w1.sent → r.taken ≡ xs → Consumes i j (xs ++ r.known)
given_is_seen i j w0 w1 r xs fresh fed fifo taken =
    let given : w1.sent ≡ fed.given = fed.sent ∙ ap (λ ys. ys ++ fed.given) fresh in
    subst (Consumes i j) (sym given ∙ sym fifo ∙ ap (λ ys. ys ++ r.known) taken) fed.consumed

-- what is left is what is still known
pub whole : {D : Type 0} (C : D → Option (List ℕ)) (T : D → List (List ℕ) → List ℕ → Type 0) (d e : D) (r : Result Unit TransferError) (i j : Option (List ℕ)) (w0 w1 : WriteView) (r0 r1 : ReadView)
    → w0.sent ≡ [] → r0.taken ≡ [] → Fed i j w0 w1 → PouredAll C T d e r0 r1 → r1.taken ++ r1.known ≡ w1.sent
    → (WritesAll r → r1.known ≡ []) → OnOk r (IsAtEnd j) → Transfers r i j C T d e
whole C T d e r i j w0 w1 r0 r1 new_writer new_reader fed poured fifo all ended =
    let taken : r1.taken ≡ poured.written = poured.taken ∙ ap (λ xs. xs ++ poured.written) new_reader in
    record {
      written = poured.written;
      left = r1.known;
      given = given_is_seen i j w0 w1 r1 poured.written new_writer fed fifo taken;
      gets = poured.gets;
      all = all;
      ended = ended;
    }

-- the handles meet after a reported end, or where all was taken: nothing is known
pub none_known : (r1 r2 : ReadView) (w1 w2 : WriteView) → IsDrained r1 w1 → r2 ≡ record r1 { known = r2.known; all = r2.all } → r2.taken ++ r2.known ≡ w2.sent → w2.sent ≡ w1.sent
    → (KnowsEnd r2 → r2.all ≡ w2.sent) → (KnowsEnd r1 → r2.all ≡ r1.all) → r2.known ≡ []
none_known r1 r2 w1 w2 (inl ended) met fifo sent all same =
    let knows = ended_knows r1 ended in
    let knows2 : KnowsEnd r2 = subst (λ (b : Bool × Bool). either b.0 b.1 ≡ true) (λ i. ((sym met i).observed_shut, (sym met i).saw)) knows in
    append_cancel_left r2.taken r2.known [] (fifo ∙ sym (all knows2) ∙ same knows ∙ sym ended.all ∙ sym (ap (λ (v : ReadView). v.taken) met) ∙ sym (append-nil r2.taken))
none_known r1 r2 w1 w2 (inr whole) met fifo sent all same =
    append_cancel_left r2.taken r2.known [] (fifo ∙ sent ∙ sym whole ∙ sym (ap (λ (v : ReadView). v.taken) met) ∙ sym (append-nil r2.taken))
