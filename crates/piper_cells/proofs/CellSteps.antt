-- The content of a place that is shared is taken out, told anew, and laid back. None of it is a step
-- of the program. Assumes `Logic`.
use Rattle.std.proofs.Common.{◌≡◌, ℕ, suc, ◌≤◌, Bool, true, false, [], ◌∷◌, sym, refl, ap, arith}
use seplogic.Ra.Pcs.{OpDef}
use Rattle.piper_cells.proofs.SpaceKit.{Ura, full_share, quarter, three_quarters, Share, Fml, fsep, fbor, finv, Logic, RattleType}
use mathlib.Core.Option.{some}
use base.Logic.{upd, upd_i}
use base.Share
use base.Graph.{sum_out}
use base.Growing.{numbers, latest, growing, grows}
use types.Growing.{latest_cut, latest_glue, latest_agrees, latest_grows}
use types.Owned.{own_sum}
use types.Na.{out, out_once}
use types.Kit.{‵, raw, ◌⊛◌, given, ◌$◌, ◌∵◌, !, qed, by, move, keep, split, fsplit, fsplit3, fjoin, fjoin3, fpick, fpack, learn, frame, assume, settle, suffices, rewrite, use1, use2, done}
use Rattle.piper_cells.proofs.Signs.{signs}
use Rattle.piper_cells.specs.TokenCell.{flips, odd, eighth, pledged, content, Loan, lies, Kept}

-- a number no less than n that reports what it is to report
abbrev Shows : ℕ → Bool → Type 0
Shows n y = (m : ℕ) × (n ≤ m) × (odd m ≡ y)

shows_from : (n : ℕ) (was y : Bool) → odd n ≡ was → Shows n y
shows_from n true true e = (n, omega arith, e)
shows_from n false false e = (n, omega arith, e)
shows_from n true false e = (suc n, omega arith, ap flips e)
shows_from n false true e = (suc n, omega arith, ap flips e)

pub shows : (n : ℕ) (y : Bool) → Shows n y
shows n y = shows_from n (odd n) y refl

module _ {M : Type 1} {𝓤 : Ura M} (𝓛 : Logic 𝓤) where
  open 𝓛 use {H, A}
  open signs 𝓛 use {Pr, ◌⊢◌, ◌∗◌, ⟦◌⟧}

  infix 26 ◌⊢◌
  infixr 35 ◌∗◌
  -- two shares that are more than the whole are not both there
  pub apart : (q r : Share) → ¬ OpDef Share.op q r → (γ a c : ℕ) (Z : Pr) → ⟦ latest numbers q γ a ⟧ ∗ ⟦ latest numbers r γ c ⟧ ⊢ Z
  unfolding latest
  apart q r over γ a c Z = own_sum 𝓛 (growing numbers) γ (some q, a) (some r, c) Z (λ x m. absurd (over (sum_out (grows numbers) (some q, a) (some r, c) x m).0.0))

  module _ (R : RattleType) (full : R.Denot → Bool) (name b o : ℕ) (t : Loan R full name b o) where
    abbrev C : Fml
    C = content R full name b o

    abbrev L : Bool → Fml
    L = lies R full name b o t

    abbrev I : Fml
    I = Kept R full name b o t

    abbrev num : Share → ℕ → Fml
    num q n = latest numbers q name n

    -- what is in hand while the content is out
    abbrev pub Taken : ℕ → Fml
    Taken n = fsep (fbor t.0 C) (fsep (out t.1) (num eighth n))

    abbrev pub Out : ℕ → Fml
    Out n = fsep (out t.1) (fsep (num eighth n) (num quarter n))

    takes : (n : ℕ) (y : Bool) → ⟦ L y ⟧ ∗ ⟦ num three_quarters n ⟧ ⊢ upd 𝓤 (⟦ I ⟧ ∗ ⟦ Taken n ⟧)
    takes n true = qed 𝓛 (‵ (L true) ∷ ‵ (num three_quarters n) ∷ []) ∵ suffices ! _ (upd_i 𝓤 (⟦ I ⟧ ∗ ⟦ Taken n ⟧)) $ fsplit ! $ move ! (2 ∷ []) $
        use1 𝓛 (‵ (num eighth n) ⊛ ‵ (num pledged n)) (latest_cut numbers 𝓛 three_quarters eighth pledged name n (tt, refl)) $ split ! $ move ! (1 ∷ []) $
        fpack ! ℕ (num pledged) n $ fpack ! Bool L false $ frame ! $ move ! (1 ∷ 2 ∷ 0 ∷ []) $ fjoin3 ! $ done !
    takes n false = qed 𝓛 (‵ (L false) ∷ ‵ (num three_quarters n) ∷ []) ∵ fpick ! (λ m. by ! (apart pledged three_quarters (λ d. absurd d) name m n _))

    turns : (n n' : ℕ) → n ≤ n' → (y : Bool) → ⟦ L y ⟧ ∗ ⟦ Out n ⟧ ⊢ upd 𝓤 (⟦ I ⟧ ∗ ⟦ Out n' ⟧)
    turns n n' up true = qed 𝓛 (‵ (L true) ∷ ‵ (Out n) ∷ []) ∵ fsplit ! $ move ! (2 ∷ []) $ fsplit ! $ keep ! (0 ∷ 3 ∷ []) $ by ! (out_once 𝓛 t.1 (⟦ I ⟧ ∗ ⟦ Out n' ⟧))
    turns n n' up false = let Z : Pr = ⟦ I ⟧ ∗ ⟦ Out n' ⟧ in qed 𝓛 (‵ (L false) ∷ ‵ (Out n) ∷ []) ∵ fpick ! (λ m. move ! (1 ∷ []) $ fsplit3 ! $ move ! (1 ∷ 3 ∷ []) $
        use2 𝓛 (given (n ≡ m) (‵ (num eighth n) ⊛ ‵ (num pledged m))) (latest_agrees numbers 𝓛 eighth pledged name n m) $ learn ! (λ same. split ! $
        rewrite ! 1 (λ (k : ℕ). ‵ (num pledged k)) (sym same) refl $ use2 𝓛 (‵ (num three_quarters n)) (latest_glue numbers 𝓛 three_quarters eighth pledged name n (tt, refl)) $
        move ! (2 ∷ 0 ∷ []) $ use2 𝓛 (‵ (num full_share n)) (latest_glue numbers 𝓛 full_share quarter three_quarters name n Share.quarters) $
        use1 𝓛 (raw (upd 𝓤 ⟦ num full_share n' ⟧)) (latest_grows numbers 𝓛 name n n' up) $ settle 𝓛 Z (‵ (num full_share n')) $ suffices ! _ (upd_i 𝓤 Z) $
        use1 𝓛 (‵ (num quarter n') ⊛ ‵ (num three_quarters n')) (latest_cut numbers 𝓛 full_share quarter three_quarters name n' Share.quarters) $ split ! $ move ! (1 ∷ []) $
        use1 𝓛 (‵ (num eighth n') ⊛ ‵ (num pledged n')) (latest_cut numbers 𝓛 three_quarters eighth pledged name n' (tt, refl)) $ split ! $ move ! (1 ∷ []) $
        fpack ! ℕ (num pledged) n' $ fpack ! Bool L false $ frame ! $ move ! (2 ∷ 0 ∷ 1 ∷ []) $ fjoin3 ! $ done !))

    lays : (n : ℕ) (y : Bool) → ⟦ L y ⟧ ∗ ⟦ Taken n ⟧ ⊢ upd 𝓤 (⟦ I ⟧ ∗ ⟦ num three_quarters n ⟧)
    lays n true = qed 𝓛 (‵ (L true) ∷ ‵ (Taken n) ∷ []) ∵ fsplit ! $ move ! (2 ∷ []) $ fsplit3 ! $ keep ! (1 ∷ 4 ∷ []) $ by ! (out_once 𝓛 t.1 (⟦ I ⟧ ∗ ⟦ num three_quarters n ⟧))
    lays n false = qed 𝓛 (‵ (L false) ∷ ‵ (Taken n) ∷ []) ∵ fpick ! (λ m. move ! (1 ∷ []) $ fsplit3 ! $ move ! (2 ∷ 3 ∷ []) $
        use2 𝓛 (given (n ≡ m) (‵ (num eighth n) ⊛ ‵ (num pledged m))) (latest_agrees numbers 𝓛 eighth pledged name n m) $ learn ! (λ same. split ! $
        rewrite ! 1 (λ (k : ℕ). ‵ (num pledged k)) (sym same) refl $ use2 𝓛 (‵ (num three_quarters n)) (latest_glue numbers 𝓛 three_quarters eighth pledged name n (tt, refl)) $
        suffices ! _ (upd_i 𝓤 (⟦ I ⟧ ∗ ⟦ num three_quarters n ⟧)) $ move ! (1 ∷ 2 ∷ []) $ fjoin ! $ fpack ! Bool L true $ done !))

    pub takes_out : (n : ℕ) → A.inv I ∗ ⟦ num three_quarters n ⟧ ⊢ H.⇛ ⟦ Taken n ⟧
    takes_out n = qed 𝓛 (‵ (finv I) ∷ ‵ (num three_quarters n) ∷ []) ∵ suffices ! _ (𝓛.invs.inv_acc I ⟦ Taken n ⟧) $ frame ! $ assume ! (‵ I) $ fpick ! (λ y. by ! (takes n y))

    pub shows_anew : (n n' : ℕ) → n ≤ n' → A.inv I ∗ ⟦ Out n ⟧ ⊢ H.⇛ ⟦ Out n' ⟧
    shows_anew n n' up = qed 𝓛 (‵ (finv I) ∷ ‵ (Out n) ∷ []) ∵ suffices ! _ (𝓛.invs.inv_acc I ⟦ Out n' ⟧) $ frame ! $ assume ! (‵ I) $ fpick ! (λ y. by ! (turns n n' up y))

    pub lays_back : (n : ℕ) → A.inv I ∗ ⟦ Taken n ⟧ ⊢ H.⇛ ⟦ num three_quarters n ⟧
    lays_back n = qed 𝓛 (‵ (finv I) ∷ ‵ (Taken n) ∷ []) ∵ suffices ! _ (𝓛.invs.inv_acc I ⟦ num three_quarters n ⟧) $ frame ! $ assume ! (‵ I) $ fpick ! (λ y. by ! (lays n y))
