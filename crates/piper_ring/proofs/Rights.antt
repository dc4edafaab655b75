-- What an end knows is cut and joined, lent, and moved up. Assumes `Logic`.
use Rattle.piper_ring.proofs.Kit.{ℕ, Bool, List, [], ◌∷◌, Ura, Order, numbers, latest, sep, snd∗, Lft, Share, Fml, GName, ftrue, fsep, finv, before, Logic, sem, ‵, raw, ◌⊛◌, ◌$◌, ◌∵◌, !, qed, move, drop, split, fsplit, fjoin, fpick, fpack, frame, use1, use2, updating, now, done, Ptr, beside_shr_laws, nothing, Lends, Lends-both, Lends-first, lends_twice, streams, Names, half, flag, writer_knows, reader_knows, arrived_first, Whole, RingIsPlaced, common, reader_owns, reader_lends, writer_owns, writer_lends, Known, by_reader, by_writer, knows, one_shr_laws, signs}
use base.Share.{left, right, halves}
use base.Fml.{fbor, fshr_bor}
use ghost.Rules.{Halves}
use types.Logic.{lfts}
use types.Growing.{latest_cut, latest_glue}
use types.Tokens.{bor_fracture}
use denote.Sharing.{ShrLaws, said, one}

module _ {M : Type 1} {𝓤 : Ura M} (𝓛 : Logic 𝓤) where
  open 𝓛 use {H, A}
  open signs 𝓛 use {Pr, ◌⊢◌, ◌∗◌, ⟦◌⟧}

  infix 26 ◌⊢◌
  infixr 35 ◌∗◌
  module _ {X : Type 0} (O : Order X) (γ : GName) (a : X) where
    pub cut : (q : Share) → ⟦ latest O q γ a ⟧ ⊢ ⟦ latest O (left q) γ a ⟧ ∗ ⟦ latest O (right q) γ a ⟧
    cut q = latest_cut O 𝓛 q (left q) (right q) γ a (halves q)

    pub glue : (q : Share) → ⟦ latest O (left q) γ a ⟧ ∗ ⟦ latest O (right q) γ a ⟧ ⊢ ⟦ latest O q γ a ⟧
    glue q = latest_glue O 𝓛 q (left q) (right q) γ a (halves q)

  module _ (F G : Share → Fml) (f : Halves 𝓤 H A F) (g : Halves 𝓤 H A G) where
    pub both_halve : Halves 𝓤 H A (λ q. fsep (F q) (G q))
    both_halve = record {
      cut = λ q. qed 𝓛 (‵ (F q) ∷ ‵ (G q) ∷ []) ∵ use1 𝓛 (‵ (F (left q)) ⊛ ‵ (F (right q))) (f.cut q) $ split ! $ move ! (2 ∷ []) $ use1 𝓛 (‵ (G (left q)) ⊛ ‵ (G (right q))) (g.cut q) $ split ! $
          move ! (2 ∷ 0 ∷ []) $ fjoin ! $ move ! (2 ∷ 1 ∷ []) $ fjoin ! $ move ! (1 ∷ 0 ∷ []) $ done !;
      join = λ q. qed 𝓛 (‵ (fsep (F (left q)) (G (left q))) ∷ ‵ (fsep (F (right q)) (G (right q))) ∷ []) ∵ fsplit ! $ move ! (2 ∷ []) $ fsplit ! $ move ! (2 ∷ 0 ∷ []) $
          use2 𝓛 (‵ (F q)) (f.join q) $ move ! (2 ∷ 1 ∷ []) $ use2 𝓛 (‵ (G q)) (g.join q) $ move ! (1 ∷ 0 ∷ []) $ fjoin ! $ done !;
    }

  right_halves : {X : Type 0} (O : Order X) (γ : GName) (a : X) → Halves 𝓤 H A (λ q. latest O q γ a)
  right_halves O γ a = record { cut = cut O γ a; join = glue O γ a }

  module _ (w p : Ptr) (z : Names) where
    pub writer_halves : (sent : List ℕ) (limit : ℕ) (shut : Bool) (stage : ℕ) → Halves 𝓤 H A (λ q. writer_knows w p z q sent limit shut stage)
    writer_halves sent limit shut stage = both_halve (λ q. latest streams q z.sent (sent, shut)) (λ q. fsep (latest numbers q z.limit limit) (latest numbers q z.writer_stage stage)) (right_halves streams z.sent (sent, shut))
        (both_halve (λ q. latest numbers q z.limit limit) (λ q. latest numbers q z.writer_stage stage) (right_halves numbers z.limit limit) (right_halves numbers z.writer_stage stage))

    abbrev C : Fml
    C = common w p z

    abbrev I : Fml
    I = Whole w p z

    pub common_twice : ⟦ C ⟧ ⊢ ⟦ C ⟧ ∗ ⟦ C ⟧
    common_twice = let Where : Type 0 = RingIsPlaced w p z in qed 𝓛 (‵ C ∷ []) ∵ fsplit ! $ fpick ! (λ here. drop ! $
        use1 𝓛 (‵ (finv I) ⊛ ‵ (finv I)) (𝓛.invs.inv_dup I) $ split ! $ nothing ! $ fpack ! Where (λ _. ftrue) here $ fjoin ! $ frame ! $ nothing ! $ fpack ! Where (λ _. ftrue) here $ done !)

    pub reader_halves : (head seen stage : ℕ) → Halves 𝓤 H A (λ q. reader_knows w p z q head seen stage)
    reader_halves head seen stage = both_halve (λ q. fsep (latest numbers q z.head head) (latest numbers q z.reader_stage stage)) (λ q. latest numbers q z.seen seen)
        (both_halve (λ q. latest numbers q z.head head) (λ q. latest numbers q z.reader_stage stage) (right_halves numbers z.head head) (right_halves numbers z.reader_stage stage)) (right_halves numbers z.seen seen)

    pub known_halves : (k : Known) → Halves 𝓤 H A (knows w p z k)
    known_halves (by_reader head seen leaving) = reader_halves head seen (flag leaving)
    known_halves (by_writer sent limit shut) = writer_halves sent limit shut 0

    pub fractures : (Φ : Share → Fml) (s : Share) (l : Lft) → Lends 𝓛 (Φ s) (one Φ) l
    fractures Φ s l ν ts inc sp = qed 𝓛 (‵ (fbor ν (Φ s)) ∷ raw (lfts 𝓛 ts) ∷ []) {P = H.⇛ (sep 𝓤 (sem 𝓛 (fshr_bor ν Φ)) (lfts 𝓛 ts))} (updating ! $ bor_fracture ! tt Φ s $ now ! $ done !)

    pub lends_reader : (head seen : ℕ) (have : List ℕ) (left : Bool) (l : Lft) → Lends 𝓛 (reader_owns w p z head seen have left) (reader_lends w p z head seen left) l
    lends_reader head seen have left l = let Φ : Share → Fml = λ q. reader_knows w p z q head seen (flag left) in let K : Fml = arrived_first w p z seen have in
        Lends-both 𝓛 C (fsep (Φ half) K) (said C) (one Φ) l (lends_twice 𝓛 C common_twice l) (Lends-first 𝓛 (Φ half) K (one Φ) l (fractures Φ half l))

    pub lends_writer : (sent : List ℕ) (limit : ℕ) (shut : Bool) (l : Lft) → Lends 𝓛 (writer_owns w p z sent limit shut) (writer_lends w p z sent limit shut) l
    lends_writer sent limit shut l = let Φ : Share → Fml = λ q. writer_knows w p z q sent limit shut 0 in Lends-both 𝓛 C (Φ half) (said C) (one Φ) l (lends_twice 𝓛 C common_twice l) (fractures Φ half l)

module _ (w p : Ptr) (z : Names) where
  common_laws : ShrLaws (said (common w p z))
  common_laws = record { contraction = λ M 𝓤 𝓛 ν. common_twice 𝓛 w p z; mono = λ M 𝓤 𝓛 μ ν. snd∗ 𝓤 (sem 𝓛 (before μ ν)) (sem 𝓛 (common w p z)) }

  pub reader_laws : (head seen : ℕ) (left : Bool) → ShrLaws (reader_lends w p z head seen left)
  reader_laws head seen left = let Φ : Share → Fml = λ q. reader_knows w p z q head seen (flag left) in beside_shr_laws (said (common w p z)) (one Φ) common_laws (one_shr_laws Φ)

  pub writer_laws : (sent : List ℕ) (limit : ℕ) (shut : Bool) → ShrLaws (writer_lends w p z sent limit shut)
  writer_laws sent limit shut = let Φ : Share → Fml = λ q. writer_knows w p z q sent limit shut 0 in beside_shr_laws (said (common w p z)) (one Φ) common_laws (one_shr_laws Φ)
