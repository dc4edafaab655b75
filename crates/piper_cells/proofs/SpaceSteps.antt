-- A space becomes room for a value, and once the value lies there, its borrow becomes what whoever
-- has a lease can see. Assumes `Logic`.
use Rattle.piper_cells.proofs.SpaceKit.{◌≡◌, ℕ, [], ◌∷◌, T, refl, sym, subst, Ura, Ty, Val, full_share, SProp, wand, upd_i, apply∗, id⊢, Lft, Incl-trans, Share, Fml, ftrue, fsep, fwand, fupd, fdead, froom, flft, fbor, fobor, align, ◌⊑◌, meet_⊑_left, meet_⊑_right, Logic, ‵, raw, ◌⊛◌, later, await, ◌$◌, ◌∵◌, !, qed, by, move, keep, split, split3, join, fsplit3, fjoin, assume, suffices, updating, now, done, use1, use2, obor_alter, u64, part_at, param, layout, Laws, param_laws, RattleType, Ptr, block_ptr, nothing, Lends-lies, lent_at, array_of, pick, some, fseps, Fits}
use Rattle.piper_cells.proofs.Signs.{signs}
use prog.Memory.{divides}
use borrow.Table.OneValue.{part_out}

-- eight is a multiple of an alignment of eight
eight : (n : ℕ) → n ≡ 8 → T (divides n 8)
eight n e = subst (λ (m : ℕ). T (divides m 8)) (sym e) tt

module _ {M : Type 1} {𝓤 : Ura M} (𝓛 : Logic 𝓤) (X : RattleType) (L : Laws X) (words b o : ℕ) where
  open 𝓛 use {H, A}
  open signs 𝓛 use {⟦◌⟧, ◌⊢◌, ◌∗◌}

  infix 26 ◌⊢◌
  infixr 35 ◌∗◌
  abbrev R : RattleType
  R = param 0 X

  abbrev τ : Ty
  τ = layout X

  abbrev pub Room : Fml
  Room = froom (array_of u64 words) b o

  abbrev pub Back : SProp 𝓤
  Back = wand 𝓤 ⟦ froom τ b o ⟧ ⟦ Room ⟧

  pub room_out : Fits words R → ⟦ Room ⟧ ⊢ ⟦ froom τ b o ⟧ ∗ Back
  room_out fits = 𝓛.laws.room_as (array_of u64 words) τ b o fits.0 (eight (align τ) fits.1)

  module _ (x : R.Denot) where
    abbrev pub There : Fml
    There = part_at R full_share x b o

    -- a value that nobody speaks of any more is room
    forgets : ⟦ There ⟧ ⊢ ⟦ froom τ b o ⟧
    forgets = qed 𝓛 (‵ There ∷ []) ∵ use1 𝓛 (some (λ (v : Val). raw (H.at full_share τ b o v) ⊛ ‵ (R.own_val x (v ∷ [])))) (part_out 𝓛 R refl full_share x b o) $ pick ! (λ v. split ! $ keep ! (0 ∷ []) $ by ! (𝓛.laws.at_room τ b o v))

    way_back : (κ : Lft) → Back ⊢ ⟦ fwand (fsep (fdead κ) (fseps (There ∷ []))) (fupd Room) ⟧
    unfolding fseps
    way_back κ = qed 𝓛 (raw Back ∷ []) ∵ assume ! (‵ (fsep (fdead κ) (fseps (There ∷ [])))) $ suffices ! ⟦ Room ⟧ (upd_i 𝓤 ⟦ Room ⟧) $ fsplit3 ! $ move ! (1 ∷ 3 ∷ []) $
        use1 𝓛 (‵ (froom τ b o)) forgets $ keep ! (0 ∷ 1 ∷ []) $ by ! (apply∗ 𝓤 ⟦ froom τ b o ⟧ ⟦ Room ⟧)

    -- the value lies in the open borrow of the room
    pub lies_there : (life : ℕ) (s : Share) (μ : Lft) (q : Share) → μ ⊑ X.lives
        → A.obor (life ∷ []) s Room ∗ ⟦ There ⟧ ∗ Back ∗ A.lft μ q ⊢ H.⇛ (⟦ lent_at R (block_ptr b o) x (life ∷ []) ⟧ ∗ A.lft (life ∷ []) s ∗ A.lft μ q)
    unfolding fseps
    lies_there life s μ q lives = let κ : Lft = life ∷ [] in let p : Ptr = block_ptr b o in
        qed 𝓛 (‵ (fobor κ s Room) ∷ ‵ There ∷ raw Back ∷ ‵ (flft μ q) ∷ []) ∵ updating ! $ move ! (2 ∷ []) $ use1 𝓛 (‵ (fwand (fsep (fdead κ) (fseps (There ∷ []))) (fupd Room))) (way_back κ) $
        nothing ! $ move ! (3 ∷ 0 ∷ []) $ fjoin ! $ move ! (2 ∷ 0 ∷ 1 ∷ []) $ obor_alter ! tt (There ∷ []) $ use1 𝓛 (‵ (fbor κ There) ⊛ ‵ ftrue) (id⊢ 𝓤 _) $ split ! $
        move ! (2 ∷ 3 ∷ []) $ join ! $ move ! (1 ∷ 0 ∷ []) $
        use2 𝓛 (later (‵ (lent_at R p x κ) ⊛ ‵ (flft κ s) ⊛ ‵ (flft μ q)))
        (Lends-lies 𝓛 R R.lives p x ((param_laws 0 X L).shares 𝓛 x) κ ((κ, s) ∷ (μ, q) ∷ []) (Incl-trans (meet_⊑_right κ μ) lives) (meet_⊑_left κ μ)) $
        await ! tt $ split3 ! $ now ! $ keep ! (0 ∷ 1 ∷ 2 ∷ []) $ done !
