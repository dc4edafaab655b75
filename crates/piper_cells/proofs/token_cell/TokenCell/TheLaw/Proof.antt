-- A `&` to a place is made of a borrow of it: the content's borrow goes under an invariant.
-- Assumes `Logic`.
use Rattle.std.proofs.Common.{◌≡◌, ℕ, zero, ◌+◌, List, [], ◌∷◌, sym, subst}
use Rattle.piper_cells.proofs.SpaceKit.{Ura, Ty, Val, full_share, Logic, lfts, part_of, part_at, cell_at, block_ptr, layout, Laws, Struct, Ghosts, RattleType, Denots}
use base.Stored.{gnum}
use base.Logic.{ex, upd_i, all_e, apply∗, id⊢}
use base.Fml.{Lft, Share, Incl, Incl-refl, Fml, ftrue, fsep, fseps, fwand, fupd, fdead, fbor, flft, finv}
use base.Before.{before}
use ghost.Rules.{Toks, span}
use types.Kit.{‵, raw, ◌⊛◌, some, later, ◌$◌, ◌∵◌, !, qed, by, move, keep, drop, use0, use1, use2, split, fsplit, fsplit3, fjoin, fpick, fpack, pick, show, assume, suffices, await, updating, now, done}
use types.Tokens.{bor_open, obor_alter, name_new}
use types.Na.{before-Incl}
use denote.Laws.{Lawful}
use denote.Sharing.{ShrLaws, ends, always}
use denote.SharingLaws.{some_shr_laws, beside_shr_laws, ends_shr_laws, always_shr_laws}
use denote.Struct.Members.{Member, row_of, rows_of, parts_at}
use denote.Struct.Parts.{PartsBack, Struct-parts, shape_of}
use denote.Struct.Lending.{Law}
use Rattle.core.proofs.cell.Borrows.{by_one}
use Rattle.piper_cells.proofs.Signs.{signs}
use Rattle.piper_cells.specs.TokenCell.{offset, known, content, Loan, lies, Kept, kept, place_shares}
use Rattle.piper_cells.specs.contracts.token_cell.TokenCell as C
use Rattle.piper_cells.proofs.token_cell.TokenCell.TheLaw.Statement.{statement}

module _ {M : Type 1} {𝓤 : Ura M} (𝓛 : Logic 𝓤) (m : Member) (g : Ghosts m.row.Denot) (name : ℕ) (L : Lawful 𝓛 (row_of m)) (b o : ℕ) (κ : Lft) where
  open 𝓛 use {H, A}
  open signs 𝓛 use {Pr, ◌⊢◌, ◌∗◌, ◌-∗◌, ⟦◌⟧}

  infix 26 ◌⊢◌
  infixr 35 ◌∗◌
  infixr 30 ◌-∗◌
  abbrev R : RattleType
  R = row_of m

  abbrev Item : Type 0
  Item = ℕ × R.Denot

  abbrev field : List Member
  field = m ∷ []

  abbrev Data : RattleType
  Data = Struct (shape_of [] field)

  abbrev P : Fml
  P = part_at (C.the_written R g) full_share name b o

  abbrev Whole : R.Denot → Fml
  Whole x = part_at Data full_share (x, tt) b o

  abbrev At : R.Denot → Fml
  At x = part_at R full_share x b (o + offset R)

  abbrev shows : Item → Fml
  shows = known R g.is_full name

  abbrev lain : Item → Fml
  lain s = fsep (At s.1) (shows s)

  abbrev Inside : Fml
  Inside = content R g.is_full name b o

  unpacks : ⟦ P ⟧ ⊢ ex 𝓤 (λ (s : Item). ⟦ Whole s.1 ⟧ ∗ ⟦ shows s ⟧)
  unfolding part_of
  unpacks = qed 𝓛 (‵ P ∷ []) ∵ fpick ! (λ vs. fsplit ! $ move ! (1 ∷ []) $ fpick ! (λ s. fsplit ! $ move ! (2 ∷ 0 ∷ []) $ fjoin ! $
      fpack ! (List Val) (λ us. fsep (cell_at full_share Data.mir us b o) (Data.own_val (s.1, tt) us)) vs $ show ! (λ (z : Item). ⟦ Whole z.1 ⟧ ∗ ⟦ shows z ⟧) s $ done !))

  packs : (s : Item) → ⟦ Whole s.1 ⟧ ∗ ⟦ shows s ⟧ ⊢ ⟦ P ⟧
  unfolding part_of
  packs s = qed 𝓛 (‵ (Whole s.1) ∷ ‵ (shows s) ∷ []) ∵ fpick ! (λ vs. fsplit ! $ move ! (1 ∷ 2 ∷ []) $ fjoin ! $ fpack ! Item (λ z. fsep (Data.own_val (z.1, tt) vs) (shows z)) s $ move ! (1 ∷ 0 ∷ []) $ fjoin ! $
      fpack ! (List Val) (λ us. fsep (cell_at full_share Data.mir us b o) ((C.the_written R g).own_val name us)) vs $ done !)

  way_back : PartsBack 𝓛 full_share [] field b o ⊢ ⟦ fwand (fsep (fdead κ) (fseps (Inside ∷ []))) (fupd P) ⟧
  unfolding fseps
  way_back = qed 𝓛 (raw (PartsBack 𝓛 full_share [] field b o) ∷ []) ∵ assume ! (‵ (fsep (fdead κ) (fseps (Inside ∷ [])))) $ suffices ! ⟦ P ⟧ (upd_i 𝓤 ⟦ P ⟧) $
      fsplit3 ! $ drop ! $ fpick ! (λ s. fsplit ! $ move ! (0 ∷ 2 ∷ []) $ fjoin ! $ move ! (2 ∷ []) $
      use1 𝓛 (raw (⟦ parts_at full_share field zero (s.1, tt) b o ⟧ -∗ ⟦ Whole s.1 ⟧)) (all_e 𝓤 (λ (a : Denots (rows_of field)). ⟦ parts_at full_share field zero a b o ⟧ -∗ ⟦ part_at Data full_share a b o ⟧) (s.1, tt)) $
      move ! (1 ∷ 0 ∷ []) $ use2 𝓛 (‵ (Whole s.1)) (apply∗ 𝓤 ⟦ parts_at full_share field zero (s.1, tt) b o ⟧ ⟦ Whole s.1 ⟧) $ by ! (packs s))

  borrows : (q : Share) → A.bor κ P ∗ A.lft κ q ⊢ H.⇛ (A.bor κ Inside ∗ A.lft κ q)
  unfolding fseps
  borrows q = qed 𝓛 (‵ (fbor κ P) ∷ ‵ (flft κ q) ∷ []) ∵ updating ! $ bor_open ! tt $ move ! (1 ∷ []) $ use1 𝓛 (some (λ (s : Item). ‵ (Whole s.1) ⊛ ‵ (shows s))) unpacks $ pick ! (λ s. split ! $
      use1 𝓛 ((‵ (At s.1) ⊛ ‵ ftrue) ⊛ raw (PartsBack 𝓛 full_share [] field b o)) (Struct-parts 𝓛 full_share [] field (L, tt) (s.1, tt) b o) $ split ! $ split ! $
      move ! (0 ∷ 3 ∷ []) $ fjoin ! $ fpack ! Item lain s $ move ! (0 ∷ 1 ∷ []) $ fjoin ! $ move ! (1 ∷ []) $
      use1 𝓛 (‵ (fwand (fsep (fdead κ) (fseps (Inside ∷ []))) (fupd P))) way_back $ move ! (2 ∷ 1 ∷ 0 ∷ []) $ obor_alter ! tt (Inside ∷ []) $
      use1 𝓛 (‵ (fbor κ Inside) ⊛ ‵ ftrue) (id⊢ 𝓤 _) $ split ! $ now ! $ keep ! (0 ∷ 2 ∷ []) $ done !)

  abbrev Shared : Fml
  Shared = place_shares R g.is_full name (block_ptr b o) κ

  shared : A.bor κ Inside ⊢ H.⇛ ⟦ Shared ⟧
  shared = qed 𝓛 (‵ (fbor κ Inside) ∷ []) ∵ updating ! $ name_new ! tt (gnum 0) (λ δ. fjoin ! $ move ! (1 ∷ []) $ fjoin ! $
      let t : Loan R g.is_full name b o = (κ, δ) in let I : Fml = Kept R g.is_full name b o t in fpack ! mathlib.Core.Bool.Bool (lies R g.is_full name b o t) mathlib.Core.Bool.true $
      use1 𝓛 (later (‵ (finv I))) (𝓛.invs.inv_new I) $ await ! tt $ use0 𝓛 (‵ (before κ κ)) (before-Incl 𝓛 κ κ (Incl-refl κ)) $ fjoin ! $
      fpack ! (Loan R g.is_full name b o) (λ s. kept R g.is_full name b o s κ) t $ now ! $ done !)

  pub made : (ts : Toks) → Incl (span ts) κ → A.bor κ P ∗ lfts 𝓛 ts ⊢ H.⇛ (⟦ Shared ⟧ ∗ lfts 𝓛 ts)
  made ts sp = qed 𝓛 (‵ (fbor κ P) ∷ raw (lfts 𝓛 ts) ∷ []) ∵ updating ! $ use2 𝓛 (later (‵ (fbor κ Inside) ⊛ raw (lfts 𝓛 ts))) (by_one 𝓛 κ ts sp (A.bor κ P) (A.bor κ Inside) borrows) $
      await ! tt $ split ! $ use1 𝓛 (later (‵ Shared)) shared $ await ! tt $ now ! $ done !

place_laws : (R : RattleType) (full : R.Denot → mathlib.Core.Bool.Bool) (name b o : ℕ) → ShrLaws (place_shares R full name (block_ptr b o))
place_laws R full name b o = some_shr_laws (Loan R full name b o) (kept R full name b o) (λ t. beside_shr_laws (ends t.0) (always (Kept R full name b o t)) (ends_shr_laws t.0) (always_shr_laws (Kept R full name b o t)))

pub shares : (T : RattleType) (g : Ghosts T.Denot) (L : Laws T) → statement T g L
shares T g L = let m : Member = record { row = T; ty = layout T } in
    let same : T ≡ row_of m = λ i. record { Denot = T.Denot; mir = L.one i; written = T.written; reaches = T.reaches; lives = T.lives; own_val = T.own_val; exit = T.exit; coded = T.coded; shr_at = T.shr_at } in
    subst (λ (τ : List Ty). Law (C.the_written (record T { mir = τ }) g)) (sym L.one) (record {
      shr_laws = λ d b o. place_laws (row_of m) g.is_full d b o;
      shares = λ M 𝓤 𝓛 d κ ts b o inc sp. made 𝓛 m g d (subst (Lawful 𝓛) same (L.lawful 𝓛)) b o κ ts sp;
    })
