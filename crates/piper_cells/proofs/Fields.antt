-- What the machine keeps of this crate's types: a pointer, or nothing of a lease and of a right. A
-- formula says no struct's name, and so one lemma serves each struct of one pointer, and one each that
-- takes no space. Assumes `Logic`.
use Rattle.piper_cells.proofs.SpaceKit.{◌≡◌, [], ◌∷◌, ◌++◌, List, T, WT, SProp, sep, id⊢, ‵, raw, ◌$◌, ◌∵◌, !, qed, move, fjoin, done, nothing, use1, owns, Valss, word-Good, refl, ap, ◌∙◌, Ura, Ty, Val, vstruct, vcons, vnil, of_list, ent, emp, Logic, sem, RattleType, Is, Ptr, ptr_val, Struct, shape, makes_shadow, Denots}
use mir.Syntax.{tcons, tnil, ty_struct, ty_ptr}
use mir.Val.{has_tys}
use denote.Struct.Struct.{as_fields}
use Rattle.piper_cells.specs.contracts.lent_space.Space as Space
use Rattle.piper_cells.specs.contracts.lent_space.Lease as Lease

-- a struct whose one field is a pointer
abbrev pub pointer_val : Ptr → Val
pointer_val p = vstruct (vcons (ptr_val p) vnil)

-- a struct whose one field takes no space
abbrev pub ghost_val : Val
ghost_val = vstruct (vcons (vstruct vnil) vnil)

abbrev pub PointerData : RattleType
PointerData = Struct (shape Space.the_type)

abbrev pub GhostData : RattleType
GhostData = Struct (shape Lease.the_type)

pub pointer_told : (p : Ptr) (vs : List Val) → Is PointerData (p, tt) vs → vs ≡ pointer_val p ∷ []
pointer_told p vs is = is.1.0 ∙ ap (λ (ws : List Val). vstruct (of_list (ws ++ [])) ∷ []) is.1.1.0

pub ghost_told : (vs : List Val) → Is GhostData (record {}, tt) vs → vs ≡ ghost_val ∷ []
ghost_told vs is = is.1.0 ∙ ap (λ (ws : List Val). vstruct (of_list (ws ++ [])) ∷ []) is.1.1.0.1.0

module _ {M : Type 1} {𝓤 : Ura M} (𝓛 : Logic 𝓤) where
  pub pointer_made : (p : Ptr) → ent 𝓤 (emp 𝓤) (sem 𝓛 (PointerData.own_val (p, tt) (pointer_val p ∷ [])))
  pointer_made p = makes_shadow 𝓛 (PointerData.own_val (p, tt) (pointer_val p ∷ [])) (λ vss. (tt, (tt, tt))) ((ptr_val p ∷ [], tt), (refl, (refl, tt)))

  pub ghost_made : ent 𝓤 (emp 𝓤) (sem 𝓛 (GhostData.own_val (record {}, tt) (ghost_val ∷ [])))
  ghost_made = makes_shadow 𝓛 (GhostData.own_val (record {}, tt) (ghost_val ∷ [])) (λ vss. (tt, ((λ uss. (tt, tt)), tt))) ((vstruct vnil ∷ [], tt), (refl, ((tt, (refl, tt)), tt)))

-- the parts of a tuple, one after the other
module _ {M : Type 1} {𝓤 : Ura M} (𝓛 : Logic 𝓤) where
  abbrev pub parts : (Rs : List RattleType) → Denots Rs → Valss Rs → SProp 𝓤
  parts [] xs vss = emp 𝓤
  parts (R ∷ []) xs vss = sem 𝓛 (R.own_val xs.0 vss.0)
  parts (R ∷ S ∷ Rs) xs vss = sep 𝓤 (sem 𝓛 (R.own_val xs.0 vss.0)) (parts (S ∷ Rs) xs.1 vss.1)

  pub owns_of : (Rs : List RattleType) (xs : Denots Rs) (vss : Valss Rs) → ent 𝓤 (parts Rs xs vss) (sem 𝓛 (owns Rs xs vss))
  owns_of [] xs vss = id⊢ 𝓤 (emp 𝓤)
  owns_of (R ∷ []) xs vss = qed 𝓛 (‵ (R.own_val xs.0 vss.0) ∷ []) ∵ nothing ! $ move ! (1 ∷ 0 ∷ []) $ fjoin ! $ done !
  owns_of (R ∷ S ∷ Rs) xs vss = qed 𝓛 (‵ (R.own_val xs.0 vss.0) ∷ raw (parts (S ∷ Rs) xs.1 vss.1) ∷ []) ∵ move ! (1 ∷ []) $
      use1 𝓛 (‵ (owns (S ∷ Rs) xs.1 vss.1)) (owns_of (S ∷ Rs) xs.1 vss.1) $ move ! (1 ∷ 0 ∷ []) $ fjoin ! $ done !

abbrev word_type : Ty
word_type = ty_struct [] (tcons ty_ptr tnil)

abbrev mark_type : Ty
mark_type = ty_struct [] (tcons (ty_struct [] tnil) tnil)

pub four_Good : (p : Ptr) → T (has_tys (tcons word_type (tcons word_type (tcons mark_type (tcons mark_type tnil)))) (vcons (pointer_val p) (vcons (pointer_val p) (vcons ghost_val (vcons ghost_val vnil))))) × WT (vstruct (vcons (pointer_val p) (vcons (pointer_val p) (vcons ghost_val (vcons ghost_val vnil)))))
four_Good p = as_fields (word_type ∷ word_type ∷ mark_type ∷ mark_type ∷ []) (pointer_val p ∷ pointer_val p ∷ ghost_val ∷ ghost_val ∷ []) (word-Good [] p, (word-Good [] p, ((tt, (tt, tt)), ((tt, (tt, tt)), tt))))
