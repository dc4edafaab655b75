-- What the machine keeps of the ring's own types. Assumes `Logic`.
use Rattle.std.proofs.Common.{◌≡◌, List, [], ◌∷◌, ◌++◌, refl, ap, ◌∙◌}
use seplogic.Ra.Ura.{Ura}
use mir.Val.{Val, vstruct, vnil, vcons, of_list}
use base.Logic.{ent, emp}
use base.Stored.{Coded}
use types.Logic.{Logic, sem}
use denote.Builtin.{RawPtr}
use denote.Laws.{Is}
use denote.Param.Shared.{Sharable, copy_shared}
use denote.RattleType.{RattleType}
use denote.RawPtr.{Ptr, ptr_val}
use denote.Ref.{NamedLft}
use denote.Shadow.{makes_shadow}
use denote.Struct.Laws.{field_copy}
use denote.Struct.Owning.{shape}
use denote.Struct.Struct.{Struct}
use Rattle.core.specs.contracts.marker.PhantomData as marker
use Rattle.piper_ring.specs.contracts.ring.slots.SlotWords as SlotWords

-- the code of a field that takes no space
abbrev pub ghost_coded : Coded ((marker.the_row RawPtr).Denot)
ghost_coded = (marker.the_row RawPtr).coded

-- a `&` to it
pub ghost_shared : Sharable (marker.the_field RawPtr)
ghost_shared = copy_shared (marker.the_field RawPtr) (field_copy (marker.the_type RawPtr) tt)

-- the words that an end lends: a pointer, and a field that takes no space
abbrev pub lent_val : Ptr → Val
lent_val w = vstruct (vcons (ptr_val w) (vcons (vstruct vnil) vnil))

module _ (a : NamedLft) where
  abbrev pub LentData : RattleType
  LentData = Struct (shape (SlotWords.the_type a))

  pub lent_told : (w : Ptr) (vs : List Val) → Is LentData (w, (tt, tt)) vs → vs ≡ lent_val w ∷ []
  lent_told w vs is = is.1.0 ∙ ap (λ (ws : List Val). vstruct (of_list (ws ++ (is.0.1.0 ++ []))) ∷ []) is.1.1.0 ∙ ap (λ (ws : List Val). vstruct (of_list (ptr_val w ∷ (ws ++ []))) ∷ []) is.1.1.1.0.1.0

  pub lent_made : {M : Type 1} {𝓤 : Ura M} (𝓛 : Logic 𝓤) (w : Ptr) → ent 𝓤 (emp 𝓤) (sem 𝓛 (LentData.own_val (w, (tt, tt)) (lent_val w ∷ [])))
  lent_made 𝓛 w = makes_shadow 𝓛 (LentData.own_val (w, (tt, tt)) (lent_val w ∷ [])) (λ vss. (tt, (tt, ((λ uss. (tt, tt)), tt)))) ((ptr_val w ∷ [], (vstruct vnil ∷ [], tt)), (refl, (refl, ((tt, (refl, tt)), tt))))
