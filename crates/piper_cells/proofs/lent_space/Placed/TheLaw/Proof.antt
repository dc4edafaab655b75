-- A `&` to a place holds what the place owns, which can be had twice. Assumes `Logic`.
use mathlib.Core.List.{[], ◌∷◌}
use Rattle.piper_cells.proofs.SpaceKit.{Ura, sep, wand, apply∗, Fml, fbor, Lft, Logic, sem, lfts, ‵, raw, ◌⊛◌, later, ◌$◌, ◌∵◌, !, qed, move, drop, split, await, updating, use1, use2, now, done, Laws, copy_shared, RattleType, placed}
use denote.Sharing.{said, ShrLaws}
use denote.SharingLaws.{contraction, held_shr_laws}
use denote.Struct.Field.{RawPtr-field}
use denote.Struct.Laws.{RawPtr-copy}
use denote.Struct.Lending.{Lends, of_Lends, lent_at, lent_at_shr_laws}
use Rattle.piper_cells.specs.contracts.lent_space.Placed as C
use Rattle.piper_cells.proofs.lent_space.Placed.TheLaw.Statement.{statement}

-- what can be had twice is handed out, and a second one of it closes the borrow
hands_out : {M : Type 1} {𝓤 : Ura M} (𝓛 : Logic 𝓤) (P : Fml) → ShrLaws (said P) → (l : Lft) → Lends 𝓛 P (said P) l
hands_out {𝓤 = 𝓤} 𝓛 P L l κ ts inc sp =
    qed 𝓛 (‵ (fbor κ P) ∷ raw (lfts 𝓛 ts) ∷ []) ∵ updating ! $
    use2 𝓛 (later (‵ P ⊛ raw (wand 𝓤 (sem 𝓛 P) (𝓛.H.⇛ (sep 𝓤 (𝓛.A.bor κ P) (lfts 𝓛 ts)))))) (𝓛.more.bor_acc_by κ ts P sp) $ await ! tt $ split ! $
    use1 𝓛 (‵ P ⊛ ‵ P) (contraction 𝓛 (said P) L κ) $ split ! $ move ! (1 ∷ 2 ∷ []) $
    use2 𝓛 (later (‵ (fbor κ P) ⊛ raw (lfts 𝓛 ts))) (apply∗ 𝓤 (sem 𝓛 P) (𝓛.H.⇛ (sep 𝓤 (𝓛.A.bor κ P) (lfts 𝓛 ts)))) $ await ! tt $
    split ! $ drop ! $ move ! (1 ∷ 0 ∷ []) $ now ! $ done !

pub shares : (T : RattleType) (L : Laws T) → statement T L
shares T L =
    let twice = λ (d : (C.the_row T).Denot). held_shr_laws (d.life ∷ []) (lent_at T d.at d.value) (lent_at_shr_laws T L.shr_laws d.at d.value) in
    of_Lends (C.struct T) (C.the_codes T.Denot T.coded) (C.the_heap T) (C.the_lent T) (λ d p. twice d)
    (copy_shared RawPtr-field RawPtr-copy, tt)
    (λ M 𝓤 𝓛 d p. hands_out 𝓛 (placed T d.at d.value d.life) (twice d) (C.the_row T).lives)
