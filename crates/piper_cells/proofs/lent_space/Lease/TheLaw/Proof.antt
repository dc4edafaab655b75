-- A `&` to a lease holds a fraction of its half of the token. Assumes `Logic`.
use mathlib.Core.List.{[], ◌∷◌}
use Rattle.piper_cells.proofs.SpaceKit.{flft, fbor, lfts, ‵, raw, ◌$◌, ◌∵◌, !, qed, updating, now, done, copy_shared, field_copy, of_Lends, half}
use types.Tokens.{bor_fracture}
use denote.RawPtr.{RawPtr}
use denote.SharingLaws.{one_shr_laws}
use Rattle.core.specs.contracts.marker.PhantomData as marker
use Rattle.piper_cells.specs.contracts.lent_space.Lease as C
use Rattle.piper_cells.proofs.lent_space.Lease.TheLaw.Statement.{statement}

pub shares : statement
shares =
    of_Lends C.struct (C.the_codes (marker.the_row RawPtr).coded) C.the_heap C.the_lent (λ d p. one_shr_laws (λ q. flft (d.life ∷ []) q))
    (copy_shared (marker.the_field RawPtr) (field_copy (marker.the_type RawPtr) tt), tt)
    (λ M 𝓤 𝓛 d p κ ts inc sp.
    qed 𝓛 (‵ (fbor κ (flft (d.life ∷ []) (half d.first))) ∷ raw (lfts 𝓛 ts) ∷ []) ∵ updating ! $
    bor_fracture ! tt (λ q. flft (d.life ∷ []) q) (half d.first) $ now ! $ done !)
