-- A `&` to it holds nothing. Assumes `Logic`.
use denote.RawPtr.{RawPtr}
use Rattle.piper_cells.proofs.SpaceKit.{copy_shared, field_copy}
use denote.SharingLaws.{nothing_shr_laws}
use denote.Struct.Lending.{of_Lends, Lends-nothing}
use Rattle.core.specs.contracts.marker.PhantomData as marker
use Rattle.piper_cells.specs.contracts.token_cell.Token as C
use Rattle.piper_cells.proofs.token_cell.Token.TheLaw.Statement.{statement}

pub shares : statement
shares =
    of_Lends C.struct (C.the_codes (marker.the_row RawPtr).coded) C.the_heap C.the_lent (λ d p. nothing_shr_laws)
    (copy_shared (marker.the_field RawPtr) (field_copy (marker.the_type RawPtr) tt), tt)
    (λ M 𝓤 𝓛 d p. Lends-nothing 𝓛 (C.the_heap d) C.the_row.lives)
