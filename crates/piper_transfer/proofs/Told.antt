-- Which side's error is reported, and whether all was written then.
use Rattle.std.proofs.Common.{◌≡◌, Result, Ok, Err, sym, subst}
use Rattle.std.specs.Prelude.{IfErr, OnOk}
use Rattle.std.specs.Result.{result_and}
use Rattle.std.specs.declared.io.Error.{Error}
use Rattle.piper_transfer.specs.Transfer.{IsOfDestination, IsOfInput, IsOfMemory, IsOfSide, WritesAll}
use Rattle.piper_transfer.specs.declared.error.TransferError.{TransferError}
use Rattle.piper_transfer.specs.declared.error.TransferError.TheVariants.{Read, Memory, Turns}

-- the output's side reports no failure of the input
pub not_of_input : (fails : Error → Type 0) (full : Type 0) (e : TransferError) → IsOfDestination fails full e → ¬ IsOfInput e
not_of_input fails full (Read x) reported = λ _. reported
not_of_input fails full e reported = λ input. input

-- nor does want of memory
memory_is_not_of_input : (e : TransferError) → IsOfMemory e → ¬ IsOfInput e
memory_is_not_of_input (Read x) reported = λ _. reported
memory_is_not_of_input e reported = λ input. input

of_memory : (s d : Error → Type 0) (full : Type 0) (e : TransferError) → IsOfMemory e → IsOfSide s d full e
of_memory s d full Memory reported = tt
of_memory s d full (Turns x) reported = tt
of_memory s d full e reported = absurd reported

-- a pipe that was refused: nothing is written
pub refused_writes_none : (r : Result Unit TransferError) → OnOk r ⊥ → IfErr r IsOfMemory → ¬ WritesAll r
refused_writes_none (Ok u) never memory = λ _. never
refused_writes_none (Err e) never memory = memory_is_not_of_input e memory

pub refused_is_told : (r : Result Unit TransferError) (s d : Error → Type 0) (full : Type 0) → IfErr r IsOfMemory → IfErr r (IsOfSide s d full)
refused_is_told (Ok u) s d full memory = tt
refused_is_told (Err e) s d full memory = of_memory s d full e memory

-- it ends well only where the input's side does
pub ends_with_both : (flush filled r : Result Unit TransferError) (ended : Type 0) → r ≡ result_and flush filled → OnOk filled ended → OnOk r ended
ends_with_both (Ok u) filled r ended is fills = subst (λ x. OnOk x ended) (sym is) fills
ends_with_both (Err e) filled r ended is fills = subst (λ x. OnOk x ended) (sym is) tt

-- an output that failed
pub failed_writes_not : (r : Result Unit TransferError) (e : TransferError) (fails : Error → Type 0) (full : Type 0) → r ≡ Err e → IsOfDestination fails full e → ¬ WritesAll r
failed_writes_not r e fails full is reported = λ writes. not_of_input fails full e reported (subst WritesAll is writes)
