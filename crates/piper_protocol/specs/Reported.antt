-- What a call of std returned, or one that only hands on what std returned: std itself says nothing of
-- it. Both definitions are sealed: no proof looks into them, and only those of `reported`, of
-- `OutOfMemory::from` and of the ring's `Memory::claim` use the lemmas below. So a clause that cites
-- one holds only of what came through there.
use Rattle.std.specs.Prelude.{⊤, Result, Ok, Err, IfErr}

-- a call of std returned this
pub IsOfStd : {T E : Type 0} → Result T E → Type 0
IsOfStd result = ⊤

-- a call of std failed with this
pub HasFailed : {E : Type 0} → E → Type 0
HasFailed error = ⊤

pub as_reported : {T E : Type 0} (result : Result T E) → IsOfStd result
unfolding IsOfStd
as_reported result = tt

pub as_failed : {E : Type 0} (error : E) → HasFailed error
unfolding HasFailed
as_failed error = tt

pub as_failure : {T E : Type 0} (result : Result T E) → IfErr result HasFailed
as_failure (Ok x) = tt
as_failure (Err e) = as_failed e
