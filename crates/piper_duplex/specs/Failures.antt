-- Why an echo fails, as its line for standard error says it, and the call that failed.
use Rattle.std.specs.Prelude.{◌≡◌, ◌⊎◌, ℕ, List, Ok, codes, ⊤}
use Rattle.std.specs.declared.io.Error.{Error}
use Rattle.piper_protocol.specs.Reported.{HasFailed, IsOfStd}
use Rattle.piper_duplex.specs.declared.engine.session.Ended.{Ended}

-- it ended with this status and this line, which is empty where there is none
pub record EndsWith (status : ℕ) (text : List ℕ) (ended : Ended) : Type 0 where
  pub same_status : ended.status ≡ status
  pub same_text : ended.text.now ≡ text

abbrev pub FailsWith : List ℕ → Ended → Type 0
FailsWith = EndsWith 2

-- memory was refused to a call of this thread; or what it sent is not read, or does not come back,
-- since the other thread has ended. It is sealed: no proof looks into it, and only that of `lost`
-- uses the lemma below
pub IsLost : Ended → Type 0
IsLost ended = ⊤

pub as_lost : (ended : Ended) → IsLost ended
unfolding IsLost
as_lost ended = tt

-- it ended for want of memory, which one of the two threads was refused
abbrev pub LacksMemory : Ended → Type 0
LacksMemory ended = FailsWith (codes "memory") ended × IsLost ended

-- a thread was asked for, and refused
abbrev pub LacksThread : Ended → Type 0
LacksThread ended = FailsWith (codes "no thread is granted") ended × HasFailed ended

-- a call failed, and left this so
abbrev pub HasFailedAt : {S : Type 0} → (S → Error → S → Type 0) → S → Type 0
HasFailedAt {S} fails after = (before : S) × (e : Error) × fails before e after

-- a write or a flush failed and left the output so, or a write of some bytes took none
abbrev pub WriteHasFailed : {S : Type 0} → (S → Error → S → Type 0) → (S → Type 0) → S → Type 0
WriteHasFailed fails full output =
    HasFailedAt fails output ⊎ (full output × IsOfStd {T = ℕ} {E = Error} (Ok 0))

-- the same of any writer of std
abbrev pub StdWriteHasFailed : {S : Type 0} → S → Type 0
StdWriteHasFailed = WriteHasFailed (λ _ e _. HasFailed e) (λ _. ⊤)

-- the input can't be read, since Read; the output can't be written, since Written
abbrev pub CannotRead : Type 0 → Ended → Type 0
CannotRead Read ended = FailsWith (codes "read failed") ended × Read

abbrev pub CannotWrite : Type 0 → Ended → Type 0
CannotWrite Written ended = FailsWith (codes "write failed") ended × Written

-- what is sent does not come back, or cannot be printed
abbrev pub PrintFails : Type 0 → Ended → Type 0
PrintFails Written ended = LacksMemory ended ⊎ CannotWrite Written ended

-- and no more of the input can be read
abbrev pub TalkFails : Type 0 → Type 0 → Ended → Type 0
TalkFails Read Written ended = CannotRead Read ended ⊎ PrintFails Written ended

-- and no thread is granted that echoes
abbrev pub EchoFails : Type 0 → Type 0 → Ended → Type 0
EchoFails Read Written ended = LacksThread ended ⊎ TalkFails Read Written ended
