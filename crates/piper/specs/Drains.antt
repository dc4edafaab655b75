-- Drains of the reader into any destination.
use Rattle.std.specs.Prelude.{◌≡◌, ℕ, ◌+◌, ◌-◌, ◌<◌, ◌⊎◌, false, List, [], ◌++◌, length, Result}
use Rattle.futures.specs.declared.task.Poll.{Poll}
use Rattle.futures.specs.Poll.{OnPending}
use Rattle.piper_ring.specs.ReadView.{ReadView}
use Rattle.piper.specs.Copies.{ReaderCopied}
use Rattle.piper.specs.CopyAnswers.{Copies}
use Rattle.piper_ring.specs.Looks.{IsEnded, ReaderIsUpToDate}
use Rattle.piper.specs.Like.{Passes}
use Rattle.piper.specs.Polls.{OnReadyOk}
use Rattle.piper.specs.declared.error.CopyError.{CopyError}

-- how many bytes the reader knew of after its look:
-- those that it took since, and those that it knows of now
abbrev pub found_len : ReadView → ReadView → ℕ
found_len a b = length b.taken + length b.known - length a.taken

-- a drain that returns a count found a byte, or the end: all that was ever published has been taken
abbrev pub EndIsTrue : {E : Type 0} → Poll (Result ℕ E) → ReadView → ReadView → Type 0
EndIsTrue r a b = OnReadyOk r (found_len a b ≡ 0 → IsEnded b)

-- a drain that is pending found a byte, or neither saw the pipe closed nor was told so
abbrev pub EndIsUnseen : {E : Type 0} → Poll (Result ℕ E) → ReadView → ReadView → Type 0
EndIsUnseen r a b =
    OnPending r (found_len a b ≡ 0 → (b.saw ≡ false) × (b.observed_shut ≡ false))

-- what the reader knew it still knows, but for what it took of it
abbrev pub StaysKnown : ReadView → ReadView → Type 0
StaysKnown a b = b.taken ++ b.known ≡ a.taken ++ a.known

-- rounds from a to b: the destination was given the front of what was known,
-- which was taken; and all of it, or what it took
pub record DrainRounds {S E : Type 0}
    (takes : Passes S) (is_full : S → Type 0) (fails : S → E → S → Type 0)
    (r : Poll (Result ℕ (CopyError E))) (a b : ReadView) (s t : S) : Type 0 where
  pub moved : List ℕ
  pub taken : b.taken ≡ a.taken ++ moved
  pub known : a.known ≡ moved ++ b.known
  pub copied : Copies takes fails r s t moved
  pub most : OnReadyOk r ((b.known ≡ []) ⊎ is_full t)
  pub rest : b ≡ record a { taken = b.taken; known = b.known }

-- a drain from a to b, which begins with a look: that finds more only if no byte was known
pub record Drains {S E : Type 0}
    (takes : Passes S) (is_full : S → Type 0) (fails : S → E → S → Type 0)
    (r : Poll (Result ℕ (CopyError E))) (a b : ReadView) (s t : S) : Type 0 where
  pub moved : List ℕ
  pub taken : b.taken ≡ a.taken ++ moved
  pub known : 0 < length a.known → a.known ≡ moved ++ b.known
  pub fresh : a.known ≡ [] → ReaderIsUpToDate b
  pub copied : Copies takes fails r s t moved
  pub most : OnReadyOk r ((b.known ≡ []) ⊎ is_full t)
  pub end : ReaderCopied a b
