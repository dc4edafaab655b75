-- Fills of the writer from any source.
use Rattle.std.specs.Prelude.{◌≡◌, ℕ, ◌<◌, ◌≤◌, ◌+◌, ◌⊎◌, true, false, List, [], ◌++◌, length, min, Result, Ok, Err, ⊤}
use Rattle.futures.specs.declared.task.Poll.{Poll}
use Rattle.futures.specs.declared.task.Poll.TheVariants.{Ready, Pending}
use Rattle.piper_ring.specs.WriteView.{WriteView, room_in_one_piece}
use Rattle.piper_protocol.specs.declared.table.TheConstants.{MOST_A_ROUND}
use Rattle.piper.specs.Copies.{IsReplaced}
use Rattle.piper.specs.CopyAnswers.{Copies}
use Rattle.piper_ring.specs.Looks.{WriterIsUpToDate}
use Rattle.piper.specs.Like.{Passes}
use Rattle.piper.specs.Polls.{IfReadyOk}
use Rattle.piper.specs.declared.error.CopyError.{CopyError}
use Rattle.piper.specs.declared.error.CopyError.TheVariants.{Memory, Like}

-- rounds of the writer published bytes, and what is left of the last one is still lent. What it saw of
-- closed it keeps
pub record WriterFilled (a b : WriteView) : Type 0 where
  pub saw : a.saw ≡ true → b.saw ≡ true
  pub rest : b ≡ record a { sent = b.sent; room = b.room; lent = b.lent; saw = b.saw }

-- the most bytes of a round: what is lent at once, and at most 131,072 of it
abbrev pub most_of_round : WriteView → ℕ
most_of_round w = min MOST_A_ROUND (room_in_one_piece w)

-- of n bytes that were counted no more were lost than a round has
abbrev pub LosesOneRound : ℕ → WriteView → WriteView → Type 0
LosesOneRound n a b = length a.sent + n ≤ length b.sent + most_of_round b

-- rounds from a to b: what was published is a beginning of what the source gave,
-- and all of it unless the pipe was seen closed: then what the last round gave is lost
pub record FillRounds {S E : Type 0}
    (gives : Passes S) (is_dry : S → Type 0) (fails : S → E → S → Type 0)
    (r : Poll (Result ℕ (CopyError E))) (a b : WriteView) (s t : S) : Type 0 where
  pub published : List ℕ
  pub lost : List ℕ
  pub sent : b.sent ≡ a.sent ++ published
  pub all : b.saw ≡ false → lost ≡ []
  pub last : length lost ≤ most_of_round b
  pub room : IsReplaced a b
  pub copied : Copies gives fails r s t (published ++ lost)
  pub most : IfReadyOk r (λ n. (((0 < n) × (b.room ≡ 0)) ⊎ is_dry t) ⊎ (b.saw ≡ true))
  pub end : WriterFilled a b

-- a fill from a to b, which begins with a look: that finds more room only if none was known
pub record Fills {S E : Type 0}
    (gives : Passes S) (is_dry : S → Type 0) (fails : S → E → S → Type 0)
    (r : Poll (Result ℕ (CopyError E))) (a b : WriteView) (s t : S) : Type 0 where
  pub published : List ℕ
  pub lost : List ℕ
  pub sent : b.sent ≡ a.sent ++ published
  pub all : b.saw ≡ false → lost ≡ []
  pub last : length lost ≤ most_of_round b
  pub room : 0 < a.room → IsReplaced a b
  pub fresh : a.room ≡ 0 → b.saw ≡ false → WriterIsUpToDate b
  pub copied : Copies gives fails r s t (published ++ lost)
  pub most : IfReadyOk r (λ n. (((0 < n) × (b.room ≡ 0)) ⊎ is_dry t) ⊎ (b.saw ≡ true))
  pub end : WriterFilled a b

-- by its answer and what it leaves: the look of the fill was true
abbrev pub FoundRoom : {E : Type 0} → Poll (Result ℕ (CopyError E)) → WriteView → Type 0
FoundRoom (Ready (Ok n)) w = (0 < n) ⊎ (w.saw ≡ false)
FoundRoom (Ready (Err Memory)) w = ⊥
FoundRoom (Ready (Err (Like e))) w = ⊤
FoundRoom Pending w = 0 < w.room

-- P holds if the answer is no count
abbrev pub OnNoCount : {E : Type 0} → Poll (Result ℕ E) → Type 0 → Type 0
OnNoCount (Ready (Ok n)) P = ⊤
OnNoCount (Ready (Err e)) P = P
OnNoCount Pending P = P
