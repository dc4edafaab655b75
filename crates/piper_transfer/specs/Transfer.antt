-- What a transfer moves, and what each of its sides does.
use Rattle.std.specs.Prelude.{◌≡◌, ◌≢◌, ℕ, List, [], ◌++◌, ◌⊎◌, Option, Result, Ok, Err, OnOk, ⊤, true, false}
use Rattle.std.specs.IoError.{error_kind}
use Rattle.std.specs.declared.io.Error.{Error}
use Rattle.std.specs.declared.io.ErrorKind.TheVariants.{Interrupted, WouldBlock}
use Rattle.std.specs.Io.KnownBytes.{Consumes, Appends, IsAtEnd}
use Rattle.piper.specs.Looks.{IsEnded}
use Rattle.piper.specs.ReadView.{ReadView}
use Rattle.piper.specs.WriteView.{WriteView}
use Rattle.piper.specs.Opened.{FreshReadEnd, FreshWriteEnd}
use Rattle.piper_transfer.specs.Taken.{TakesMore}
use Rattle.piper_transfer.specs.declared.both_sides.Ready.{Ready}
use Rattle.piper_transfer.specs.declared.error.Stop.{Stop}
use Rattle.piper_transfer.specs.declared.error.Stop.TheVariants.{Failed, Told}
use Rattle.piper_transfer.specs.declared.error.TransferError.{TransferError}
use Rattle.piper_transfer.specs.declared.error.TransferError.TheVariants.{Read, Write, Full, Memory, Turns}

-- its handle neither closed the pipe nor saw it closed
abbrev pub IsOpen : WriteView → Type 0
IsOpen w = (w.shut ≡ false) × (w.saw ≡ false)

-- the writing end published what the input gave, all of it and in order
pub record Fed (input_old input_new : Option (List ℕ)) (a b : WriteView) : Type 0 where
  pub given : List ℕ
  pub consumed : Consumes input_old input_new given
  pub sent : b.sent ≡ a.sent ++ given
  pub ring : b.ring ≡ a.ring

-- the output was given these bytes: they follow what it held, and what it had taken
pub record Gets {D : Type 0}
    (contents : D → Option (List ℕ))
    (took : D → List (List ℕ) → List ℕ → Type 0)
    (old new : D)
    (bs : List ℕ) : Type 0 where
  pub appended : Appends (contents old) (contents new) bs
  pub more : TakesMore took old new bs

-- the output was given all that was taken from the reading end
pub record PouredAll {D : Type 0}
    (contents : D → Option (List ℕ))
    (took : D → List (List ℕ) → List ℕ → Type 0)
    (old new : D)
    (a b : ReadView) : Type 0 where
  pub written : List ℕ
  pub gets : Gets contents took old new written
  pub taken : b.taken ≡ a.taken ++ written
  pub ring : b.ring ≡ a.ring
  pub capacity : b.capacity ≡ a.capacity

-- all that the writing end published was taken: the reading end reported the end, or met the other
abbrev pub IsDrained : ReadView → WriteView → Type 0
IsDrained r w = IsEnded r ⊎ (r.taken ≡ w.sent)

-- the input failed
abbrev pub IsOfInput : TransferError → Type 0
IsOfInput (Read e) = ⊤
IsOfInput other = ⊥

-- a transfer with this answer wrote all that the input gave: no error is reported, or one of the
-- input
abbrev pub WritesAll : Result Unit TransferError → Type 0
WritesAll (Ok _) = ⊤
WritesAll (Err e) = IsOfInput e

-- a call that failed so is not made again: it was not interrupted, and would not block
pub record IsLasting (e : Error) : Type 0 where
  pub heard : error_kind e ≢ Interrupted
  pub due : error_kind e ≢ WouldBlock

-- the side that writes the output may report this error: a write or a flush has failed so, a write
-- has taken no byte, or memory was refused for a waker
abbrev pub IsOfDestination : (Error → Type 0) → Type 0 → TransferError → Type 0
IsOfDestination fails full (Read e) = ⊥
IsOfDestination fails full (Write e) = fails e × IsLasting e
IsOfDestination fails full Full = full
IsOfDestination fails full Memory = ⊤
IsOfDestination fails full (Turns e) = ⊥

-- the side that reads the input left the pipe open
abbrev pub IsLeft : WriteView → Type 0
IsLeft w = w.shut ≡ false

-- the side that reads the input may report this error: a read has failed so, or memory was refused
-- for a waker
abbrev pub IsOfSource : (Error → Type 0) → TransferError → Type 0
IsOfSource fails (Read e) = fails e × IsLasting e
IsOfSource fails Memory = ⊤
IsOfSource fails other = ⊥

-- that side stops for such an error; or it was told to, as this says
abbrev pub StopsSource : (Error → Type 0) → Type 0 → Stop → Type 0
StopsSource fails told (Failed e) = IsOfSource fails e
StopsSource fails told Told = told

-- if that side was told to end, who says so may do so, or it saw the pipe closed
abbrev pub IsToldBy : Type 0 → WriteView → Stop → Type 0
IsToldBy may_end w (Failed e) = ⊤
IsToldBy may_end w Told = may_end ⊎ (w.saw ≡ true)

-- the input's side has ended with this answer: it closed the pipe, so that the output's waits for no
-- byte any more, or was told to end
abbrev pub StopsClosed : Result Unit Stop → WriteView → Type 0
StopsClosed (Err Told) w = ⊤
StopsClosed other w = w.shut ≡ true

-- neither side has begun: memory was refused for the pipe, or a thread can't be made to wait
abbrev pub IsOfMemory : TransferError → Type 0
IsOfMemory Memory = ⊤
IsOfMemory (Turns e) = ⊤
IsOfMemory other = ⊥

-- both ends of its pipe are new
pub record IsReady (r : Ready) : Type 0 where
  pub ring : r.input.writer.side.end.ring ≡ r.output.reader.side.end.ring
  pub input : FreshWriteEnd r.sizes.capacity r.input.writer.side.end
  pub output : FreshReadEnd r.sizes.capacity r.output.reader.side.end

-- the error is of the side that it names
abbrev pub IsOfSide : (Error → Type 0) → (Error → Type 0) → Type 0 → TransferError → Type 0
IsOfSide read written full (Read e) = read e × IsLasting e
IsOfSide read written full (Write e) = written e × IsLasting e
IsOfSide read written full Full = full
IsOfSide read written full Memory = ⊤
IsOfSide read written full (Turns e) = ⊤

-- what the output was given is a front of what the input gave
pub record Transfers {D : Type 0}
    (r : Result Unit TransferError)
    (input_old input_new : Option (List ℕ))
    (contents : D → Option (List ℕ))
    (took : D → List (List ℕ) → List ℕ → Type 0)
    (old new : D) : Type 0 where
  pub written : List ℕ
  pub left : List ℕ
  pub given : Consumes input_old input_new (written ++ left)
  pub gets : Gets contents took old new written
  pub all : WritesAll r → left ≡ []
  pub ended : OnOk r (IsAtEnd input_new)
