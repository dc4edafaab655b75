-- What a source gives, what is lent to it, and how a call of the writer begins.
use Rattle.std.proofs.Common.{◌≡◌, ℕ, ◌≤◌, List, ◌∷◌, length, take, Bool, true, false, Option, ◌==◌, Ok, arith, []}
use Rattle.std.proofs.lemmas.Grind.{common_steps}
use Rattle.piper_machine.specs.Types.{Action, AfterWrite, Form, WritePoint, DestAct, SourceAct, MOST_A_ROUND}
use Rattle.piper_protocol.specs.Table.{write_action}
use Rattle.piper_machine.specs.Lend.{Lendable}
use Rattle.piper_machine.specs.Pipe.{Pipe}
use Rattle.piper_machine.specs.Round.{given, left_of_source}
use Rattle.piper_machine.specs.Source.{bytes_of}
use Rattle.piper_machine.specs.Step.{MayOffer, lent_at as lent_to}
use Rattle.piper_machine.specs.logs.OneList.{Words}
use Rattle.piper_machine.specs.logs.Reading.{ReaderAt}
use Rattle.piper_machine.specs.logs.Writing.{Source, MayGive, WriterAt, shut_at, source_after, lent_for, most_lent, lendable}
use Rattle.piper_machine.proofs.logs.Joint.{Gives, MayLend, Chance, Fits, number_of, pipe_at, source_at, writer_point}

pub number-is : (b : Bool) → b ≡ (number_of b == 0)
number-is b = grind arith

pub stores-at : (draw : Option Bool) (b : Bool) (n : ℕ) → writer_point draw b (WritePoint.StoreTail n AfterWrite.Answer) ≡ WritePoint.StoreTail n AfterWrite.Answer
stores-at draw b n = grind arith

pub shuts-at : (draw : Option Bool) (b : Bool) → writer_point draw b (WritePoint.StoreClosed AfterWrite.WakeWriter) ≡ WritePoint.StoreClosed AfterWrite.WakeWriter
shuts-at draw b = grind arith

pub closes-at : (draw : Option Bool) (b : Bool) → writer_point draw b (WritePoint.StoreClosed AfterWrite.Drop) ≡ WritePoint.StoreClosed AfterWrite.Drop
closes-at draw b = grind arith

pub shuts-not : (point : WritePoint) (w : WriterAt) → write_action point ≡ Action.StoreClosed false → shut_at point w ≡ w
shuts-not point w e = grind arith

pub shuts : (point : WritePoint) (w : WriterAt) → write_action point ≡ Action.StoreClosed true → shut_at point w ≡ record w { is_shut = true; given = []; spare = 0 }
shuts point w e = grind arith

-- a call of a source is lent places first
pub offers : (point : WritePoint) (lent before : List ℕ) → write_action point ≡ Action.CallSource → lent_to point lent before ≡ lent
offers point lent before e = grind arith

pub may-offer : (point : WritePoint) (acts : List SourceAct) (lent : List ℕ) (p : Pipe) → ((b : ℕ) (bs : List ℕ) (rest : List SourceAct) → acts ≡ SourceAct.Bytes (b ∷ bs) ∷ rest → Lendable MOST_A_ROUND p (length lent)) → MayOffer point acts lent p
may-offer point acts lent p lendable = grind arith

pub may-go : (point : WritePoint) (acts : List SourceAct) (lent : List ℕ) (p : Pipe) → (write_action point ≡ Action.CallSource → ⊥) → MayOffer point acts lent p
may-go point acts lent p other = grind arith

pub is-source : (point : WritePoint) → write_action point ≡ Action.CallSource → (form : Form) × (sum : ℕ) × (point ≡ WritePoint.CallSource form sum)
is-source = grind arith

-- what may be lent by the log, may be lent by the machine
module _ (capacity : ℕ) (r : ReaderAt) (w : WriterAt) (s : Words) (k : Chance) (acts : List DestAct) (l : Chance) (sources : List SourceAct) (fits : Fits capacity r w s) where
  pub may-lend : (most n : ℕ) → MayLend capacity most w n → Lendable most (pipe_at capacity r w s k acts l sources) n
  may-lend most n may = grind (arith, common_steps)

pub gives-within : (lent : ℕ) (from : Source) (bytes : List ℕ) → Gives lent from bytes → length bytes ≤ lent
gives-within lent from bytes may = grind arith

-- what a source that is lent as many places gives, and what is left of it
module _ (lent : ℕ) (sources : List SourceAct) (bytes : List ℕ) where
  pub given-is : (from : Source) → Gives lent from bytes → given lent (source_at from (SourceAct.Bytes bytes ∷ sources)) ≡ Ok (length bytes)
  given-is from may = grind arith

  pub bytes-are : (from : Source) → Gives lent from bytes → take (length bytes) (bytes_of (source_at from (SourceAct.Bytes bytes ∷ sources))) ≡ bytes
  bytes-are from may = grind (arith, common_steps)

  pub left-is : (from : Source) → left_of_source (length bytes) (source_at from (SourceAct.Bytes bytes ∷ sources)) ≡ source_at (source_after (length bytes) from) sources
  left-is from = grind (arith, common_steps)

pub gives-none : (lent : ℕ) (from : Source) → Gives lent from [] → given 0 (source_at from []) ≡ Ok 0
gives-none lent from may = grind arith

-- if bytes are left that are not given, nothing was lent
pub lends-none : (lent : ℕ) (from : Source) (b : ℕ) (bs : List ℕ) (rest : List SourceAct) → Gives lent from [] → source_at from [] ≡ SourceAct.Bytes (b ∷ bs) ∷ rest → lent ≡ 0
lends-none lent from b bs rest may e = grind arith

-- what a log says of a lend, in the machine's words

pub lends-these : (capacity n : ℕ) (w : WriterAt) → n ≤ lendable capacity w → MayLend capacity n w n
lends-these capacity n w within = grind arith

module _ (capacity : ℕ) (w : WriterAt) (bytes : List ℕ) where
  pub lends-so : (from : Source) → MayGive (most_lent capacity w) from bytes → MayLend capacity MOST_A_ROUND w (lent_for (most_lent capacity w) from (length bytes))
  lends-so from may = grind (arith, common_steps)

  pub gives-so : (from : Source) → MayGive (most_lent capacity w) from bytes → Gives (lent_for (most_lent capacity w) from (length bytes)) from bytes
  gives-so from may = grind (arith, common_steps)
