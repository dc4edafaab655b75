-- A call that copies bytes from a source or to a destination that follows a script, run whole.
use Rattle.std.specs.Prelude.{ℕ, ◌+◌, min, List, [], ◌∷◌, ◌++◌, take, length, Bool, true, false, Option, if◌then◌else◌, ◌==◌, nat_lt, Result, Ok, Err}
use Rattle.piper_machine.specs.Types.{SourceAct, DestAct, Failed, Context, Ready, MOST_A_ROUND}
use Rattle.piper_machine.specs.Pipe.{Pipe, begun}
use Rattle.piper_machine.specs.Places.{peeked_count}
use Rattle.piper_machine.specs.Look.{reader_look, writer_look}
use Rattle.piper_machine.specs.Copy.{Copied, answered, copied_after, filled, drained, unlent}

-- the bytes that a source gives before its end:
-- a failure, an act of no bytes, or the end of its script
abbrev pub bytes_given : List SourceAct → List ℕ
bytes_given [] = []
bytes_given (SourceAct.Fail ∷ acts) = []
bytes_given (SourceAct.Bytes [] ∷ acts) = []
bytes_given (SourceAct.Bytes (byte ∷ bytes) ∷ acts) = byte ∷ bytes ++ bytes_given acts

-- whether that end is a failure
abbrev pub ends_in_failure : List SourceAct → Bool
ends_in_failure [] = false
ends_in_failure (SourceAct.Fail ∷ acts) = true
ends_in_failure (SourceAct.Bytes [] ∷ acts) = false
ends_in_failure (SourceAct.Bytes (byte ∷ bytes) ∷ acts) = ends_in_failure acts

-- where more is given than there is room, the source's end is not reached
abbrev pub source_answer : Bool → Bool → ℕ → Result ℕ Failed
source_answer true fails count = Ok count
source_answer false true count = Err (record {})
source_answer false false count = Ok count

-- the rounds, where so many bytes have moved before
abbrev pub fill_moves_more : ℕ → List SourceAct → Pipe → Copied (Result ℕ Failed)
fill_moves_more sum acts p =
    let bytes = bytes_given acts in
    let n = min (length bytes) p.room in
    let answer = source_answer (nat_lt p.room (length bytes)) (ends_in_failure acts) (sum + n) in
    answered (Ready answer) (filled (take n bytes) p)

abbrev pub fill_moves_from : List SourceAct → Pipe → Copied (Result ℕ Failed)
fill_moves_from = fill_moves_more 0

-- what one act takes of the peeked slice
abbrev pub taken_by : ℕ → Pipe → ℕ
taken_by most p = min most (min (peeked_count p) MOST_A_ROUND)

-- act by act: a count of 0 and the end of the script end the call with the sum
abbrev pub drain_moves_to : List DestAct → ℕ → Pipe → Copied (Result ℕ Failed)
drain_moves_to [] sum p = answered (Ready (Ok sum)) p
drain_moves_to (DestAct.Fail ∷ acts) sum p = answered (Ready (Err (record {}))) p
drain_moves_to (DestAct.Take most ∷ acts) sum p =
    let n = taken_by most p in
    if n == 0 then answered (Ready (Ok sum)) p else drain_moves_to acts (sum + n) (drained n p)

abbrev pub fill_from : Option Context → List SourceAct → Pipe → Copied (Result ℕ Failed)
fill_from cx acts p =
    let look = writer_look cx (unlent (begun p)) in
    copied_after cx (Ok 0) (fill_moves_from acts) look.answer look.pipe

abbrev pub drain_to : Option Context → List DestAct → Pipe → Copied (Result ℕ Failed)
drain_to cx acts p =
    let look = reader_look cx (begun p) in
    copied_after cx (Ok 0) (drain_moves_to acts 0) look.answer look.pipe
