-- A call of the source: what it was lent is read back off the pipe that the step leaves.
use Rattle.std.proofs.Common.{◌≡◌, length, Option, arith}
use Rattle.piper_machine.specs.Types.{Action, Answer, Writer, Go, MOST_A_ROUND}
use Rattle.piper_protocol.specs.Table.{write_action}
use Rattle.piper_machine.specs.Pipe.{Pipe}
use Rattle.piper_machine.specs.Lend.{Lendable, lending}
use Rattle.piper_machine.specs.Round.{given, found_of}
use Rattle.piper_machine.specs.Action.{source_called}
use Rattle.piper_machine.specs.Step.{stepped, round_left, round_answer, MayOffer}

-- the pipe and the answer of a step, and what it lent
pub record IsCalled (p new : Pipe) (answer : Option Answer) : Type 0 where
  pub pipe : new ≡ (stepped new.lent (Go Writer) p).pipe
  pub answer_is : answer ≡ (stepped new.lent (Go Writer) p).answer
  pub lent : MayOffer p.writer p.source new.lent p

pub source-called-step : (p q : Pipe) → write_action p.writer ≡ Action.CallSource → Lendable MOST_A_ROUND p (length q.lent) → q ≡ source_called (lending q.lent p)
    → let found = found_of (given (length q.lent) p.source) in IsCalled p (round_left found q) (round_answer found q)
source-called-step p q next lendable is = grind arith
