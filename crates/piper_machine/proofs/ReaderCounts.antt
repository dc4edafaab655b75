-- Where a step of the reader leads: fewer steps remain, no more calls of the destination, and a
-- poll is true only where a byte is known.
use Rattle.std.proofs.Common.{◌≡◌, ℕ, ◌+◌, ◌-◌, ◌≤◌, true, false, arith}
use Rattle.std.specs.Prelude.{⊤}
use Rattle.piper_machine.specs.Types.{Purpose, AfterRead, ReadPoint, Reader}
use Rattle.piper_protocol.specs.Table.{read_action}
use Rattle.piper_machine.specs.Known.{Knowledge}
use Rattle.piper_machine.proofs.Knowing.{Fits}

-- the calls of the destination that remain at most
abbrev look_calls : ℕ → Purpose → ℕ
look_calls known Purpose.Poll = 0
look_calls known (Purpose.Copy form) = 1 + known

abbrev calls_after : ℕ → AfterRead → ℕ
calls_after known (AfterRead.Round form sum) = 1 + known
calls_after known next = 0

abbrev pub read_calls : ℕ → ℕ → ReadPoint → ℕ
read_calls found known (ReadPoint.LookTail l) = look_calls found l
read_calls found known (ReadPoint.LookRegister l) = look_calls found l
read_calls found known (ReadPoint.LookClosed l) = look_calls found l
read_calls found known (ReadPoint.LookTailAgain l was_closed) = look_calls found l
read_calls found known (ReadPoint.LookTake l) = look_calls known l
read_calls found known (ReadPoint.CallDestination form sum) = 1 + known
read_calls found known (ReadPoint.StoreHead n next) = calls_after (known - n) next
read_calls found known (ReadPoint.TakeWriter next) = calls_after known next
read_calls found known (ReadPoint.WakeWriter next) = calls_after known next
read_calls found known point = 0

-- before a look has found something it can still find anything
abbrev pub read_least : ℕ → ReadPoint → ℕ
read_least found (ReadPoint.LookTail l) = 0
read_least found (ReadPoint.LookRegister l) = 0
read_least found (ReadPoint.LookClosed l) = 0
read_least found (ReadPoint.LookTailAgain l was_closed) = 0
read_least found point = found

-- what the reader's point reports of what it knows
abbrev pub ReaderSees : ReadPoint → ℕ → Knowledge → Type 0
ReaderSees (ReadPoint.QueryHead query) known k = (k.is_query ≡ true)
ReaderSees (ReadPoint.QueryTail query) known k = (k.is_query ≡ true)
ReaderSees (ReadPoint.LookTail l) known k = (k.is_query ≡ false)
ReaderSees (ReadPoint.LookRegister l) known k = (k.is_query ≡ false)
ReaderSees (ReadPoint.LookClosed l) known k = (k.is_query ≡ false)
ReaderSees (ReadPoint.LookTailAgain l was_closed) known k = (k.is_query ≡ false)
ReaderSees (ReadPoint.LookTake l) known k = (1 ≤ known)
ReaderSees point known k = ⊤

pub reader-fits : (point : ReadPoint) (known : ℕ) (k : Knowledge) → ReaderSees point known k → Fits Reader (read_action point) k
reader-fits point known k sees = grind arith
