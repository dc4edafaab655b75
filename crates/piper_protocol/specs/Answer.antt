-- What an answer says, to a caller who knows of which kind it is.
use Rattle.std.specs.Prelude.{ℕ, Bool, false, Result}
use Rattle.piper_protocol.specs.declared.answer.Answer.{Answer}
use Rattle.piper_protocol.specs.declared.answer.Answer.TheVariants.{Count, Flag, Poll, Copy}
use Rattle.piper_protocol.specs.declared.answer.Polled.{Polled}
use Rattle.piper_protocol.specs.declared.answer.Polled.TheVariants.{Memory}
use Rattle.piper_protocol.specs.declared.answer.Failed.{Failed}

abbrev pub count_in : Answer → ℕ
count_in (Count n) = n
count_in answer = 0

abbrev pub flag_in : Answer → Bool
flag_in (Flag b) = b
flag_in answer = false

abbrev pub polled_in : Answer → Polled Bool
polled_in (Poll polled) = polled
polled_in answer = Memory

abbrev pub copied_in : Answer → Polled (Result ℕ Failed)
copied_in (Copy copied) = copied
copied_in answer = Memory
