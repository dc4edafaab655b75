-- What both sides keep of an open call, and what the lines say that both have.
use Rattle.std.specs.Prelude.{ℕ, Bool, true, false, Option, None, Some, is_some}
use Rattle.piper_machine.specs.Types.{Side, Found, Reader, Writer}
use Rattle.piper_machine.specs.logs.Line.{Line, loaded_closed, loaded_slot, swapped, knew_empty, failed, drew, refused, yielded, woke}

pub record Calling : Type 0 where
  -- the waker that the call was handed
  pub handed : Option ℕ
  -- the waker that it took last and has not called
  pub taken : Option ℕ
  -- what it drew, if it has drawn
  pub draw : Option Bool
  -- whether its waker was registered, or memory for that was refused, if it has tried
  pub granted : Option Bool

abbrev pub no_calling : Calling
no_calling = record {
  handed = None;
  taken = None;
  draw = None;
  granted = None;
}

abbrev pub handed_over : Option ℕ → Calling
handed_over waker = record no_calling { handed = waker }

-- what a line leaves of this
abbrev pub calling_after : Line → Calling → Calling
calling_after (loaded_slot side false) c = record c { taken = None }
calling_after (swapped side old None) c = record c { taken = old }
calling_after (swapped side old (Some waker)) c = record c { granted = Some true }
calling_after refused c = record c { granted = Some false }
calling_after (drew is_drawn) c = record c { draw = Some is_drawn }
calling_after knew_empty c = record c { taken = None }
calling_after (woke waker) c = record c { taken = None }
calling_after line c = c

-- what the table is told of a line that both sides have
abbrev pub told_by : Line → Found
told_by (loaded_closed is_closed) = Found.Flag is_closed
told_by (loaded_slot side is_filled) = Found.Waker is_filled
told_by (swapped side old None) = Found.Waker (is_some old)
told_by (swapped side old (Some waker)) = Found.Granted true
told_by knew_empty = Found.Waker false
told_by failed = Found.Failed
told_by refused = Found.Granted false
told_by (yielded waker) = Found.Granted true
told_by line = Found.Nothing

-- whether its waker may be in its own slot, after a line of this side
abbrev pub may_wait_after : Side → Line → Bool → Bool
may_wait_after Reader (loaded_slot Reader false) before = false
may_wait_after Writer (loaded_slot Writer false) before = false
may_wait_after Reader (swapped Reader old left) before = is_some left
may_wait_after Writer (swapped Writer old left) before = is_some left
may_wait_after side line before = before
