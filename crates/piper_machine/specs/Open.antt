-- What an open call holds besides its point.
use Rattle.std.specs.Prelude.{Option, None, Some, Bool, false}
use Rattle.piper_machine.specs.Types.{Context, OpenCall}

abbrev pub no_call : OpenCall
no_call = record { context = None; taken = None }

abbrev pub called_with : Option Context → OpenCall
called_with context = record { context = context; taken = None }

-- whether the clone of the call's waker is granted where it is to be registered
abbrev pub is_granted : Option Context → Bool
is_granted None = false
is_granted (Some cx) = cx.luck.register_granted

-- whether the clone of the call's waker is granted where it is to be called by a yield
abbrev pub is_yield_granted : Option Context → Bool
is_yield_granted None = false
is_yield_granted (Some cx) = cx.luck.yield_granted
