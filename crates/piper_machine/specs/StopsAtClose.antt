-- A call of the writer that loaded closed and found it set publishes nothing after that.
use Rattle.std.specs.Prelude.{◌≡◌, ℕ, List, ◌∷◌, ◌++◌, false}
use Rattle.piper_machine.specs.Types.{Event, Writer, Published}
use Rattle.piper_machine.specs.End.{saw_closed}

-- wherever bytes are published
abbrev pub StopsAtClose : List Event → Type 0
StopsAtClose events = (before after : List Event) (bytes : List ℕ) →
    events ≡ before ++ Published bytes ∷ after → saw_closed Writer before ≡ false
