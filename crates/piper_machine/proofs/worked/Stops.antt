-- A fill whose pipe is closed between its round and its look: what its source gave is counted, and
-- not published.
use Rattle.std.specs.Prelude.{◌≡◌, List, [], ◌∷◌, ◌++◌, true, false, None, refl}
use Rattle.piper_machine.specs.Types.{Kind, Seen, Event, Reader, Writer, Began, Looked, Published, Closed}
use Rattle.piper_machine.specs.End.{saw_closed}
use Rattle.piper_machine.specs.StopsAtClose.{StopsAtClose}

-- what such a fill logs, up to its look after the round
abbrev up_to_its_look : List Event
up_to_its_look =
    Began Writer Kind.TryFill None ∷ Looked Writer (Seen.Closed false)
    ∷ Began Reader Kind.Drop None ∷ Closed Reader ∷ Looked Writer (Seen.Closed true) ∷ []

its_last_look_found_it : saw_closed Writer up_to_its_look ≡ true
its_last_look_found_it = refl

published_after_it : StopsAtClose (up_to_its_look ++ Published (7 ∷ []) ∷ []) → ⊥
published_after_it stops = absurd (let never : true ≡ false = stops up_to_its_look [] (7 ∷ []) refl in cc)

-- the close alone stops nobody who has not looked: what was lent before it can be published, and a
-- new call looks afresh
published_before_the_look : saw_closed Writer (Began Writer Kind.TryFill None ∷ Looked Writer (Seen.Closed false) ∷ Closed Reader ∷ []) ≡ false
published_before_the_look = refl

forgotten_by_the_next : saw_closed Writer (up_to_its_look ++ Began Writer Kind.Produced None ∷ []) ≡ false
forgotten_by_the_next = refl
