-- Pairs of logs, as one list of what both sides did, the last first.
use Rattle.std.specs.Prelude.{List, [], ◌∷◌, true, false, None, Some}
use Rattle.piper_machine.specs.Types.{Reader, Writer}
use Rattle.piper_machine.specs.logs.Line.{Line, try_drains, try_fills, polls, produces, began, loaded_tail, loaded_closed, stored_head, stored_tail, loaded_slot, swapped, took, gave, woke}
use Rattle.piper_machine.specs.logs.OneList.{By, by}

-- a pipe of four places: two bytes are filled in and drained, and the drain begins first
abbrev pub fill_and_drain : List (By Line)
fill_and_drain =
    by Reader (took [])
    ∷ by Reader (loaded_slot Writer false)
    ∷ by Writer (gave [])
    ∷ by Reader (stored_head (5 ∷ 6 ∷ []))
    ∷ by Writer (loaded_slot Reader false)
    ∷ by Reader (took (5 ∷ 6 ∷ []))
    ∷ by Reader (loaded_tail 2)
    ∷ by Writer (stored_tail (5 ∷ 6 ∷ []))
    ∷ by Writer (loaded_closed false)
    ∷ by Writer (gave (5 ∷ 6 ∷ []))
    ∷ by Reader (began (try_drains 2))
    ∷ by Writer (loaded_closed false)
    ∷ by Writer (began (try_fills (5 ∷ 6 ∷ [])))
    ∷ []

-- a poll registers and is left pending, and the writer, which publishes a byte meanwhile, calls its
-- waker
abbrev pub wait_and_wake : List (By Line)
wait_and_wake =
    by Writer (woke 7)
    ∷ by Writer (swapped Reader (Some 7) None)
    ∷ by Writer (loaded_slot Reader true)
    ∷ by Writer (stored_tail (5 ∷ []))
    ∷ by Reader (loaded_tail 0)
    ∷ by Reader (loaded_closed false)
    ∷ by Reader (swapped Reader None (Some 7))
    ∷ by Writer (began (produces (5 ∷ [])))
    ∷ by Reader (loaded_tail 0)
    ∷ by Reader (began (polls 7))
    ∷ []

-- a poll that was left pending is made again. It takes its first waker out before it registers; the
-- writer finds the slot empty then, and the poll finds the byte
abbrev pub wait_again : List (By Line)
wait_again =
    by Reader (swapped Reader (Some 8) None)
    ∷ by Reader (loaded_slot Reader true)
    ∷ by Reader (loaded_tail 1)
    ∷ by Reader (loaded_closed false)
    ∷ by Reader (swapped Reader None (Some 8))
    ∷ by Writer (loaded_slot Reader false)
    ∷ by Writer (stored_tail (5 ∷ []))
    ∷ by Reader (swapped Reader (Some 7) None)
    ∷ by Writer (began (produces (5 ∷ [])))
    ∷ by Reader (loaded_tail 0)
    ∷ by Reader (began (polls 8))
    ∷ by Reader (loaded_tail 0)
    ∷ by Reader (loaded_closed false)
    ∷ by Reader (swapped Reader None (Some 7))
    ∷ by Reader (loaded_tail 0)
    ∷ by Reader (began (polls 7))
    ∷ []
