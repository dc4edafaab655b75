-- What a side writes down of what it does: one line for each access of what both sides share, one
-- for each call that begins, and one for each thing that its caller decides.
use Rattle.std.specs.Prelude.{ℕ, Bool, List, Option}
use Rattle.piper_machine.specs.Types.{Side}

-- a call, with what it is handed: a waker by its name, bytes, or a number of places to fill. Those
-- called `with`, `poll_drains` and `poll_fills` have a destination or source of the caller's own. A
-- query is not among them, nor is a lend, which accesses nothing
pub data Opening : Type 0 where
  polls : ℕ → Opening
  try_drains : ℕ → Opening
  try_drains_with : Opening
  poll_drains_bytes : ℕ → ℕ → Opening
  poll_drains : ℕ → Opening
  -- gives up these bytes, which are the first that the reader knows of
  consumes : List ℕ → Opening
  try_fills : List ℕ → Opening
  try_fills_with : Opening
  poll_fills_bytes : ℕ → List ℕ → Opening
  poll_fills : ℕ → Opening
  -- publishes these bytes, which the writer was lent places for
  produces : List ℕ → Opening
  closes : Opening
  drops : Opening

-- heads and tails are counts of all the bytes that were consumed and published so far
pub data Line : Type 0 where
  began : Opening → Line
  loaded_head : ℕ → Line
  loaded_tail : ℕ → Line
  loaded_closed : Bool → Line
  -- the head went past these bytes, or the tail
  stored_head : List ℕ → Line
  stored_tail : List ℕ → Line
  stored_closed : Line
  -- the slot in which this side waits was loaded: a waker is in it, or none
  loaded_slot : Side → Bool → Line
  -- what this slot held was exchanged for something else: what was found, and what was left
  swapped : Side → Option ℕ → Option ℕ → Line
  -- outside any call, a meet taught this side what the other one counts
  met_head : ℕ → Line
  met_tail : ℕ → Line
  -- its own slot was not accessed, since no waker of its own is there
  knew_empty : Line
  -- the destination took these bytes
  took : List ℕ → Line
  -- the source gave these bytes
  gave : List ℕ → Line
  -- the source or destination failed
  failed : Line
  -- a copy drew whether it yields
  drew : Bool → Line
  -- a waker was to be registered, and memory for it was refused
  refused : Line
  -- the caller's own waker was called in place of the rounds of a copy
  yielded : ℕ → Line
  -- the waker that was taken last was called
  woke : ℕ → Line
