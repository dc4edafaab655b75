-- Lending: the writer gets free places to write into. How many of them is left open within bounds:
-- it depends on how much of the buffer was set before, which a pipe does not show.
use Rattle.std.specs.Prelude.{◌≡◌, ℕ, ◌≤◌, min, List, true, false}
use Rattle.piper_machine.specs.Pipe.{Pipe}
use Rattle.piper_machine.specs.Places.{places_left}

-- the most that may be lent where `most` is asked for
abbrev pub lend_limit : ℕ → Pipe → ℕ
lend_limit most p = min most (min p.room (places_left p))

-- of a pipe that is not shut at least the lesser of that and 4096 is lent,
-- and so something where something is asked for and room is known; of a shut one nothing
pub record Lendable (most : ℕ) (p : Pipe) (count : ℕ) : Type 0 where
  pub at_most : count ≤ lend_limit most p
  pub at_least : p.is_shut ≡ false → min 4096 (lend_limit most p) ≤ count
  pub some : p.is_shut ≡ false → 1 ≤ most → 1 ≤ p.room → 1 ≤ count
  pub shut : p.is_shut ≡ true → count ≡ 0

-- these bytes are in what is lent
abbrev pub lending : List ℕ → Pipe → Pipe
lending bytes p = record p { lent = bytes }
