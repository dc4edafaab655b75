-- Every front of a run: at each moment, between any two steps,
-- the laws hold of the pipe and log that the steps so far led to.
use Rattle.std.specs.Prelude.{ℕ, List, [], take, drop}
use Rattle.piper_machine.specs.Types.{Step, Event}
use Rattle.piper_machine.specs.Pipe.{Pipe, fresh}
use Rattle.piper_machine.specs.Run.{Runs}
use Rattle.piper_machine.specs.Lawful.{IsLawful}

-- the moment after the first i steps, which lead to it from a fresh pipe,
-- and from which the others lead on to this pipe and log
pub record Front (capacity : ℕ) (steps : List Step) (i : ℕ) (p : Pipe)
    (events : List Event) : Type 0 where
  pub pipe : Pipe
  pub log : List Event
  pub runs : Runs (fresh capacity) [] (take i steps) pipe log
  pub lawful : IsLawful capacity (take i steps) pipe log
  pub rest : Runs pipe log (drop i steps) p events
