-- Steps over the definitions, up to the first that is refused: what they leave and log.
use Rattle.std.specs.Prelude.{ℕ, List, [], ◌∷◌, ◌++◌, replicate, Option, None, Some, true, if◌then◌else◌}
use Rattle.piper_machine.specs.Types.{Call, Step, Event, StepRefusal, Context}
use Rattle.piper_machine.specs.Pipe.{Pipe}
use Rattle.piper_machine.specs.Lend.{lend_limit}
use Rattle.piper_machine.specs.Look.{context}
use Rattle.piper_machine.specs.Step.{Stepped, stepped}
use Rattle.piper_machine.specs.Refusal.{refusal_of}

-- nothing drawn that matters, and memory for each clone
abbrev pub by : ℕ → Context
by waker = context waker (record { draw = 1; register_granted = true; yield_granted = true })

-- a draw that yields
abbrev pub yielding : ℕ → Context
yielding waker = context waker (record { draw = 0; register_granted = true; yield_granted = true })

-- The length lent is open within bounds. Where no more than 4096 can be lent the bounds meet
-- (`bounds_meet` in Lends.antt), and the examples lend there alone.
abbrev pub lent_count : ℕ → Pipe → ℕ
lent_count most p = if p.is_shut then 0 else lend_limit most p

-- what steps leave and log, or why one of them is refused
pub record Gone : Type 0 where
  pub pipe : Pipe
  pub events : List Event
  pub refusal : Option StepRefusal

-- events that came before
abbrev pub after : List Event → Gone → Gone
after events g = record g { events = events ++ g.events }

-- what is lent is zeros, as many as the bounds allow where they meet
abbrev pub lent_by : Step → Pipe → List ℕ
lent_by (Step.Begin (Call.WriteBuf most)) p = replicate (lent_count most p) 0
lent_by s p = []

abbrev pub gone_unless : Option StepRefusal → Stepped → (Pipe → Gone) → Pipe → Gone
gone_unless (Some refusal) out rest p = record { pipe = p; events = []; refusal = Some refusal }
gone_unless None out rest p = after out.events (rest out.pipe)

abbrev pub gone : List Step → Pipe → Gone
gone [] p = record { pipe = p; events = []; refusal = None }
gone (s ∷ ss) p = gone_unless (refusal_of s p) (stepped (lent_by s p) s p) (gone ss) p
