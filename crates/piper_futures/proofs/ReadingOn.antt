-- What comes in two polls is in order.
use Rattle.std.proofs.Common.{◌≤◌, inl, inr, arith, ℕ, List}
use Rattle.futures.specs.declared.task.context.Context.{Context}
use Rattle.piper.specs.declared.error.PipeError.{PipeError}
use Rattle.piper_futures.specs.Reading.{LacksSpace}
use Rattle.piper_futures.specs.Writing.{FailsOnce}
use Rattle.piper_lines.specs.Refusals.{IsReported}

-- what lacked room in more memory lacks it in less
pub less_space : (e : PipeError) (Own : PipeError → Type 0) (room0 room1 : ℕ) (came known : List ℕ) → room0 ≤ room1 → IsReported e Own (LacksSpace room1 came known)
    → IsReported e Own (LacksSpace room0 came known)
less_space e Own room0 room1 came known less (inl own) = inl own
less_space e Own room0 room1 came known less (inr lacks) = inr (lacks.0, (lacks.1.0, omega (arith, less, lacks.1.1)))

-- an error of the reader's own in this poll, or want of memory where more was known
pub told_once : {R : Type 0} (fails : R → Context → PipeError → Type 0) (cx : Context) (r : R) (e : PipeError) (Lacks Known : Type 0) → (Lacks → Known)
    → IsReported e (fails r cx) Lacks → IsReported e (FailsOnce fails r) Known
told_once fails cx r e Lacks Known f (inl own) = inl (cx, own)
told_once fails cx r e Lacks Known f (inr lacks) = inr (lacks.0, f lacks.1)
