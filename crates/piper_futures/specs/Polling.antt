-- What a future waits for, by the ends that it holds.
use Rattle.std.specs.Prelude.{ℕ, Bool, List, length, Option, IsSomeAnd}
use Rattle.futures.specs.declared.task.context.Context.{Context}
use Rattle.piper_lines.specs.Stays.{Pends, WentOn}

-- the sources of its reader or writer
abbrev pub Needs : {E X : Type 0} → (E → ℕ → Type 0) → Option (E × X) → ℕ → Type 0
Needs needs ends s = IsSomeAnd ends (λ e. needs e.0 s)

-- a call of its reader or writer was pending with this context
abbrev pub Waits : {E X : Type 0} → (E → Context → Type 0) → Option (E × X) → Context → Type 0
Waits waits ends cx = IsSomeAnd ends (λ e. waits e.0 cx)

-- the same of a reader that lends; or bytes were taken, and it asked for another poll itself
abbrev pub WaitsOrTook : {R X : Type 0} → (R → List ℕ) → (R → List ℕ) → (R → Bool)
    → (R → Context → Type 0) → Option (R × X) → Option (R × X) → Context → Type 0
WaitsOrTook taken known knows_end waits old new cx =
    IsSomeAnd old (λ a. IsSomeAnd new (λ b.
    Pends known knows_end waits b.0 (WentOn (length (taken a.0)) (length (taken b.0))) cx))
