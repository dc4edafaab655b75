-- The context that a copy is handed, and what it is left as.
use Rattle.std.specs.Prelude.{◌≡◌, true, Option, None, ⊤}
use Rattle.futures.specs.Task.{Covers}
use Rattle.futures.specs.declared.task.context.Context.{Context}
use Rattle.futures.specs.declared.task.waker.Waker.{Waker}
use Rattle.piper.specs.declared.error.PipeError.{PipeError}
use Rattle.piper.specs.declared.error.PipeError.TheVariants.{Memory}

-- the poll asked for another one itself: it hears of every source
abbrev pub AsksAgain : Context → Type 0
AsksAgain cx = Covers cx (λ _. ⊤)

-- a context was asked for a waker, with this one in hand or none, and gave this one or none; and it was
-- asked for nothing else. It is sealed: no proof looks into it, and only that of `ask` uses the lemma
-- below
pub WasAsked : Option Waker → Option Waker → Context → Context → Type 0
WasAsked held given old left = ⊤

pub as_asked : (held given : Option Waker) (old left : Context) → WasAsked held given old left
unfolding WasAsked
as_asked held given old left = tt

-- the waker that a call asked its context for could not be made
abbrev pub LacksWaker : Context → Context → Type 0
LacksWaker old left =
    ((held : Option Waker) × WasAsked held None old left) × (left.lacks_waker ≡ true)

-- want of memory, since no waker could be made
abbrev pub WantsWaker : Context → PipeError → Type 0
WantsWaker cx e = (e ≡ Memory) × (cx.lacks_waker ≡ true)
