-- A part of a place's number holds nothing of one thread.
use Rattle.std.specs.Prelude.{ℕ, Bool, true, false}
use Rattle.piper_cells.proofs.SpaceKit.{Share, latest, Keyless, counted, right}

pub counted-Keyless : (q : Share) (name : ℕ) (filled : Bool) (n : ℕ) → Keyless (counted q name filled n)
unfolding latest
counted-Keyless q name filled n = ((λ _. tt), tt)

pub right-Keyless : (there : Bool) (name : ℕ) (filled : Bool) → Keyless (right there name filled)
right-Keyless false name filled = tt
right-Keyless true name filled = λ n. counted-Keyless _ name filled n
