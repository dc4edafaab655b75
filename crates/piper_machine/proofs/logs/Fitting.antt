-- A pipe of sides and words that fit is sound.
use Rattle.std.proofs.Common.{◌≡◌, ℕ, ◌+◌, List, length, replicate, ap, ◌∙◌, arith, length-append}
use Rattle.std.proofs.lemmas.Grind.{common_steps}
use Rattle.std.proofs.lemmas.List.{length-replicate}
use Rattle.piper_machine.specs.Types.{DestAct, SourceAct}
use Rattle.piper_machine.specs.Sound.{IsSound}
use Rattle.piper_machine.specs.logs.OneList.{Words}
use Rattle.piper_machine.specs.logs.Reading.{ReaderAt}
use Rattle.piper_machine.specs.logs.Writing.{WriterAt}
use Rattle.piper_machine.proofs.logs.Joint.{Chance, Fits, lent_at, pipe_at}

pub length-lent : (w : WriterAt) → length (lent_at w) ≡ length w.given + w.spare
length-lent w = length-append w.given (replicate w.spare 0) ∙ ap (λ n. length w.given + n) (length-replicate w.spare 0)

pub sound : (capacity : ℕ) (r : ReaderAt) (w : WriterAt) (s : Words) (k : Chance) (acts : List DestAct) (l : Chance) (sources : List SourceAct) → Fits capacity r w s → IsSound (pipe_at capacity r w s k acts l sources)
sound capacity r w s k acts l sources fits = grind (arith, common_steps)
