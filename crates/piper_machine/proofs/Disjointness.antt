-- The places of the two sides are apart in every sound pipe, and no step of the writer changes a
-- byte that the reader knows.
use Rattle.std.proofs.Common.{◌≡◌, List, Result, arith, OnOk, OnErr}
use Rattle.std.proofs.lemmas.Grind.{common_steps}
use Rattle.piper_machine.specs.Types.{Event, StepRefusal, Step}
use Rattle.piper_machine.specs.Pipe.{Pipe}
use Rattle.piper_machine.specs.Sound.{IsSound}
use Rattle.piper_machine.specs.Run.{Made}
use Rattle.piper_machine.specs.Disjoint.{IsDisjoint, KeepsKnown, IsWriterStep}

pub disjoint : (p : Pipe) → IsSound p → IsDisjoint p
disjoint p sound place reads writes = grind arith

-- a step that is refused leaves the pipe as it is
pub tried-keeps : (r : Result Unit StepRefusal) (s : Step) (p q : Pipe) (before after : List Event) → IsSound p → OnOk r (Made p s q before after) → OnErr r (q ≡ p) → IsWriterStep s → KeepsKnown p q
tried-keeps r s p q before after sound made same writer = grind (arith, common_steps)
