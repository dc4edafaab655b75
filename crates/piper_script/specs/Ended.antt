-- How a replay ends.
use Rattle.std.specs.Prelude.{◌≡◌, ℕ, List, codes}
use Rattle.piper_script.specs.declared.replay.Ended.{Ended}
use Rattle.piper_script.specs.declared.stop.Stop.{Stop}
use Rattle.piper_script.specs.declared.stop.Stop.TheVariants.{Refused, Memory, Read, Write}

-- it ended with this status and this line for standard error
pub record EndsWith (ended : Ended) (status : ℕ) (text : List ℕ) : Type 0 where
  pub same_status : ended.status ≡ status
  pub same_text : ended.text.now ≡ text

abbrev pub IsEndOf : Stop → Ended → Type 0
IsEndOf (Refused refusal) ended = EndsWith ended 1 (codes "")
IsEndOf Memory ended = EndsWith ended 2 (codes "memory")
IsEndOf Read ended = EndsWith ended 2 (codes "read failed")
IsEndOf Write ended = EndsWith ended 2 (codes "write failed")
