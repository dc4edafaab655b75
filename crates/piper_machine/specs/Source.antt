-- How a source keeps its place in its script.
use Rattle.std.specs.Prelude.{ℕ, ◌≤◌, List, [], ◌∷◌, length, drop, Bool, true, false}
use Rattle.piper_machine.specs.Types.{SourceAct}

-- what an act gives that is the next one
abbrev pub bytes_of : List SourceAct → List ℕ
bytes_of [] = []
bytes_of (SourceAct.Fail ∷ acts) = []
bytes_of (SourceAct.Bytes bytes ∷ acts) = bytes

pub record IsSource (given spent : ℕ) (acts : List SourceAct) : Type 0 where
  pub within : spent ≤ length acts
  pub left : given ≤ length (bytes_of (drop spent acts))

-- without the first bytes of the first act
abbrev pub without : ℕ → List SourceAct → List SourceAct
without given [] = []
without given (SourceAct.Fail ∷ acts) = SourceAct.Fail ∷ acts
without given (SourceAct.Bytes bytes ∷ acts) = SourceAct.Bytes (drop given bytes) ∷ acts

abbrev pub source_left : ℕ → ℕ → List SourceAct → List SourceAct
source_left given spent acts = without given (drop spent acts)

abbrev pub is_failing : List SourceAct → Bool
is_failing (SourceAct.Fail ∷ acts) = true
is_failing acts = false
