-- The bytes that lines consumed and published.
use Rattle.std.specs.Prelude.{ℕ, List, [], ◌∷◌, ◌++◌}
use Rattle.piper_machine.specs.logs.Line.{Line, stored_head, stored_tail}

abbrev pub consumed_by : Line → List ℕ
consumed_by (stored_head bytes) = bytes
consumed_by line = []

abbrev pub published_by : Line → List ℕ
published_by (stored_tail bytes) = bytes
published_by line = []

-- the bytes that these lines consumed or published, oldest first

abbrev pub consumed : List Line → List ℕ
consumed [] = []
consumed (line ∷ before) = consumed before ++ consumed_by line

abbrev pub published : List Line → List ℕ
published [] = []
published (line ∷ before) = published before ++ published_by line
