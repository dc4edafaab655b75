-- What a reader of lines has.
use Rattle.std.specs.Prelude.{◌≡◌, ℕ, List, [], vec_capacity}
use Rattle.std.specs.Borrow.{Fml, RattleType, MutBor, Lends}
use Rattle.piper_lines.specs.declared.line_reader.Lines.{Lines}
use Rattle.piper_lines.specs.contracts.line_reader.Lines.{the_row}

-- the reader below
abbrev pub reader_of : {R : Type 0} → Lines R → R
reader_of lines = lines.reader

-- the byte that ends a line
abbrev pub end_of : {R : Type 0} → Lines R → ℕ
end_of lines = lines.end

-- what was taken of a line that has not come to its end
abbrev pub kept_of : {R : Type 0} → Lines R → List ℕ
kept_of lines = lines.kept.items

-- how many bytes the memory holds that is there for them
abbrev pub room_of : {R : Type 0} → Lines R → ℕ
room_of lines = vec_capacity lines.kept

-- nothing more comes: the reader below has reported its end, and no byte is kept
abbrev pub LinesAreSpent : {R : Type 0} → (R → Type 0) → Lines R → Type 0
LinesAreSpent ended lines = ended (reader_of lines) × (kept_of lines ≡ [])

-- the lines, once a `&mut` to the reader has ended: they have the reader as it was left
abbrev pub lends_reader : (R : RattleType) → MutBor (Lines R.Denot) → MutBor R.Denot → Fml
lends_reader R lines reader =
    Lends (the_row R) R lines reader (λ (w : R.Denot). record lines.now { reader = w })
