-- The pieces that a reader yields, lines or frames, and the errors between them.
use Rattle.std.specs.Prelude.{◌≡◌, ℕ, ◌⊎◌, Bool, List, [], ◌∷◌, ◌++◌, Option, None, Result, Ok, Err, Vec}
use Rattle.std.specs.List.{flat_map}
use Rattle.std.specs.declared.alloc.Global.{Global}
use Rattle.futures.specs.Runs.{Ends}
use Rattle.piper.specs.declared.error.PipeError.{PipeError}
use Rattle.piper_lines.specs.AtEnd.{AtEnd}
use Rattle.piper_lines.specs.Moves.{Moves}

-- a piece, or why none came
abbrev pub Item : Type 0
Item = Result (Vec ℕ Global) PipeError

-- the bytes that the reader had for an item: none for an error
abbrev pub item_bytes : (List ℕ → List ℕ) → Item → List ℕ
item_bytes bytes (Ok piece) = bytes piece.items
item_bytes bytes (Err e) = []

-- those for the items, in order
abbrev pub joined_items : (List ℕ → List ℕ) → List Item → List ℕ
joined_items bytes items = flat_map (item_bytes bytes) items

-- those for the next answer
abbrev pub last_bytes : (List ℕ → List ℕ) → Option Item → List ℕ
last_bytes bytes None = []
last_bytes bytes (Option.Some item) = item_bytes bytes item

module _ (Goes : Item → Type 0) (Closes : List ℕ → List ℕ → Bool → Item → Type 0) where
  -- more may come after each item, but for one that closes: after that nothing comes. The end is
  -- reported there, or where nothing is left
  abbrev pub Follow : List ℕ → List ℕ → Bool → List Item → Option Item → Type 0
  Follow left known saw [] None = (left ≡ []) × AtEnd known saw
  Follow left known saw [] (Option.Some item) = Goes item ⊎ Closes left known saw item
  Follow left known saw (item ∷ items) last =
      (Goes item × Follow left known saw items last)
      ⊎ (Closes left known saw item × Ends items last)

  -- what may come from a reader and what is kept of a piece: none of the bytes that were taken is
  -- lost, made up or out of its place
  abbrev pub PieceRuns : {R : Type 0} → (R → List ℕ) → (R → List ℕ) → (R → Bool)
      → (List ℕ → List ℕ) → R → List ℕ → List Item → Option Item → Type 0
  PieceRuns {R} taken known saw bytes reader kept items last =
      (later : R) × (left : List ℕ)
      × Moves (taken reader) (taken later)
      kept (joined_items bytes items ++ last_bytes bytes last) left
      × Follow left (known later) (saw later) items last
