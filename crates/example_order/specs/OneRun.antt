-- What both handles of a pipe did is one run of the model.
use Rattle.std.specs.Prelude.{◌≡◌, ℕ, List, ◌∷◌}
use Rattle.piper_protocol.specs.Lines.{Line, met}
use Rattle.piper_protocol.specs.declared.table.Side.TheVariants as side
use Rattle.piper_machine.specs.logs.OfHandles.{lines_in}
use Rattle.piper_machine.specs.logs.Wide.{IsOneWideRun}
use Rattle.piper.specs.OfReader.{capacity, lines}
use Rattle.piper.specs.OfWriter as of_writer
use Rattle.piper.specs.declared.handles.Reader.{Reader}
use Rattle.piper.specs.declared.handles.Writer.{Writer}

-- both met just now, and what each had done until then is its side of one run
pub record DidOneRun (r : Reader) (w : Writer) : Type 0 where
  pub read : List Line
  pub written : List Line
  pub reader : (published : ℕ) × (lines r ≡ met published ∷ read)
  pub writer : (consumed : ℕ) × (of_writer.lines w ≡ met consumed ∷ written)
  pub run : IsOneWideRun (capacity r) (lines_in side.Reader read) (lines_in side.Writer written)
