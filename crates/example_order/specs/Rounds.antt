-- What holds of the two handles between two rounds.
use Rattle.std.specs.Prelude.{◌≡◌, ◌<◌, false}
use Rattle.piper.specs.declared.handles.Reader.{Reader}
use Rattle.piper.specs.declared.handles.Writer.{Writer}

-- they are of one pipe, which the writer has not closed, and all that it published was taken
pub record IsEmptied (reader : Reader) (writer : Writer) : Type 0 where
  pub ring : writer.side.end.ring ≡ reader.side.end.ring
  pub capacity : 0 < reader.side.end.capacity
  pub shut : writer.side.end.shut ≡ false
  pub taken : reader.side.end.taken ≡ writer.side.end.sent
