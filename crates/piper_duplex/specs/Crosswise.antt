-- Two pipes between the same two ends, one for each way.
use Rattle.std.specs.Prelude.{ℕ}
use Rattle.piper.specs.Handles.{AreFresh, ArePair, DrawFrom}
use Rattle.piper.specs.ReaderCalls.{MeetWoken, Meets}
use Rattle.piper.specs.declared.handles.Reader.{Reader}
use Rattle.piper.specs.declared.handles.Writer.{Writer}
use Rattle.piper_duplex.specs.declared.end.End.{End}

-- the handle of an end that reads, and the one that writes
abbrev pub reading : End → Reader
reading end = end.reader

abbrev pub writing : End → Writer
writing end = end.writer

-- the handles of a new pipe of `cap` bytes, whose generators begin at `seed`
pub record IsNewPipe (cap seed : ℕ) (reader : Reader) (writer : Writer) : Type 0 where
  pub pair : ArePair reader writer
  pub fresh : AreFresh cap reader writer
  pub draws : DrawFrom seed reader writer

-- the handles of one pipe, once they were held by one thread: what `Reader::meet` ensures, except for `logs`
pub record HaveMet (r0 r1 : Reader) (w0 w1 : Writer) : Type 0 where
  pub met : Meets r0 r1 w0 w1
  pub woken : MeetWoken r0 r1 w0 w1
