-- What clauses see of an end.
use Rattle.piper.specs.declared.handles.Reader.{Reader}
use Rattle.piper.specs.declared.handles.Writer.{Writer}
use Rattle.piper_tokio.specs.declared.end.CompatEnd.{CompatEnd}
use Rattle.piper_tokio.specs.declared.halves.CompatReader.{CompatReader}
use Rattle.piper_tokio.specs.declared.halves.CompatWriter.{CompatWriter}

-- the half that reads, and its handle
abbrev pub read_half : CompatEnd → CompatReader
read_half end = end.reader

abbrev pub reading : CompatEnd → Reader
reading end = end.reader.reader

-- the half that writes, and its handle
abbrev pub write_half : CompatEnd → CompatWriter
write_half end = end.writer

abbrev pub writing : CompatEnd → Writer
writing end = end.writer.writer
