-- A failure of the pipe: where memory was refused, and as an error of std.
use Rattle.std.specs.Prelude.{◌≡◌}
use Rattle.std.specs.declared.io.Error.{Error}
use Rattle.std.specs.IoError.{error_kind}
use Rattle.std.specs.declared.io.ErrorKind.TheVariants.{OutOfMemory}
use Rattle.piper_protocol.specs.Reported.{HasFailed}
use Rattle.piper.specs.declared.error.PipeError.{PipeError}
use Rattle.piper.specs.declared.error.PipeError.TheVariants.{Memory, Io}

-- memory was asked for and refused: the error came of a refusal of std
abbrev pub WasRefused : PipeError → Type 0
WasRefused e = (e ≡ Memory) × HasFailed e

-- want of memory is reported by its kind, and the error of a source or destination as it is
abbrev pub ReportsFailure : PipeError → Error → Type 0
ReportsFailure Memory error = error_kind error ≡ OutOfMemory
ReportsFailure (Io own) error = error ≡ own
