-- Errors of what moves bytes between a pipe and a reader or a writer of std.
use Rattle.std.specs.Prelude.{◌≡◌, ◌⊎◌}
use Rattle.std.specs.IoError.{error_kind}
use Rattle.std.specs.declared.io.ErrorKind.TheVariants.{WriteZero}
use Rattle.piper_protocol.specs.Reported.{HasFailed}
use Rattle.piper.specs.declared.error.PipeError.{PipeError}
use Rattle.piper.specs.declared.error.PipeError.TheVariants.{Memory, Io}

-- std failed with this error
abbrev pub IsIo : PipeError → Type 0
IsIo Memory = ⊥
IsIo (Io e) = HasFailed e

-- a write of std failed with this error, or took none of the bytes
abbrev pub IsOfWrite : PipeError → Type 0
IsOfWrite Memory = ⊥
IsOfWrite (Io e) = HasFailed e ⊎ (error_kind e ≡ WriteZero)
