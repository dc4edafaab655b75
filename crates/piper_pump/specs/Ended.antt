-- How the pump ends after a transfer, and the exit status that reports it.
use Rattle.std.specs.Prelude.{◌≡◌, ◌≢◌, ◌⊎◌, ℕ, Bool, true, false, Result, Ok, Err}
use Rattle.std.specs.IoError.{error_kind}
use Rattle.std.specs.declared.io.ErrorKind.TheVariants.{BrokenPipe}
use Rattle.clap.specs.Words.{kind_of}
use Rattle.clap.specs.declared.error.kind.ErrorKind.TheVariants.{DisplayHelp, DisplayVersion}
use Rattle.clap.specs.declared.error.Error.{Error}
use Rattle.piper_transfer.specs.declared.error.TransferError.{TransferError}
use Rattle.piper_transfer.specs.declared.error.TransferError.TheVariants.{Read, Write, Full, Memory, Turns}
use Rattle.piper_pump.specs.declared.ended.Ended.{Ended}
use Rattle.piper_pump.specs.declared.ended.Ended.TheVariants as ended

-- a transfer with this answer ends the program so. If all was moved, it matters whether some copy or
-- the sum is lacking. A write that fails with a broken pipe says that the program which read the
-- output has ended
abbrev pub EndsAs : {A : Type 0} → Result A TransferError → Bool → Ended → Type 0
EndsAs (Ok moved) lacks_some e =
    (lacks_some ≡ false → e ≡ ended.Moved) × (lacks_some ≡ true → e ≡ ended.Copies)
EndsAs (Err (Read failed)) lacks_some e = e ≡ ended.Input (Read failed)
EndsAs (Err (Write failed)) lacks_some e =
    (error_kind failed ≡ BrokenPipe → e ≡ ended.Closed)
    × (error_kind failed ≢ BrokenPipe → e ≡ ended.Output (Write failed))
EndsAs (Err Full) lacks_some e = e ≡ ended.Output Full
EndsAs (Err Memory) lacks_some e = e ≡ ended.Memory
EndsAs (Err (Turns failed)) lacks_some e = e ≡ ended.Memory

-- the words on the command line ask for the help or the version
abbrev pub IsShown : Error → Type 0
IsShown error = (kind_of error ≡ DisplayHelp) ⊎ (kind_of error ≡ DisplayVersion)

-- the exit status that reports it; of words that ask for the help or the version, tests say it
abbrev pub HasStatus : Ended → ℕ → Type 0
HasStatus ended.Moved n = n ≡ 0
HasStatus (ended.Words error) n = ¬ IsShown error → n ≡ 2
HasStatus ended.NotText n = n ≡ 2
HasStatus (ended.Value option) n = n ≡ 2
HasStatus (ended.NoInput file) n = n ≡ 3
HasStatus (ended.NoOutput file) n = n ≡ 4
HasStatus (ended.Input failed) n = n ≡ 3
HasStatus (ended.Output failed) n = n ≡ 4
HasStatus ended.Closed n = n ≡ 141
HasStatus ended.Copies n = n ≡ 7
HasStatus ended.Memory n = n ≡ 6
