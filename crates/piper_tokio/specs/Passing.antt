-- What passes through a handle of the pipe while `tokio` reads or writes it.
use Rattle.std.specs.Prelude.{◌≡◌, ◌++◌, true, false, List, [], ℕ, Result, Ok, Err}
use Rattle.std.specs.declared.io.Error.{Error}
use Rattle.futures.specs.declared.task.Poll.{Poll}
use Rattle.futures.specs.declared.task.Poll.TheVariants.{Ready, Pending}
use Rattle.piper.specs.Copies.{ReaderCopied}
use Rattle.piper.specs.Polls.{Count}
use Rattle.piper.specs.WriteView.{WriteView}
use Rattle.piper.specs.declared.error.PipeError.TheVariants.{Memory}
use Rattle.piper.specs.declared.handles.Reader.{Reader}
use Rattle.piper.specs.declared.handles.Writer.{Writer}

-- the reader a took the bytes xs, in this order, and is b now:
-- an end of the same pipe, and what it saw of closed it keeps
pub record Took (a : Reader) (xs : List ℕ) (b : Reader) : Type 0 where
  pub taken : b.side.end.taken ≡ a.side.end.taken ++ xs
  pub end : ReaderCopied a.side.end b.side.end
  pub handle : (b.side.cells ≡ a.side.cells) × (b.source ≡ a.source)

-- what a write and a shutdown change of a writer
abbrev pub IsWritten : WriteView → WriteView → Type 0
IsWritten a b =
    b ≡ record a { sent = b.sent; room = b.room; lent = b.lent; shut = b.shut; saw = b.saw }

-- the writer a was given the bytes xs, in this order, and is b now:
-- an end of the same pipe. What it published of them is their front,
-- and all of them unless it saw the pipe closed; and none once it saw that
pub record Gave (a : Writer) (xs : List ℕ) (b : Writer) : Type 0 where
  pub published : List ℕ
  pub lost : List ℕ
  pub given : xs ≡ published ++ lost
  pub sent : b.side.end.sent ≡ a.side.end.sent ++ published
  pub all : b.side.end.saw ≡ false → lost ≡ []
  pub over : a.side.end.saw ≡ true → published ≡ []
  pub saw : a.side.end.saw ≡ true → b.side.end.saw ≡ true
  pub end : IsWritten a.side.end b.side.end
  pub handle : (b.side.cells ≡ a.side.cells) × (b.source ≡ a.source)

-- the same answer of the handle, which fails for want of memory alone
abbrev pub of_io : Poll (Result ℕ Error) → Count
of_io (Ready (Ok n)) = Ready (Ok n)
of_io (Ready (Err e)) = Ready (Err Memory)
of_io Pending = Pending
