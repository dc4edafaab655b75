-- What the queries compare.
use Rattle.std.specs.Prelude.{◌≡◌, ℕ, ◌↔◌, Bool, IsTrue}
use Rattle.piper.specs.declared.handles.Reader.{Reader}
use Rattle.piper.specs.declared.handles.Writer.{Writer}
use Rattle.piper.specs.ReaderCalls.{ReaderMayHave}
use Rattle.piper.specs.WriterCalls.{WriterMayHave}

-- the answer says whether a number of bytes that may be unread is m
abbrev pub ReaderCompares : Reader → ℕ → Bool → Type 0
ReaderCompares r m answer = (n : ℕ) × ReaderMayHave r n × (IsTrue answer ↔ (n ≡ m))

abbrev pub WriterCompares : Writer → ℕ → Bool → Type 0
WriterCompares w m answer = (n : ℕ) × WriterMayHave w n × (IsTrue answer ↔ (n ≡ m))
