-- What the copies of the two handles leave as it was.
use Rattle.std.specs.Prelude.{◌≡◌, ◌+◌, true, [], length}
use Rattle.piper_ring.specs.ReadView.{ReadView}
use Rattle.piper_ring.specs.WriteView.{WriteView}

-- a copy of the reader took bytes and came to know of some. What it saw of closed it keeps
pub record ReaderCopied (a b : ReadView) : Type 0 where
  pub saw : a.saw ≡ true → b.saw ≡ true
  pub rest : b ≡ record a { taken = b.taken; known = b.known; saw = b.saw; all = b.all }

-- a copy of the writer published bytes and came to know of room, and lends nothing. What it saw of
-- closed it keeps
pub record WriterCopied (a b : WriteView) : Type 0 where
  pub saw : a.saw ≡ true → b.saw ≡ true
  pub rest : b ≡ record a { sent = b.sent; room = b.room; lent = []; saw = b.saw }

-- the room that was taken up is that of the bytes that were published
abbrev pub IsReplaced : WriteView → WriteView → Type 0
IsReplaced a b = length b.sent + b.room ≡ length a.sent + a.room
