-- What both ends know once one thread held them.
use Rattle.std.specs.Prelude.{◌≡◌, ◌+◌, ◌++◌, true, length}
use Rattle.piper_ring.specs.ReadView.{KnowsEnd, KnowsMore, ReadView}
use Rattle.piper_ring.specs.WriteView.{HasMoreRoom, WriteView}

-- the reader a became b and the writer c became d: they know of all bytes that were published, and of
-- all room; where either saw the pipe closed the writer closed it
pub record EndsMeet (a b : ReadView) (c d : WriteView) : Type 0 where
  pub fifo : b.taken ++ b.known ≡ d.sent
  pub room : d.room + length b.known ≡ b.capacity
  pub shut : b.saw ≡ true → d.shut ≡ true
  pub observed : b.observed_shut ≡ true → d.shut ≡ true
  pub last : KnowsEnd b → b.all ≡ d.sent
  pub other_shut : d.saw ≡ d.shut
  pub reader : KnowsMore a b
  pub writer : HasMoreRoom c d
