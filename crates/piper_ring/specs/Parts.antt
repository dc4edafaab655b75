-- A ring's block without the space between its words: before the ring is opened, and once both of
-- its ends are gone.
use Rattle.std.specs.Prelude.{ℕ, ◌+◌, ◌^◌, ◌<◌}
use base.Fml.{Fml, fsep, fwand, froom}
use denote.Builtin.{u8}
use denote.RawPtr.{Ptr, InBlock, block_of, count_of}
use Rattle.core.specs.Allocator.{array_of}
use Rattle.piper_ring.specs.Block.{heap_token, purpose, size_of_block, space_room}
use Rattle.piper_ring.specs.Places.{fact}
use Rattle.piper_ring.specs.Shared.{all_rooms}

module _ (capacity : ℕ) (w : Ptr) where
  abbrev pub bytes_after : Fml
  bytes_after = froom (array_of u8 capacity) (block_of w) (224 + count_of w)

  abbrev pub block_at : Fml
  block_at = froom (purpose (size_of_block capacity)) (block_of w) (count_of w)

  abbrev pub token_of : Fml
  token_of = heap_token (purpose (size_of_block capacity)) w

  abbrev pub IsPlaced : Type 0
  IsPlaced = InBlock w × (size_of_block capacity < 2 ^ 63)

  -- the words in use, the space and the bytes make the block again
  abbrev pub rejoins : Fml
  rejoins = fwand (fsep (fsep (all_rooms w) (space_room w)) bytes_after) block_at

  abbrev pub parted : Fml
  parted = fsep (fact IsPlaced) (fsep (all_rooms w) (fsep bytes_after (fsep rejoins token_of)))

  abbrev pub framed : Fml
  framed = fsep (fact IsPlaced) (fsep (fwand (space_room w) block_at) token_of)
