-- The block of the heap in which a ring lies: its words, and its bytes behind them.
use Rattle.std.specs.Prelude.{ℕ, ◌+◌, ◌*◌, ◌/◌, ◌^◌, ◌<◌}
use mir.Syntax.{Ty}
use base.Fml.{Fml, fsep}
use denote.Builtin.{u64}
use denote.RawPtr.{Ptr, block_ptr, block_of, count_of}
use Rattle.std_heap.specs.contracts.GlobalAllocator.TheImpl.{ghosts}
use Rattle.core.specs.Allocator.{HasLayout, owned_block, array_of}
use Rattle.piper_cells.specs.Space.{room}
use Rattle.piper_ring.specs.Places.{fact}

-- the words in use, the space between them, and some that are not used
abbrev pub words_type : Ty
words_type = array_of u64 28

-- how many bytes the block takes: the words, and the bytes up to a whole word
abbrev pub size_of_block : ℕ → ℕ
size_of_block capacity = 224 + (capacity + 7) / 8 * 8

-- where the bytes begin, behind the words at w
abbrev pub behind : Ptr → Ptr
behind w = block_ptr (block_of w) (224 + count_of w)

-- The heap hands memory out for a type. A block is so many words.
abbrev pub purpose : ℕ → Ty
purpose size = array_of u64 (size / 8)

-- the right to give a block back to the heap, which is the same for each handle of it
abbrev pub heap_token : Ty → Ptr → Fml
heap_token = ghosts.dealloc_token (record { memory = record { seal = tt } })

-- between the words head and the writer's slot is a space of twelve words, for the cells of the wakers
abbrev pub space_words : ℕ
space_words = 12

abbrev pub space_of : Ptr → Ptr
space_of w = block_ptr (block_of w) (16 + count_of w)

abbrev pub space_room : Ptr → Fml
space_room w = room space_words (space_of w)

-- the heap can hand such memory out
abbrev pub IsClaim : ℕ → Type 0
IsClaim size = HasLayout (purpose size) size 8 × (size < 2 ^ 63)

-- memory at p in which nothing lies, and the right to free it
abbrev pub unused : ℕ → Ptr → Fml
unused size p = fsep (fact (size < 2 ^ 63)) (owned_block heap_token (purpose size) p)
