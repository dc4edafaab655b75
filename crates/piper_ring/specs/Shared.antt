-- What the two ends of a ring own, and what lies between them under an invariant.
-- Bytes are counted from the first one sent. The reader owns the places
-- of the bytes that it knows of, the writer those of its known room;
-- the invariant owns the words, all other places, and the right to free the memory.
use Rattle.std.specs.Prelude.{◌≡◌, ℕ, zero, suc, ◌+◌, ◌-◌, ◌*◌, ◌^◌, ◌<◌, ◌≤◌, Bool, true, false, List, length, drop, refl, slice_index}
use base.Fraction.{full_share}
use base.Share.{left, right}
use base.Stored.{coded_ℕ}
use base.Growing.{numbers, latest, at_least}
use base.Fml.{Lft, Share, Fml, ftrue, fsep, fwand, fex, froom, finv, fobs, fshr_bor}
use denote.Builtin.{u8}
use denote.RawPtr.{Ptr, coded_ptr, block_of, count_of, InBlock}
use denote.Sharing.{said, beside, one}
use Rattle.core.specs.Allocator.{array_of}
use Rattle.std.specs.Coded.{Coded, code_by, coded×, coded_bool, coded_list}
use Rattle.rtrb.specs.Fifo.{position_of}
use Rattle.rtrb.specs.Shared.{run, span}
use Rattle.piper_cells.specs.TokenCell.{right as right_to}
use Rattle.piper_cells.specs.Space.{lease, lender}
use Rattle.piper_ring.specs.Block.{behind, heap_token, purpose, size_of_block, space_of, space_room, space_words}
use Rattle.piper_ring.specs.Places.{fact, byte, unset}
pub use Rattle.piper_ring.specs.Streams.{Stream}
use Rattle.piper_ring.specs.Streams.{streams}
pub use Rattle.piper_ring.specs.Words.{flag, mirrored, word, word_room, where_gone}
use Rattle.piper_ring.specs.Trace.{bytes_code, closed_name, head_name, slot_name, tail_name, trace}
use Rattle.piper_ring.specs.Slot.{Filled, Stored, number, slot, stored_code, waits_code, wakes_code}

-- The capacity, and the ghost names under which the ring's history is kept.
pub record Names : Type 0 where
  pub capacity : ℕ
  -- all bytes sent, and whether the writer closed the ring: then no more are
  pub sent : ℕ
  -- the place up to which the writer may write
  pub limit : ℕ
  -- how many bytes were consumed
  pub head : ℕ
  -- how many the reader has seen
  pub seen : ℕ
  -- whether the ring is closed
  pub closed : ℕ
  -- how far each end has gone in leaving
  pub reader_stage : ℕ
  pub writer_stage : ℕ
  -- how each side is registered in the reader's slot, in which the reader waits, and in the
  -- writer's
  pub reader_waits : ℕ
  pub writer_wakes : ℕ
  pub writer_waits : ℕ
  pub reader_wakes : ℕ
  -- the rights to the four cells
  pub cells : List ℕ
  -- the lifetime for which the space of these cells is lent
  pub life : ℕ
  -- what the words stand for, and what each side did
  pub traced : List ℕ

abbrev pub names_of : (c s l h e o i j a b d f : ℕ) → List ℕ → ℕ → List ℕ → Names
names_of c s l h e o i j a b d f cells life traced = record {
  capacity = c;
  sent = s;
  limit = l;
  head = h;
  seen = e;
  closed = o;
  reader_stage = i;
  writer_stage = j;
  reader_waits = a;
  writer_wakes = b;
  writer_waits = d;
  reader_wakes = f;
  cells = cells;
  life = life;
  traced = traced;
}

abbrev pub Three : Type 0
Three = ℕ × (ℕ × ℕ)

abbrev pub coded_three : Coded Three
coded_three = coded× coded_ℕ (coded× coded_ℕ coded_ℕ)

abbrev pub of_threes : Three → Three → Three → Three → List ℕ → ℕ → List ℕ → Names
of_threes a b c d = names_of a.0 a.1.0 a.1.1 b.0 b.1.0 b.1.1 c.0 c.1.0 c.1.1 d.0 d.1.0 d.1.1

abbrev pub names_code : Coded Names
names_code =
    code_by ((Three × Three) × ((Three × Three) × (List ℕ × (ℕ × List ℕ))))
    (coded× (coded× coded_three coded_three)
    (coded× (coded× coded_three coded_three)
    (coded× (coded_list coded_ℕ) (coded× coded_ℕ (coded_list coded_ℕ)))))
    (λ z. (
      ((z.capacity, (z.sent, z.limit)), (z.head, (z.seen, z.closed))),
      (
        (
          (z.reader_stage, (z.writer_stage, z.reader_waits)),
          (z.writer_wakes, (z.writer_waits, z.reader_wakes)),
        ),
        (z.cells, (z.life, z.traced)),
      ),
    ))
    (λ p. of_threes p.0.0 p.0.1 p.1.0.0 p.1.0.1 p.1.1.0 p.1.1.1.0 p.1.1.1.1) (λ _. refl)

-- which ring it is: where its words and its memory begin, and its names
pub record Ring : Type 0 where
  pub words : Ptr
  pub at : Ptr
  pub names : Names

abbrev pub ring_of : Ptr → Ptr → Names → Ring
ring_of words at names = record {
  words = words;
  at = at;
  names = names;
}

abbrev pub ring_code : Coded Ring
ring_code =
    code_by (Ptr × (Ptr × Names)) (coded× coded_ptr (coded× coded_ptr names_code))
    (λ r. (r.words, (r.at, r.names))) (λ p. ring_of p.0 p.1.0 p.1.1) (λ _. refl)

-- an end's part of what it alone may change, and the invariant's part
abbrev pub half : Share
half = left full_share

abbrev pub other : Share
other = right full_share

pub record State : Type 0 where
  pub sent : List ℕ
  pub limit : ℕ
  pub head : ℕ
  pub seen : ℕ
  pub closed : Bool
  pub shut : Bool
  -- 0 while the end is there, 1 once the reader closed the ring to leave, 2 once the end is gone
  pub reader_stage : ℕ
  pub writer_stage : ℕ

-- what an end knows that lends its words: the reader or the writer
pub data Known : Type 0 where
  by_reader : ℕ → ℕ → Bool → Known
  by_writer : List ℕ → ℕ → Bool → Known

abbrev pub gone : ℕ → Bool
gone zero = false
gone (suc zero) = false
gone (suc (suc n)) = true

-- the word of leaving: 1 once an end is gone
abbrev pub one_gone : Bool → Bool → ℕ
one_gone false b = flag b
one_gone true b = 1

abbrev pub until_both : Bool → Bool → Fml → Fml
until_both true true F = ftrue
until_both false b F = F
until_both true false F = F

pub record Holds (capacity : ℕ) (s : State) : Type 0 where
  pub known : s.head ≤ s.seen
  pub arrived : s.seen ≤ length s.sent
  pub written : length s.sent ≤ s.limit
  pub freed : s.limit ≤ s.head + capacity
  -- closed only where the writer closed the ring or the reader is leaving
  pub closing : flag s.closed ≤ flag s.shut + s.reader_stage
  -- a ring that the writer closed is closed
  pub shutting : flag s.shut ≤ flag s.closed
  pub stages : (s.reader_stage ≤ 2) × (s.writer_stage ≤ 2)

abbrev pub four_rooms : Ptr → Fml
four_rooms w =
    fsep (word_room w 8) (fsep (word_room w 208) (fsep (word_room w 136) (word_room w 0)))

-- the words of both slots
abbrev pub slot_rooms : Ptr → Fml
slot_rooms w = fsep (word_room w 144) (word_room w 112)

abbrev pub all_rooms : Ptr → Fml
all_rooms w = fsep (four_rooms w) (slot_rooms w)

-- the bytes sent begin with xs, and where `shut`, the writer closed the ring after them
abbrev pub announced : Names → List ℕ → Bool → Fml
announced z xs shut = at_least streams z.sent (xs, shut)

-- all bytes sent begin with xs
abbrev pub began : Names → List ℕ → Fml
began z xs = announced z xs false

-- at least n bytes were consumed
abbrev pub took : Names → ℕ → Fml
took z n = at_least numbers z.head n

-- the flag of that name was raised for good, where the second is `true`
abbrev pub raised : ℕ → Bool → Fml
raised γ false = ftrue
raised γ true = at_least numbers γ 1

-- What belongs to one of the two slots: to the reader's, where the flag is `true`, else to the
-- writer's.

-- evidence of what the other side stored
abbrev pub evidence : Names → Bool → Stored → Fml
evidence z true s = announced z s.bytes s.closed
evidence z false s = fsep (took z s.count) (raised z.closed s.closed)

-- the index of the slot's word among the words
abbrev pub slot_word : Bool → ℕ
slot_word true = 18
slot_word false = 14

abbrev pub waiter : Names → Bool → ℕ
waiter z true = z.reader_waits
waiter z false = z.writer_waits

abbrev pub waker : Names → Bool → ℕ
waker z true = z.writer_wakes
waker z false = z.reader_wakes

-- what the side knows that waits in the slot
abbrev pub waits_in : Names → Bool → Bool → ℕ → Stored → Fml
waits_in z r waits tickets heard =
    fsep (fobs (waiter z r) ((waits_code Stored stored_code).code (waits, (tickets, heard))))
    (evidence z r heard)

-- what the side knows that wakes whoever waits there
abbrev pub wakes_in : Names → Bool → ℕ → Stored → Fml
wakes_in z r taken left = fobs (waker z r) ((wakes_code Stored stored_code).code (taken, left))

module _ (w p : Ptr) (z : Names) where
  -- in the reader's slot the reader waits for what the writer publishes, in the writer's the writer
  -- for what the reader consumes
  abbrev pub slot_of : Bool → Fml
  slot_of r =
      slot w (slot_word r * 8) z.cells (slot_name z.traced r) (waiter z r) (waker z r) stored_code
      (evidence z r)

  abbrev pub head_is : ℕ → ℕ → Fml
  head_is = mirrored coded_ℕ (head_name z.traced) w 8

  abbrev pub tail_is : ℕ → List ℕ → Fml
  tail_is = mirrored bytes_code (tail_name z.traced) w 208

  abbrev pub closed_is : ℕ → Bool → Fml
  closed_is = mirrored coded_bool (closed_name z.traced) w 136

  abbrev pub words : State → Fml
  words s =
      fsep (head_is (position_of z.capacity s.head) s.head)
      (fsep (tail_is (position_of z.capacity (length s.sent)) s.sent)
      (fsep (closed_is (flag s.closed) s.closed)
      (word w 0 (one_gone (gone s.reader_stage) (gone s.writer_stage)))))

  abbrev pub idle : ℕ → ℕ → List ℕ → Fml
  idle limit n xs = fsep (fact (length xs ≡ n)) (run (byte p z.capacity) limit xs)

  -- n places from `limit` on, with bytes that nobody speaks of
  abbrev pub spare : ℕ → ℕ → Fml
  spare limit n = fex (List ℕ) (idle limit n)

  -- room for all of the ring's bytes
  abbrev pub bytes_room : Fml
  bytes_room = froom (array_of u8 z.capacity) (block_of p) (count_of p)

  -- the ring's block, whatever lies in it
  abbrev pub block_room : Fml
  block_room = froom (purpose (size_of_block z.capacity)) (block_of w) (count_of w)

  abbrev pub block_token : Fml
  block_token = heap_token (purpose (size_of_block z.capacity)) w

  -- the right to free the block, and to the space between its words, which is lent
  abbrev pub rights : Fml
  rights = fsep block_token (lender z.life space_words (space_of w))

  -- what lies between the words, and after the bytes, and those rights
  abbrev pub titles : Fml
  titles = fsep (fwand (fsep (fsep (all_rooms w) (space_room w)) bytes_room) block_room) rights

  -- the lease of each end that is gone
  abbrev pub leases : Bool → Bool → Fml
  leases r t = fsep (where_gone r (lease z.life true)) (where_gone t (lease z.life false))

  abbrev pub slots : Fml
  slots = fsep (slot_of true) (slot_of false)

  abbrev pub deeds : State → Fml
  deeds s = fsep (fsep titles (leases (gone s.reader_stage) (gone s.writer_stage))) slots

  -- n places from k on, set or not
  abbrev pub blanks : ℕ → ℕ → Fml
  blanks = span (unset p z.capacity)

  -- what each end gave up when it left, and the right to free the memory
  abbrev pub given_up : State → Fml
  given_up s =
      fsep (where_gone (gone s.reader_stage) (blanks s.head (s.seen - s.head)))
      (fsep (where_gone (gone s.writer_stage) (blanks (length s.sent) (s.limit - length s.sent)))
      (deeds s))

  abbrev pub between : State → Fml
  between s =
      fsep (run (byte p z.capacity) s.seen (drop s.seen s.sent))
      (fsep (spare s.limit (s.head + z.capacity - s.limit)) (given_up s))

  abbrev pub memory : State → Fml
  memory s = fsep (words s) (between s)

  abbrev pub writer_knows : Share → List ℕ → ℕ → Bool → ℕ → Fml
  writer_knows q sent limit shut stage =
      fsep (latest streams q z.sent (sent, shut))
      (fsep (latest numbers q z.limit limit) (latest numbers q z.writer_stage stage))

  abbrev pub reader_knows : Share → ℕ → ℕ → ℕ → Fml
  reader_knows q head seen stage =
      fsep (fsep (latest numbers q z.head head) (latest numbers q z.reader_stage stage))
      (latest numbers q z.seen seen)

  abbrev pub ends : Bool → Fml
  ends closed = latest numbers full_share z.closed (flag closed)

  abbrev pub views : State → Fml
  views s =
      fsep (writer_knows other s.sent s.limit s.shut s.writer_stage)
      (fsep (reader_knows other s.head s.seen s.reader_stage) (ends s.closed))

  abbrev pub state_holds : State → Fml
  state_holds s =
      fsep (fact (Holds z.capacity s))
      (fsep (views s) (until_both (gone s.reader_stage) (gone s.writer_stage) (memory s)))

  abbrev pub Inner : Fml
  Inner = fex State state_holds

  -- with the list of all accesses
  abbrev pub Whole : Fml
  Whole = fsep Inner (trace z.traced)

  abbrev pub RingIsPlaced : Type 0
  RingIsPlaced = InBlock w × (p ≡ behind w) × (size_of_block z.capacity < 2 ^ 63)

  abbrev pub common : Fml
  common = fsep (fact RingIsPlaced) (finv Whole)

  -- the bytes `have` were sent first
  abbrev pub arrived_first : ℕ → List ℕ → Fml
  arrived_first seen have = fsep (fact (length have ≡ seen)) (began z have)

  -- `have` is all that the reader took, followed by all that it knows of
  abbrev pub reader_owns : ℕ → ℕ → List ℕ → Bool → Fml
  reader_owns head seen have leaving =
      fsep common (fsep (reader_knows half head seen (flag leaving)) (arrived_first seen have))

  abbrev pub reader_lends : ℕ → ℕ → Bool → Lft → Fml
  reader_lends head seen leaving =
      beside (said common) (one (λ q. reader_knows q head seen (flag leaving)))

  -- while the writer is there its stage is 0: it closes the ring to leave as it does for good
  abbrev pub writer_owns : List ℕ → ℕ → Bool → Fml
  writer_owns sent limit shut = fsep common (writer_knows half sent limit shut 0)

  abbrev pub writer_lends : List ℕ → ℕ → Bool → Lft → Fml
  writer_lends sent limit shut = beside (said common) (one (λ q. writer_knows q sent limit shut 0))

  -- what the end knows that lends its words
  abbrev pub knows : Known → Share → Fml
  knows (by_reader head seen leaving) q = reader_knows q head seen (flag leaving)
  knows (by_writer sent limit shut) q = writer_knows q sent limit shut 0

  abbrev pub lent_by : Lft → Known → Fml
  lent_by κ k = fshr_bor κ (knows k)

  -- an end lends its words: so the ring is open. With them comes evidence of what it has stored.
  abbrev pub words_lent : Bool → Stored → Lft → Fml
  words_lent r s κ = fsep common (fsep (fex Known (lent_by κ)) (evidence z r s))

  -- the word of a slot, and the right to the cell that lies there
  abbrev pub found_left : ℕ → Filled → Fml
  found_left far s =
      fsep (fact (s.0 < 4)) (fsep (word w far (number s)) (right_to true (slice_index z.cells s.0) s.1))

  abbrev pub left_in : ℕ → Fml
  left_in far = fex Filled (found_left far)

  abbrev pub wakers_left : Fml
  wakers_left = fsep (left_in 144) (left_in 112)

  -- all of the ring's block but for the space that is lent, and the words of the slots
  abbrev pub frame : Fml
  frame = fwand (fsep (space_room w) (slot_rooms w)) block_room

  abbrev pub both_leases : Fml
  both_leases = fsep (lease z.life true) (lease z.life false)

  -- all that both ends had of the block: with both leases the space comes back
  abbrev pub whole : Fml
  whole = fsep (fsep frame wakers_left) (fsep rights both_leases)

  -- what an end gets when it leaves: all, where the other end was gone before
  abbrev pub remains_own : Bool → Fml
  remains_own last = fsep (fact RingIsPlaced) (where_gone last whole)
