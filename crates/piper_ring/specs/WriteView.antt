-- What a contract sees of a `WriteEnd`, and how the end keeps it.
use Rattle.std.specs.Prelude.{◌≡◌, ℕ, ◌+◌, ◌-◌, ◌^◌, ◌<◌, ◌≤◌, Bool, true, false, List, [], length, min, refl, if◌then◌else◌}
use Rattle.std.specs.Coded.{Coded, code_by, coded×, coded_list, coded_ℕ, coded_bool}
use Rattle.rtrb.specs.Fifo.{position_of, slot_of as offset_of}
use Rattle.piper_protocol.specs.LendBound.{lend_bound}
use Rattle.piper_ring.specs.Shared.{Ring, ring_of, ring_code}
use Rattle.piper_ring.specs.RoomOrder.{IsRoom, end_of}
use Rattle.piper_ring.specs.Loads.{FoundClosed, FoundConsumed}
pub use Rattle.piper_ring.specs.Streams.{either}
use Rattle.piper_ring.specs.declared.ends.writer.WriteParts.{WriteParts}

pub record WriteView : Type 0 where
  -- which ring it is an end of
  pub ring : Ring
  pub capacity : ℕ
  -- all bytes that it published
  pub sent : List ℕ
  -- how many bytes it knows to have room for
  pub room : ℕ
  -- what is left of the slice last lent, as it is
  pub lent : List ℕ
  -- whether it closed the pipe for good
  pub shut : Bool
  -- how many consumed bytes it was told of
  pub observed : ℕ
  -- whether a call of its own saw the pipe closed, or closed it
  pub saw : Bool

abbrev pub write_view : Ring → ℕ → List ℕ → ℕ → List ℕ → Bool → ℕ → Bool → WriteView
write_view i c s r l u n w = record {
  ring = i;
  capacity = c;
  sent = s;
  room = r;
  lent = l;
  shut = u;
  observed = n;
  saw = w;
}

abbrev pub write_view_code : Coded WriteView
write_view_code =
    code_by (((Ring × ℕ) × (List ℕ × ℕ)) × ((List ℕ × Bool) × (ℕ × Bool)))
    (coded× (coded× (coded× ring_code coded_ℕ) (coded× (coded_list coded_ℕ) coded_ℕ))
    (coded× (coded× (coded_list coded_ℕ) coded_bool) (coded× coded_ℕ coded_bool)))
    (λ w. (((w.ring, w.capacity), (w.sent, w.room)), ((w.lent, w.shut), (w.observed, w.saw))))
    (λ p. write_view p.0.0.0 p.0.0.1 p.0.1.0 p.0.1.1 p.1.0.0 p.1.0.1 p.1.1.0 p.1.1.1) (λ _. refl)

abbrev pub write_view_of : WriteParts → WriteView
write_view_of e =
    write_view (ring_of e.seat.words e.seat.at e.seat.names) e.indices.capacity
    e.seat.sent (e.seat.limit - length e.seat.sent) e.room.lent.bytes
    e.seat.shut e.observed.count (either e.seat.shut e.saw.seen)

-- the place of the next byte
abbrev pub write_place : WriteView → ℕ
write_place w = offset_of w.capacity (length w.sent)

-- the head was loaded, and the end knows, or knew, of just the room that there was then
abbrev pub HasLoadedHead : WriteView → Type 0
HasLoadedHead w =
    (n : ℕ) × FoundConsumed w.ring.names n × (n + w.capacity ≡ length w.sent + w.room)

-- how many bytes there is room for in one piece
abbrev pub room_in_one_piece : WriteView → ℕ
room_in_one_piece w = min w.room (w.capacity - write_place w)

-- and how many of these are lent at most: none once the writer closed the pipe
abbrev pub lendable : WriteView → ℕ
lendable w = if w.shut then 0 else room_in_one_piece w

-- the capacity is the ring's, and the room ends at most a turn after what was published
abbrev pub IsBounded : WriteView → Type 0
IsBounded w =
    (w.capacity ≡ w.ring.names.capacity) × (w.capacity ≤ length w.sent + w.room)
    × (w.room ≤ w.capacity)

-- a call for at most `max` bytes may lend n: none once the writer closed the pipe,
-- and else all that is asked for and fits, or as much of it as one call may set to zero: twice what
-- was published and is lent, and 4,096 more
abbrev pub Lendable : WriteView → ℕ → ℕ → Type 0
Lendable w max n =
    (w.shut ≡ true → n ≡ 0) × (n ≤ min max (room_in_one_piece w))
    × (w.shut ≡ false → min (lend_bound (length w.sent + length w.lent))
    (min max (room_in_one_piece w)) ≤ n)

-- n bytes may be unread, as a load of the head found: the room that the end knows of is free, and the
-- bytes that it was told of are consumed
pub record WriteEndMayHave (w : WriteView) (n : ℕ) : Type 0 where
  pub room : n + w.room ≤ w.capacity
  pub observed : n + w.observed ≤ length w.sent
  pub found : FoundConsumed w.ring.names (length w.sent - n)

-- since a the end came to know of room, and of nothing else
pub record HasMoreRoom (a b : WriteView) : Type 0 where
  pub more : a.room ≤ b.room
  pub rest : b ≡ record a { room = b.room }

-- a load of the head made b of a, which knew of no room: it found all that had been consumed before,
-- `stored` bytes and those that the end was told of
pub record LoadsHead (stored : ℕ) (a b : WriteView) : Type 0 where
  pub after : stored + a.capacity ≤ length b.sent + b.room
  pub observed : a.observed + a.capacity ≤ length b.sent + b.room
  pub found : HasLoadedHead b
  pub more : HasMoreRoom a b

-- a load of closed found this: it found what the end closed, and what it saw closed
pub record WriterLoadsClosed (w : WriteView) (is_closed : Bool) : Type 0 where
  pub shut : w.shut ≡ true → is_closed ≡ true
  pub saw : w.saw ≡ true → is_closed ≡ true
  pub found : FoundClosed w.ring.names is_closed

-- how the end keeps its view
pub record IsWriteEnd (e : WriteParts) : Type 0 where
  pub fits :
      (e.indices.capacity ≡ e.seat.names.capacity) × (0 < e.indices.capacity)
      × (e.indices.capacity < 2 ^ 63)
  pub room : IsRoom e.room × (e.indices.zeroed ≡ e.room.blank.first)
  pub placed :
      (e.room.lent.at ≡ e.seat.at) × (e.room.lent.capacity ≡ e.seat.names.capacity)
      × (e.room.lent.first ≡ length e.seat.sent) × (end_of e.room.later ≡ e.seat.limit)
  pub freed :
      (e.indices.capacity ≤ e.seat.limit)
      × (e.seat.limit ≤ length e.seat.sent + e.indices.capacity)
  pub cached :
      (e.indices.tail ≡ position_of e.indices.capacity (length e.seat.sent))
      × (e.indices.head ≡ position_of e.indices.capacity (e.seat.limit - e.indices.capacity))
  pub leased : (e.lease.life ≡ e.seat.names.life) × (e.lease.first ≡ false)
  pub lending : e.indices.lent ≡ length e.room.lent.bytes
  pub piece :
      offset_of e.indices.capacity (length e.seat.sent) + length e.room.lent.bytes
      ≤ e.indices.capacity
  pub heard : (e.observed.names ≡ e.seat.names) × (e.saw.names ≡ e.seat.names)
  pub closed : e.indices.is_shut ≡ e.seat.shut
  pub lends_none : e.seat.shut ≡ true → e.room.lent.bytes ≡ []
