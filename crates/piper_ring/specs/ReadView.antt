-- What a contract sees of a `ReadEnd`, and how the end keeps it.
use Rattle.std.specs.Prelude.{◌≡◌, ℕ, ◌+◌, ◌-◌, ◌^◌, ◌<◌, ◌≤◌, ◌++◌, Bool, true, false, List, length, take, min, max, refl}
use Rattle.std.specs.Coded.{Coded, code_by, coded×, coded_list, coded_ℕ, coded_bool}
use Rattle.rtrb.specs.Fifo.{position_of, slot_of as offset_of}
use mathlib.Core.List.{IsPrefix}
use Rattle.piper_ring.specs.Shared.{Ring, ring_of, ring_code}
use Rattle.piper_ring.specs.Streams.{Reaches, either}
use Rattle.piper_ring.specs.Loads.{FoundClosed, FoundPublished}
use Rattle.piper_ring.specs.declared.ends.reader.ReadParts.{ReadParts}
use Rattle.piper_ring.specs.declared.ring.marks.WriteMark.{WriteMark}

pub record ReadView : Type 0 where
  -- which ring it is an end of
  pub ring : Ring
  pub capacity : ℕ
  -- all bytes that it consumed
  pub taken : List ℕ
  -- the bytes that it knows of, the next one first
  pub known : List ℕ
  -- how many published bytes it was told of, and whether a mark said that the writer closed the
  -- pipe
  pub observed : ℕ
  pub observed_shut : Bool
  -- whether a call of its own saw the pipe closed
  pub saw : Bool
  -- all bytes that were ever published, once one of the two told it that the pipe is closed
  pub all : List ℕ

abbrev pub read_view : Ring → ℕ → List ℕ → List ℕ → ℕ → Bool → Bool → List ℕ → ReadView
read_view i c t k n u s a = record {
  ring = i;
  capacity = c;
  taken = t;
  known = k;
  observed = n;
  observed_shut = u;
  saw = s;
  all = a;
}

abbrev pub read_view_code : Coded ReadView
read_view_code =
    code_by ((Ring × ℕ) × ((List ℕ × List ℕ) × ((ℕ × List ℕ) × (Bool × Bool))))
    (coded× (coded× ring_code coded_ℕ)
    (coded× (coded× (coded_list coded_ℕ) (coded_list coded_ℕ))
    (coded× (coded× coded_ℕ (coded_list coded_ℕ)) (coded× coded_bool coded_bool))))
    (λ r. ((r.ring, r.capacity), ((r.taken, r.known), ((r.observed, r.all), (r.observed_shut, r.saw)))))
    (λ p. read_view p.0.0 p.0.1 p.1.0.0 p.1.0.1 p.1.1.0.0 p.1.1.1.0 p.1.1.1.1 p.1.1.0.1) (λ _. refl)

abbrev pub read_view_of : ReadParts → ReadView
read_view_of e =
    read_view (ring_of e.seat.words e.seat.at e.seat.names) e.indices.capacity
    (take e.seat.head e.seat.have) e.known.bytes
    (length e.observed.bytes) e.observed.shut e.saw.shut e.heard.bytes

-- the place of the first known byte
abbrev pub read_place : ReadView → ℕ
read_place r = offset_of r.capacity (length r.taken)

-- how many known bytes are contiguous
abbrev pub in_one_piece : ReadView → ℕ
in_one_piece r = min (length r.known) (r.capacity - read_place r)

-- the tail was loaded, and the end knows, or knew, of just the bytes that were published then
abbrev pub HasLoadedTail : ReadView → Type 0
HasLoadedTail r = FoundPublished r.ring.names (length (r.taken ++ r.known))

-- the end learned from a mark that the pipe is closed, or saw it
abbrev pub KnowsEnd : ReadView → Type 0
KnowsEnd r = either r.observed_shut r.saw ≡ true

-- what the end took and knows of, and then some bytes that it doesn't know of, are all
abbrev pub HasTheRest : ReadView → Type 0
HasTheRest r = (rest : List ℕ) × ((r.taken ++ r.known) ++ rest ≡ r.all)

-- xs and ys are beginnings of one stream: they agree as far as both go
abbrev pub Agree : List ℕ → List ℕ → Type 0
Agree xs ys = (all : List ℕ) × IsPrefix xs all × IsPrefix ys all

-- n bytes may be unread, as a load of the tail found: all that the end knows of, all that it was told
-- of, and no more than fit; and just those up to the end where that is known
pub record ReadEndMayHave (r : ReadView) (n : ℕ) : Type 0 where
  pub known : length r.known ≤ n
  pub observed : r.observed ≤ length r.taken + n
  pub fits : n ≤ r.capacity
  pub end : KnowsEnd r → length r.taken + n ≡ length r.all
  pub found : FoundPublished r.ring.names (length r.taken + n)

-- what the end knows to be all that was ever published is so still
abbrev pub KeepsAll : ReadView → ReadView → Type 0
KeepsAll a b = KnowsEnd a → b.all ≡ a.all

-- since a the end came to know of bytes, and of nothing else
pub record KnowsMore (a b : ReadView) : Type 0 where
  pub more : (xs : List ℕ) × (b.known ≡ a.known ++ xs)
  pub all : KeepsAll a b
  pub rest : b ≡ record a { known = b.known; all = b.all }

-- a load of the tail made b of a, which knew of no byte: it found all that had been published before,
-- `stored` and what the end was told of, and the rest of the stream if it knows where that ends
pub record LoadsTail (stored : List ℕ) (a b : ReadView) : Type 0 where
  pub after : length stored ≤ length (b.taken ++ b.known)
  pub observed : a.observed ≤ length (b.taken ++ b.known)
  pub found : HasLoadedTail b
  pub end : KnowsEnd a → b.taken ++ b.known ≡ b.all
  pub more : KnowsMore a b

-- a load of closed found this, and made b of a: it found the close of a writer that had closed the
-- pipe before, of which the end may have been told, or may have seen it
pub record ReaderLoadsClosed (was_shut is_closed : Bool) (a b : ReadView) : Type 0 where
  pub after : was_shut ≡ true → is_closed ≡ true
  pub saw : a.saw ≡ true → is_closed ≡ true
  pub observed : a.observed_shut ≡ true → is_closed ≡ true
  pub found : FoundClosed a.ring.names is_closed
  pub end : is_closed ≡ true → HasTheRest b
  pub all : KeepsAll a b
  pub rest : b ≡ record a { saw = is_closed; all = b.all }

-- since a, the end b learned from a mark what that reports
pub record Observes (mark : WriteMark) (a b : ReadView) : Type 0 where
  pub observed : b.observed ≡ max a.observed (length mark.bytes)
  pub shut : b.observed_shut ≡ either a.observed_shut mark.shut
  pub agree : Agree (b.taken ++ b.known) mark.bytes
  pub last : mark.shut ≡ true → (b.all ≡ mark.bytes) × HasTheRest b
  pub all : KeepsAll a b
  pub rest : b ≡ record a { observed = b.observed; observed_shut = b.observed_shut; all = b.all }

-- how the end keeps its view
pub record IsReadEnd (e : ReadParts) : Type 0 where
  pub fits :
      (e.indices.capacity ≡ e.seat.names.capacity) × (0 < e.indices.capacity)
      × (e.indices.capacity < 2 ^ 63)
  pub placed :
      (e.known.at ≡ e.seat.at) × (e.known.capacity ≡ e.seat.names.capacity)
      × (e.known.first ≡ e.seat.head)
  pub counts :
      (e.seat.seen ≡ e.seat.head + length e.known.bytes)
      × (length e.known.bytes ≤ e.indices.capacity)
  pub cached :
      (e.indices.head ≡ position_of e.indices.capacity e.seat.head)
      × (e.indices.tail ≡ position_of e.indices.capacity e.seat.seen)
  pub heard :
      (e.observed.names ≡ e.seat.names) × (e.saw.names ≡ e.seat.names)
      × (e.heard.names ≡ e.seat.names)
  pub stream :
      IsPrefix e.seat.have e.heard.bytes
      × Reaches (e.observed.bytes, e.observed.shut) (e.heard.bytes, e.heard.shut)
      × Reaches (e.saw.bytes, e.saw.shut) (e.heard.bytes, e.heard.shut)
  pub leased : (e.lease.life ≡ e.seat.names.life) × (e.lease.first ≡ true)
  pub whole :
      (e.seat.head ≤ length e.seat.have)
      × (e.seat.have ≡ take e.seat.head e.seat.have ++ e.known.bytes)
  pub here : e.seat.leaving ≡ false
