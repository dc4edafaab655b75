-- What the parts of a reader's end say of its indices, and its view of its known bytes.
use Rattle.piper_protocol.specs.ReaderIndices.{known_in}
use Rattle.piper_ring.specs.Streams.{Stream, Reaches, either}
use Rattle.piper_ring.specs.ReadView.{ReadView, read_view_of, IsReadEnd, KnowsEnd, in_one_piece}
use Rattle.piper_ring.specs.declared.ends.reader.ReadParts.{ReadParts}
use Rattle.piper_ring.proofs.Kit.{sym, ◌∙◌, position_of, distance, ◌≡◌, ℕ, ◌+◌, ◌-◌, ◌≤◌, Bool, true, false, length, refl, ap, arith}
use Rattle.piper_ring.proofs.Indices.{apart}
use Rattle.piper_ring.proofs.Reaching.{ended_still}

-- what is contiguous is known
pub within_known : (r : ReadView) (n : ℕ) → n ≤ in_one_piece r → n ≤ length r.known
within_known r n piece = omega arith

-- the known bytes are as many as lie between the end's two indices
pub known_apart : (e : ReadParts) → IsReadEnd e → known_in e.indices ≡ length e.known.bytes
known_apart e i = let sum : e.seat.seen ≡ e.seat.head + length e.known.bytes = i.counts.0 in let near : length e.known.bytes ≤ e.indices.capacity = i.counts.1 in
    let far : known_in e.indices ≡ e.seat.seen - e.seat.head = apart _ _ _ e.seat.head e.seat.seen (omega arith) (omega arith) i.cached.0 i.cached.1 in omega arith

-- the distance from its head of a tail that was loaded is that of their counts
pub tail_apart : (e : ReadParts) → IsReadEnd e → (t tail : ℕ) → e.seat.seen ≤ t → t ≤ e.seat.head + e.seat.names.capacity
    → tail ≡ position_of e.seat.names.capacity t → distance e.indices.capacity e.indices.head tail ≡ t - e.seat.head
tail_apart e i t tail seen within is = apart _ _ _ e.seat.head t (omega (arith, i.counts.0, seen)) (omega (arith, i.fits.0, within)) i.cached.0 (is ∙ ap (λ (n : ℕ). position_of n t) (sym i.fits.0))

one_of : (a b : Bool) (P : Type 0) → either a b ≡ true → (a ≡ true → P) → (b ≡ true → P) → P
one_of true b P e f g = f refl
one_of false b P e f g = g e

-- an end that was told of the pipe's end, or saw it, has heard of it
pub heard_end : (e : ReadParts) → IsReadEnd e → KnowsEnd (read_view_of e) → e.heard.shut ≡ true
heard_end e i k = one_of e.observed.shut e.saw.shut (e.heard.shut ≡ true) k (ended_still (e.observed.bytes, e.observed.shut) (e.heard.bytes, e.heard.shut) i.stream.1) (ended_still (e.saw.bytes, e.saw.shut) (e.heard.bytes, e.heard.shut) i.stream.2)

-- what it has heard of does not change after the pipe's end
pub all_stays : (e : ReadParts) → IsReadEnd e → KnowsEnd (read_view_of e) → (now : Stream) → Reaches (e.heard.bytes, e.heard.shut) now → now.0 ≡ e.heard.bytes
all_stays e i k now h = ap (λ (a : Stream). a.0) (h.1 (heard_end e i k))
