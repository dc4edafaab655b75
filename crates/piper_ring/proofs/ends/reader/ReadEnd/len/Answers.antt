-- What was checked lies between the known bytes and the capacity, and past what marks have said.
use Rattle.piper_ring.proofs.Kit.{◌≡◌, ℕ, ◌+◌, ◌-◌, ◌≤◌, length, take, arith, ap, ◌∙◌, subst, length-take-le, ReadView, FoundPublished}
use Rattle.piper_ring.specs.ReadView.{ReadEndMayHave}
use Rattle.piper_ring.proofs.Reaching.{prefix_length}
use Rattle.piper_ring.proofs.ReaderFacts.{heard_end, tail_apart}
use Rattle.piper_ring.proofs.ends.reader.ReadEnd.len.Goals as goal

pub returns : goal.returns
returns c = let e = c.self.inside.parts in let i = c.self.invariant in let k : ℕ = length e.known.bytes in let sum : e.seat.seen ≡ e.seat.head + k = i.counts.0 in let cap : e.indices.capacity ≡ e.seat.names.capacity = i.fits.0 in
    let saw = c.load_tail-tail.ensures in let t : ℕ = length c.load_tail-tail.result.1.bytes in let least : e.seat.seen ≤ t = saw.seen in let most : t ≤ e.seat.head + e.seat.names.capacity = saw.within in let heard : length e.heard.bytes ≤ t = saw.observed in let observed = prefix_length e.observed.bytes e.heard.bytes i.stream.1.0 in
    let far : c.unread_to.result ≡ t - e.seat.head = c.unread_to.ensures.value ∙ tail_apart e i t _ saw.seen saw.within saw.tail in
    let taken : length (take e.seat.head e.seat.have) ≡ e.seat.head = length-take-le e.seat.head e.seat.have i.whole.0 in
    subst (λ (r : ReadView). ReadEndMayHave r c.unread_to.result) c.self.view_is (record { found = subst (FoundPublished _) (omega arith) saw.found; known = omega arith; observed = omega arith; fits = omega arith; end = λ known. let all : t ≡ length e.heard.bytes = ap length (saw.end (heard_end e i known)) in omega arith })
