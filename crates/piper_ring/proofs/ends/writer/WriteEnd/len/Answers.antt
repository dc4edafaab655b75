-- What was checked leaves the known room free, and the bytes consumed that were told of.
use Rattle.piper_ring.proofs.Kit.{◌≡◌, ℕ, ◌+◌, ◌-◌, ◌≤◌, length, arith, subst, ◌∙◌, WriteView, FoundConsumed}
use Rattle.piper_ring.specs.WriteView.{WriteEndMayHave}
use Rattle.piper_ring.proofs.WriterFacts.{head_apart, sent_below}
use Rattle.piper_ring.proofs.ends.writer.WriteEnd.len.Goals as goal

pub returns : goal.returns
returns c = let e = c.self.inside.parts in let i = c.self.invariant in let s : ℕ = length e.seat.sent in let below : s ≤ e.seat.limit = sent_below e i in let low : e.indices.capacity ≤ e.seat.limit = i.freed.0 in let near : e.seat.limit ≤ s + e.indices.capacity = i.freed.1 in
    let cap : e.indices.capacity ≡ e.seat.names.capacity = i.fits.0 in let saw = c.load_head-head.ensures in let h : ℕ = c.load_head-head.result.1.count in let most : h ≤ s = saw.sent in let least : e.seat.limit ≤ h + e.seat.names.capacity = saw.room in let heard : e.observed.count ≤ h = saw.observed in
    let far : c.unread_from.result ≡ s - h = c.unread_from.ensures.value ∙ head_apart e i h _ saw.sent saw.room saw.head in
    subst (λ (w : WriteView). WriteEndMayHave w c.unread_from.result) c.self.view_is (record { found = subst (FoundConsumed _) (omega arith) saw.found; room = omega arith; observed = omega arith })
